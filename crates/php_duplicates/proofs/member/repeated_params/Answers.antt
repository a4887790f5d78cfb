use Rattle.std.proofs.Common.{length, ◌≤◌, ◌∙◌, ap, sym, arith, map, []}
use Rattle.php_ast.specs.declaration.View.{param_view}
use Rattle.php_legality.proofs.SequenceLemmas.{elements_are}
use Rattle.php_duplicates.specs.Over.{over}
use Rattle.php_duplicates.specs.Met.{see_param}
use Rattle.php_duplicates.specs.Saw.{Saw}
use Rattle.php_duplicates.proofs.Lists.{step_over, end_over}
use Rattle.php_duplicates.proofs.member.repeated_params.Goals as goal

pub loop-param-init : goal.loop-param-init
loop-param-init c = ap (over see_param (map param_view c.args.params.now)) c.new-seen.ensures

pub loop-param-preserved : goal.loop-param-preserved
loop-param-preserved c =
    step_over see_param param_view c.args.params.now c.loop-param.param-index c.param-item.result _ _ _ c.loop-param-test.true c.param-item.is c.loop-param.invariant c.in_ok-see_name.ensures

pub returns : goal.returns
returns c =
    let past : length c.args.params.now ≤ c.loop-param.param-index = omega arith in
    c.first.ensures
    ∙ ap (λ (s : Saw). s.first)
    (end_over see_param param_view c.args.params.now c.loop-param.param-index _ _ past c.loop-param.invariant ∙ ap (λ ys. over see_param ys (record { texts = []; first = c.args.met })) (sym (elements_are param_view c.args.params.now)))
