use Rattle.std.proofs.Common.{length, ◌≤◌, ◌∙◌, ap, sym, arith}
use Rattle.php_ast.specs.declaration.View.{class_constant_view}
use Rattle.php_legality.proofs.SequenceLemmas.{elements_are}
use Rattle.php_duplicates.specs.Over.{over}
use Rattle.php_duplicates.specs.Met.{see_class_constant}
use Rattle.php_duplicates.proofs.Lists.{step_over, end_over}
use Rattle.php_duplicates.proofs.member.see_class_constants.Goals as goal

pub loop-constant-preserved : goal.loop-constant-preserved
loop-constant-preserved c =
    step_over see_class_constant class_constant_view c.args.constants.now c.loop-constant.constant-index c.constant-item.result _ _ _ c.loop-constant-test.true c.constant-item.is c.loop-constant.invariant c.in_ok-see_word.ensures

pub returns : goal.returns
returns c =
    let past : length c.args.constants.now ≤ c.loop-constant.constant-index = omega arith in
    end_over see_class_constant class_constant_view c.args.constants.now c.loop-constant.constant-index _ _ past c.loop-constant.invariant
    ∙ ap (λ ys. over see_class_constant ys c.args.seen.now) (sym (elements_are class_constant_view c.args.constants.now))
