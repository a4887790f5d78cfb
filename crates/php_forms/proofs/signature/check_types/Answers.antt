use Rattle.std.proofs.Common.{map, length, ◌≤◌, arith, ap, sym, ◌∙◌}
use Rattle.php_ast.specs.declaration.View.{param_view}
use Rattle.php_forms.specs.Signatures as spec
use Rattle.php_legality.proofs.SequenceLemmas.{elements_are}
use Rattle.php_places.specs.Over.{over}
use Rattle.php_places.proofs.Lists.{step_over, end_over}
use Rattle.php_forms.proofs.signature.check_types.Goals as goal

pub loop-param-init : goal.loop-param-init
loop-param-init c = ap (λ ys. over (spec.met_declared c.args.in_class) ys (c.args.met)) (sym (elements_are param_view c.args.params.now))

pub loop-param-preserved : goal.loop-param-preserved
loop-param-preserved c =
    step_over (spec.met_declared c.args.in_class) param_view c.args.params.now c.loop-param.param-index c.param-item.result _ _ _ c.loop-param-test.true c.param-item.is c.loop-param.invariant c.check_optional_type-first.ensures

pub returns : goal.returns
returns c =
    let past : length c.args.params.now ≤ c.loop-param.param-index = omega arith in
    end_over (spec.met_declared c.args.in_class) param_view c.args.params.now c.loop-param.param-index _ _ past c.loop-param.invariant
