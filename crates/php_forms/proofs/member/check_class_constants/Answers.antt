use Rattle.std.proofs.Common.{map, length, ◌≤◌, arith, ap, sym, ◌∙◌}
use Rattle.php_ast.specs.declaration.View.{class_constant_view}
use Rattle.php_forms.specs.MemberFaults as spec
use Rattle.php_legality.proofs.SequenceLemmas.{elements_are}
use Rattle.php_places.specs.Over.{over}
use Rattle.php_places.proofs.Lists.{step_over, end_over}
use Rattle.php_forms.proofs.member.check_class_constants.Goals as goal

pub loop-constant-init : goal.loop-constant-init
loop-constant-init c = ap (λ ys. over (spec.met_constant_value) ys (c.args.met)) (sym (elements_are class_constant_view c.args.constants.now))

pub loop-constant-preserved : goal.loop-constant-preserved
loop-constant-preserved c =
    step_over (spec.met_constant_value) class_constant_view c.args.constants.now c.loop-constant.constant-index c.constant-item.result _ _ _ c.loop-constant-test.true c.constant-item.is c.loop-constant.invariant c.check_constant-first.ensures

pub returns : goal.returns
returns c =
    let past : length c.args.constants.now ≤ c.loop-constant.constant-index = omega arith in
    end_over (spec.met_constant_value) class_constant_view c.args.constants.now c.loop-constant.constant-index _ _ past c.loop-constant.invariant
