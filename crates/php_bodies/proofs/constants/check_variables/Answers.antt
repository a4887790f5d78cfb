use Rattle.std.proofs.Common.{map, length, ◌≤◌, arith, ap, sym, ◌∙◌}
use Rattle.php_ast.specs.statement.View.{variable_view}
use Rattle.php_legality.proofs.SequenceLemmas.{elements_are}
use Rattle.php_bodies.specs.Own as spec
use Rattle.php_places.specs.Over.{over}
use Rattle.php_places.proofs.Lists.{step_over, end_over}
use Rattle.php_bodies.proofs.constants.check_variables.Goals as goal

pub loop-variable-init : goal.loop-variable-init
loop-variable-init c = ap (λ ys. over (spec.met_first_value) ys c.args.met) (sym (elements_are variable_view c.args.variables.now))

pub loop-variable-preserved : goal.loop-variable-preserved
loop-variable-preserved c =
    step_over (spec.met_first_value) variable_view c.args.variables.now c.loop-variable.variable-index c.variable-item.result _ _ _ c.loop-variable-test.true c.variable-item.is c.loop-variable.invariant (c.check_optional-first.ensures)

pub returns : goal.returns
returns c =
    let past : length c.args.variables.now ≤ c.loop-variable.variable-index = omega arith in
    end_over (spec.met_first_value) variable_view c.args.variables.now c.loop-variable.variable-index _ _ past c.loop-variable.invariant
