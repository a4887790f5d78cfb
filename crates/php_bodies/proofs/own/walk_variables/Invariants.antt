use Rattle.std.proofs.Common.{◌≡◌, map, drop}
use Rattle.php_ast.specs.statement.View.{sequence, variable_view}
use Rattle.php_legality.specs.Lists.{elements}
use Rattle.php_bodies.specs.Own as spec
use Rattle.php_places.specs.Over.{over}
use Rattle.php_bodies.proofs.own.walk_variables.Given as goal

abbrev pub invariant-loop-variable : goal.invariant-loop-variable
invariant-loop-variable l = over (spec.met_variable l.scope) (map variable_view (drop l.variable-index l.variables)) l.first ≡ over (spec.met_variable l.scope) (elements (sequence variable_view l.variables)) l.fn.met
