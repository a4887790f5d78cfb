use Rattle.std.proofs.Common.{◌≡◌, map, drop}
use Rattle.php_forms.specs.MemberFaults as spec
use Rattle.php_ast.specs.statement.View.{sequence, variable_view}
use Rattle.php_legality.specs.Lists.{elements}
use Rattle.php_places.specs.Over.{over}
use Rattle.php_forms.proofs.member.check_property_names.Given as goal

abbrev pub invariant-loop-variable : goal.invariant-loop-variable
invariant-loop-variable l = over (spec.met_property) (map variable_view (drop l.variable-index l.variables)) l.first ≡ over (spec.met_property) (elements (sequence variable_view l.variables)) (l.fn.met)
