use Rattle.std.proofs.Common.{◌≡◌, map, drop}
use Rattle.php_ast.specs.declaration.View.{class_constant_view}
use Rattle.php_forms.specs.MemberFaults as spec
use Rattle.php_ast.specs.statement.View.{sequence}
use Rattle.php_legality.specs.Lists.{elements}
use Rattle.php_places.specs.Over.{over}
use Rattle.php_forms.proofs.member.check_class_constants.Given as goal

abbrev pub invariant-loop-constant : goal.invariant-loop-constant
invariant-loop-constant l = over (spec.met_constant_value) (map class_constant_view (drop l.constant-index l.constants)) l.first ≡ over (spec.met_constant_value) (elements (sequence class_constant_view l.constants)) (l.fn.met)
