use Rattle.std.proofs.Common.{◌≡◌, map, drop}
use Rattle.php_ast.specs.declaration.View.{member_view}
use Rattle.php_forms.specs.Items as spec
use Rattle.php_ast.specs.statement.View.{sequence}
use Rattle.php_legality.specs.Lists.{elements}
use Rattle.php_places.specs.Over.{over}
use Rattle.php_forms.proofs.script.check_member_signatures.Given as goal

abbrev pub invariant-loop-member : goal.invariant-loop-member
invariant-loop-member l = over (spec.met_member_signature) (map member_view (drop l.member-index l.members)) l.first ≡ over (spec.met_member_signature) (elements (sequence member_view l.members)) (l.fn.met)
