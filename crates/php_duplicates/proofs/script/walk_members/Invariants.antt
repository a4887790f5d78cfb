use Rattle.std.proofs.Common.{◌≡◌, map, drop}
use Rattle.php_ast.specs.declaration.View.{member_view}
use Rattle.php_duplicates.specs.Over.{over}
use Rattle.php_duplicates.specs.Met.{met_member_body}
use Rattle.php_duplicates.proofs.script.walk_members.Given as goal

abbrev pub invariant-loop-member : goal.invariant-loop-member
invariant-loop-member l = over met_member_body (map member_view (drop l.member-index l.members)) l.first ≡ over met_member_body (map member_view l.members) l.fn.met
