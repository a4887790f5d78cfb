use Rattle.std.proofs.Common.{◌≡◌, map, drop}
use Rattle.php_ast.specs.declaration.View.{member_view}
use Rattle.php_duplicates.specs.Over.{over}
use Rattle.php_duplicates.specs.Met.{met_method}
use Rattle.php_duplicates.proofs.declaration.params_of_members.Given as goal

abbrev pub invariant-loop-member : goal.invariant-loop-member
invariant-loop-member l = over met_method (map member_view (drop l.member-index l.members)) l.first ≡ over met_method (map member_view l.members) l.fn.met
