use Rattle.std.proofs.Common.{◌≡◌, [], map, drop}
use Rattle.php_ast.specs.declaration.View.{member_view}
use Rattle.php_duplicates.specs.Over.{over}
use Rattle.php_duplicates.specs.Met.{see_property}
use Rattle.php_duplicates.proofs.member.repeated_properties.Given as goal

abbrev pub invariant-loop-member : goal.invariant-loop-member
invariant-loop-member l = over see_property (map member_view (drop l.member-index l.members)) l.seen ≡ over see_property (map member_view l.members) (record { texts = []; first = l.fn.met })
