use Rattle.std.proofs.Common.{◌≡◌, map, take}
use Rattle.php_ast.specs.statement.Tree.{empty}
use Rattle.php_ast.specs.statement.View.{sequence_from}
use Rattle.php_ast.specs.declaration.View.{member_view}
use Rattle.php_many_names.specs.Met.{over, met_class_member}
use Rattle.php_many_names.proofs.declaration.meet_members.Given as goal

abbrev pub invariant-loop-member : goal.invariant-loop-member
invariant-loop-member l = l.names ≡ over met_class_member l.fn.names (sequence_from empty (map member_view (take l.member-index l.members)))
