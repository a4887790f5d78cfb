use Rattle.std.proofs.Common.{◌≡◌, map, take}
use Rattle.php_ast.specs.statement.Tree.{empty}
use Rattle.php_ast.specs.statement.View.{sequence_from, name_view}
use Rattle.php_many_names.specs.Met.{over, met_name}
use Rattle.php_many_names.proofs.statement.meet_names.Given as goal

abbrev pub invariant-loop-name : goal.invariant-loop-name
invariant-loop-name l = l.names ≡ over met_name l.fn.names (sequence_from empty (map name_view (take l.name-index l.those)))
