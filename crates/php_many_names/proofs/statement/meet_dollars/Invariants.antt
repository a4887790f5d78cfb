use Rattle.std.proofs.Common.{◌≡◌, map, take}
use Rattle.php_ast.specs.statement.Tree.{empty}
use Rattle.php_ast.specs.statement.View.{sequence_from, name_view}
use Rattle.php_many_names.specs.Met.{over, met_dollar}
use Rattle.php_many_names.proofs.statement.meet_dollars.Given as goal

abbrev pub invariant-loop-name : goal.invariant-loop-name
invariant-loop-name l = l.names ≡ over met_dollar l.fn.names (sequence_from empty (map name_view (take l.name-index l.those)))
