use Rattle.std.proofs.Common.{◌≡◌, map, take}
use Rattle.php_ast.specs.statement.Tree.{empty}
use Rattle.php_ast.specs.statement.View.{sequence_from}
use Rattle.php_ast.specs.declaration.View.{item_view}
use Rattle.php_many_names.specs.Met.{over, met_script_item}
use Rattle.php_many_names.proofs.script.meet_script_items.Given as goal

abbrev pub invariant-loop-item : goal.invariant-loop-item
invariant-loop-item l = l.names ≡ over met_script_item l.fn.names (sequence_from empty (map item_view (take l.item-index l.items)))
