use Rattle.std.proofs.Common.{◌≡◌, map, take}
use Rattle.php_ast.specs.statement.Tree.{empty}
use Rattle.php_ast.specs.statement.View.{sequence_from}
use Rattle.php_ast.specs.declaration.View.{item_view}
use Rattle.php_meaning.specs.Slots.{names_of_script}
use Rattle.php_compile.proofs.naming.name_items.Given as goal

abbrev pub invariant-loop-item : goal.invariant-loop-item
invariant-loop-item l = l.names.keys ≡ names_of_script l.fn.names.keys (sequence_from empty (map item_view (take l.item-index l.items)))
