use Rattle.std.proofs.Common.{◌≡◌, map, drop}
use Rattle.php_ast.specs.declaration.View.{item_view}
use Rattle.php_told.specs.First.{first_in_item}
use Rattle.php_told.specs.Parts.{first_of}
use Rattle.php_told.proofs.script.first_in_items.Given as goal

abbrev pub invariant-loop-item : goal.invariant-loop-item
invariant-loop-item l = first_of first_in_item (map item_view (drop l.item-index l.items)) ≡ first_of first_in_item (map item_view l.items)
