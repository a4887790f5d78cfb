use Rattle.std.proofs.Common.{◌≡◌, map, drop}
use Rattle.php_ast.specs.declaration.View.{item_view}
use Rattle.php_duplicates.specs.Over.{over}
use Rattle.php_duplicates.specs.Met.{met_methods}
use Rattle.php_duplicates.proofs.declaration.methods_of_items.Given as goal

abbrev pub invariant-loop-item : goal.invariant-loop-item
invariant-loop-item l = over met_methods (map item_view (drop l.item-index l.items)) l.first ≡ over met_methods (map item_view l.items) l.fn.met
