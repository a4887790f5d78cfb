use Rattle.std.proofs.Common.{◌≡◌, [], map, drop}
use Rattle.php_ast.specs.declaration.View.{item_view}
use Rattle.php_duplicates.specs.Over.{over}
use Rattle.php_duplicates.specs.Met.{see_function}
use Rattle.php_duplicates.proofs.declaration.repeated_functions.Given as goal

abbrev pub invariant-loop-item : goal.invariant-loop-item
invariant-loop-item l = over see_function (map item_view (drop l.item-index l.items)) l.seen ≡ over see_function (map item_view l.items) (record { texts = []; first = l.fn.met })
