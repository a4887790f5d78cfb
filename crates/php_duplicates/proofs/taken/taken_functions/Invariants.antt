use Rattle.std.proofs.Common.{◌≡◌, map, drop}
use Rattle.php_ast.specs.declaration.View.{item_view}
use Rattle.php_duplicates.specs.Over.{over}
use Rattle.php_duplicates.specs.Met.{taken_function}
use Rattle.php_duplicates.specs.NamesTaken.{names_taken}
use Rattle.php_duplicates.proofs.taken.taken_functions.Given as goal

abbrev pub invariant-loop-item : goal.invariant-loop-item
invariant-loop-item l = over (taken_function (names_taken l.taken)) (map item_view (drop l.item-index l.items)) l.first ≡ over (taken_function (names_taken l.taken)) (map item_view l.items) l.fn.met
