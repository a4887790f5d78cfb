use Rattle.std.proofs.Common.{◌≡◌, None, map, drop}
use Rattle.php_ast.specs.declaration.View.{item_view}
use Rattle.php_places.specs.Over.{over}
use Rattle.php_first_forms.specs.Links.{with_item}
use Rattle.php_first_forms.specs.Noted.{noted}
use Rattle.php_first_forms.proofs.script.left_in_items.Given as goal

abbrev pub invariant-loop-item : goal.invariant-loop-item
invariant-loop-item l = over with_item (map item_view (drop l.item-index l.items)) (noted l.first) ≡ over with_item (map item_view l.items) None
