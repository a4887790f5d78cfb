use Rattle.std.proofs.Common.{◌≡◌, map, drop}
use Rattle.php_ast.specs.declaration.View.{item_view}
use Rattle.php_forms.specs.Bodies as spec
use Rattle.php_ast.specs.statement.View.{sequence}
use Rattle.php_legality.specs.Lists.{elements}
use Rattle.php_places.specs.Over.{over}
use Rattle.php_forms.proofs.body.walk_items.Given as goal

abbrev pub invariant-loop-item : goal.invariant-loop-item
invariant-loop-item l = over (spec.met_item_bodies) (map item_view (drop l.item-index l.items)) l.first ≡ over (spec.met_item_bodies) (map item_view l.items) (l.fn.met)
