use Rattle.std.proofs.Common.{◌≡◌, map, drop}
use Rattle.php_ast.specs.declaration.View.{item_view}
use Rattle.php_forms.specs.Items as spec
use Rattle.php_ast.specs.statement.View.{sequence}
use Rattle.php_legality.specs.Lists.{elements}
use Rattle.php_places.specs.Over.{over}
use Rattle.php_forms.proofs.script.check_all_members.Given as goal

abbrev pub invariant-loop-item : goal.invariant-loop-item
invariant-loop-item l = over (spec.met_item_members) (map item_view (drop l.item-index l.items)) l.first ≡ over (spec.met_item_members) (map item_view l.items) (l.fn.met)
