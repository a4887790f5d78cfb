use Rattle.std.proofs.Common.{◌≡◌, map, drop}
use Rattle.php_ast.specs.statement.View.{sequence, constant_view}
use Rattle.php_legality.specs.Lists.{elements}
use Rattle.php_bodies.specs.Own as spec
use Rattle.php_places.specs.Over.{over}
use Rattle.php_bodies.proofs.own.walk_constant_items.Given as goal

abbrev pub invariant-loop-item : goal.invariant-loop-item
invariant-loop-item l = over (spec.met_constant_item l.scope) (map constant_view (drop l.item-index l.items)) l.first ≡ over (spec.met_constant_item l.scope) (elements (sequence constant_view l.items)) l.fn.met
