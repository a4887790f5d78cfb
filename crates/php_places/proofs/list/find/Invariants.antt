use Rattle.std.proofs.Common.{◌≡◌, drop}
use Rattle.php_places.specs.Over.{over}
use Rattle.php_places.specs.Shapes as spec
use Rattle.php_places.proofs.list.find.Given as goal

abbrev pub invariant-loop-item : goal.invariant-loop-item
invariant-loop-item l = over spec.look (drop l.item-index l.items) l.found ≡ over spec.look l.items spec.nothing
