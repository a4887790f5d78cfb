use Rattle.std.proofs.Common.{◌≡◌, length}
use Rattle.slab.specs.Slab.{Slab}
use Rattle.php_memplain_cells.specs.declared.stores.Store.{Store}
use Rattle.php_memplain_copy.specs.More.{StoresGrown}
use Rattle.php_memplain_copy.proofs.log.undo_stores.Given as goal

abbrev pub invariant-loop-store : goal.invariant-loop-store
invariant-loop-store l = (before : Slab Store) → StoresGrown before l.fn.stores l.fn.done.items → StoresGrown before l.stores l.done.items

abbrev pub decreases-loop-store : goal.decreases-loop-store
decreases-loop-store l = length l.done.items
