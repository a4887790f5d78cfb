use Rattle.std.proofs.Common.{◌≡◌, ◌≤◌, ℕ}
use Rattle.php_memplain_cells.specs.declared.cells.Cells.{Cells}
use Rattle.php_memplain_cells.specs.Seen.{stores_seen}
use Rattle.php_memplain_walk.specs.Way.{IsOnWay, CanBegin}
use Rattle.php_memplain_walk.proofs.copying.copy_array.Given as goal

abbrev pub invariant-loop-turn : goal.invariant-loop-turn
invariant-loop-turn l =
    ((before : Cells) (others : ℕ → ℕ) → CanBegin before others l.root l.fn.source l.fn.stores l.fn.objects.items l.fn.log → IsOnWay before l.root (record { source = l.fn.source; levels = l.fn.levels; stores = stores_seen l.fn.stores }) others l.copying l.stores l.objects.items l.log)
    × (l.fn.ledger.made ≤ l.ledger.made)
