use Rattle.std.proofs.Common.{ℕ, ◌<◌, ◌≤◌, ◌-◌, length}
use Rattle.php_array.specs.Slots.{serial_at}
use Rattle.php_array.proofs.places.slots_through.Given as goal

abbrev pub invariant-loop-low : goal.invariant-loop-low
invariant-loop-low g l = record { ordered : l.low ≤ l.high; within : l.high ≤ length l.slots.items; through : (i : ℕ) → i < l.low → serial_at i l.slots.items ≤ l.serial; behind : (i : ℕ) → l.high ≤ i → i < length l.slots.items → l.serial < serial_at i l.slots.items }

abbrev pub decreases-loop-low : goal.decreases-loop-low
decreases-loop-low g l = l.high - l.low
