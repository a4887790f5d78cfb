use Rattle.std.proofs.Common.{◌≡◌, drop}
use Rattle.php_array.specs.Slots.{entries_in}
use Rattle.php_array.proofs.places.next_stored.Given as goal

abbrev pub invariant-loop-place : goal.invariant-loop-place
invariant-loop-place g l = entries_in (drop l.place l.slots.items) ≡ entries_in (drop l.from l.slots.items)
