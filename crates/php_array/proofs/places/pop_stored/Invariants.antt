use Rattle.std.proofs.Common.{length}
use Rattle.php_array.specs.Slots.{HoldsSame}
use Rattle.php_array.proofs.places.pop_stored.Given as goal

abbrev pub invariant-loop-serial : goal.invariant-loop-serial
invariant-loop-serial g l = HoldsSame l.initial.slots.items l.slots.items

abbrev pub decreases-loop-serial : goal.decreases-loop-serial
decreases-loop-serial g l = length l.slots.items
