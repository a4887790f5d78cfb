use Rattle.std.proofs.Common.{length}
use Rattle.php_array.specs.Slots.{HoldsSame}
use Rattle.php_array.proofs.places.trim.Given as goal

abbrev pub invariant-loop-slots : goal.invariant-loop-slots
invariant-loop-slots g l = HoldsSame l.initial.slots.items l.slots.items

abbrev pub decreases-loop-slots : goal.decreases-loop-slots
decreases-loop-slots g l = length l.slots.items
