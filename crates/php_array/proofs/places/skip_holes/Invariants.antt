use Rattle.std.proofs.Common.{◌≤◌, ◌-◌, length}
use Rattle.php_array.specs.Slots.{AreHoles}
use Rattle.php_array.proofs.places.skip_holes.Given as goal

abbrev pub invariant-loop-place : goal.invariant-loop-place
invariant-loop-place g l = record { holes : AreHoles l.place l.slots.items; within : l.place ≤ length l.slots.items }

abbrev pub decreases-loop-place : goal.decreases-loop-place
decreases-loop-place g l = length l.slots.items - l.place
