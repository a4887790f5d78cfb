use Rattle.std.proofs.Common.{◌≤◌}
use Rattle.php_array.proofs.PackLemmas.{IsPackedTo}
use Rattle.php_array.proofs.repack.drop_holes.Given as goal

abbrev pub invariant-loop-place : goal.invariant-loop-place
invariant-loop-place g l = IsPackedTo l.initial.slots.items l.slots.items l.kept l.place
