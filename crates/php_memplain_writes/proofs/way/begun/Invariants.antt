use Rattle.std.proofs.Common.{◌≡◌, ◌≤◌, length, take}
use Rattle.php_memplain_writes.proofs.way.begun.Given as goal

-- steps were taken off at the end
abbrev pub invariant-loop-begun : goal.invariant-loop-begun
invariant-loop-begun l = record {
  base : l.begun.base ≡ l.place.base;
  path : l.begun.path ≡ take (length l.begun.path) l.place.path;
  enough : l.steps ≤ length l.begun.path;
}

abbrev pub decreases-loop-begun : goal.decreases-loop-begun
decreases-loop-begun l = length l.begun.path
