use Rattle.std.proofs.Common.{◌≤◌, length}
use Rattle.php_memdef.specs.Contents.{Mem, object_of}
use Rattle.php_lib.proofs.ordering.order_of_property_counts.Given as goal

-- both have at least as many properties
abbrev pub invariant-loop-place : goal.invariant-loop-place
invariant-loop-place g l = (m : Mem) → g.M.Memory.means l.memory m → (l.place ≤ length (object_of m l.g.0).properties) × (l.place ≤ length (object_of m l.h.0).properties)
