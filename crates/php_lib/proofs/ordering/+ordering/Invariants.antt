use Rattle.std.proofs.Common.{◌≡◌, ℕ, Some, ◌+◌, ◌-◌, ◌*◌, ◌^◌, drop}
use Rattle.php_entries.specs.Listing.{Listing}
use Rattle.php_memdef.specs.Contents.{Mem, array, object_of}
use Rattle.php_memdef.specs.Sound.{IsSound}
use Rattle.php_memdef.specs.Views.{found}
use Rattle.php_compare.specs.Ordering.{order_nested, order_of_pairs, element_pairs, property_pairs}
use Rattle.php_lib.proofs.WalkLemmas.{later}
use Rattle.php_lib.proofs.ordering.+ordering.Given as goal

abbrev pub decreases-order_of_places : goal.decreases-order_of_places
decreases-order_of_places g l = 4 * l.levels

abbrev pub decreases-order_of_properties : goal.decreases-order_of_properties
decreases-order_of_properties g l = 4 * l.levels + 1

abbrev pub decreases-order_of_elements : goal.decreases-order_of_elements
decreases-order_of_elements g l = 4 * l.levels + 2

abbrev pub decreases-order_of_objects : goal.decreases-order_of_objects
decreases-order_of_objects g l = 4 * l.levels + 2

abbrev pub decreases-order_by_glance : goal.decreases-order_by_glance
decreases-order_by_glance g l = 4 * l.levels + 3

-- the places are back where they were, and the entries that are left decide
abbrev pub invariant-order_of_elements-loop-next : goal.invariant-order_of_elements-loop-next
invariant-order_of_elements-loop-next g l = record {
  left_back : l.left ≡ l.a;
  right_back : l.right ≡ l.b;
  left_over : (m : Mem) → g.M.Memory.means l.memory m → IsSound m → (s t : Listing ℕ) → found m l.a ≡ Some (array s) → found m l.b ≡ Some (array t) → order_of_pairs (order_nested m l.levels) m (element_pairs s.entries t) ≡ order_of_pairs (order_nested m l.levels) m (element_pairs (later l.serial s.entries) t);
}

abbrev pub decreases-order_of_elements-loop-next : goal.decreases-order_of_elements-loop-next
decreases-order_of_elements-loop-next g l = 2 ^ 64 - l.serial

-- the properties that are left decide
abbrev pub invariant-order_of_properties-loop-place : goal.invariant-order_of_properties-loop-place
invariant-order_of_properties-loop-place g l = (m : Mem) → g.M.Memory.means l.memory m → IsSound m → order_of_pairs (order_nested m l.levels) m (property_pairs (object_of m l.g.0).properties (object_of m l.h.0).properties) ≡ order_of_pairs (order_nested m l.levels) m (property_pairs (drop l.place (object_of m l.g.0).properties) (object_of m l.h.0).properties)
