use Rattle.std.proofs.Common.{◌≡◌, ℕ, Some, ◌+◌, ◌-◌, ◌*◌, ◌^◌, length}
use Rattle.php_entries.specs.Listing.{Listing, count_of}
use Rattle.php_memdef.specs.Contents.{Mem, array}
use Rattle.php_memdef.specs.Sound.{IsSound}
use Rattle.php_memdef.specs.Views.{found}
use Rattle.php_compare.specs.Identity.{same_nested, same_entries}
use Rattle.php_lib.proofs.WalkLemmas.{later}
use Rattle.php_lib.proofs.identity.+identity.Given as goal

abbrev pub decreases-same_places : goal.decreases-same_places
decreases-same_places g l = 3 * l.levels

abbrev pub decreases-same_elements : goal.decreases-same_elements
decreases-same_elements g l = 3 * l.levels + 1

abbrev pub decreases-same_by_glance : goal.decreases-same_by_glance
decreases-same_by_glance g l = 3 * l.levels + 2

-- the places are back where they were, and the entries that are left on both sides, as many on each, decide
abbrev pub invariant-same_elements-loop-next : goal.invariant-same_elements-loop-next
invariant-same_elements-loop-next g l = record {
  left_back : l.left ≡ l.a;
  right_back : l.right ≡ l.b;
  left_over : (m : Mem) → g.M.Memory.means l.memory m → IsSound m → (s t : Listing ℕ) → found m l.a ≡ Some (array s) → found m l.b ≡ Some (array t) → same_entries (same_nested m l.levels) m s.entries t.entries ≡ same_entries (same_nested m l.levels) m (later l.left_serial s.entries) (later l.right_serial t.entries);
  as_many : (m : Mem) → g.M.Memory.means l.memory m → IsSound m → (s t : Listing ℕ) → found m l.a ≡ Some (array s) → found m l.b ≡ Some (array t) → count_of s ≡ count_of t → length (later l.left_serial s.entries) ≡ length (later l.right_serial t.entries);
}

abbrev pub decreases-same_elements-loop-next : goal.decreases-same_elements-loop-next
decreases-same_elements-loop-next g l = 2 ^ 64 - l.left_serial
