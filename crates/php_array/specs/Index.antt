-- Where an index says that the entry of a key stands.
use Rattle.std.specs.Prelude.{ℕ, ◌≡◌, ◌-◌, if◌then◌else◌, nat_le, List, Option, Some, None, pos, negsuc}
use Rattle.std.specs.Map.{lookup}
use Rattle.php_value.specs.declared.key.Key.{Key}
use Rattle.php_value.specs.declared.key.Key.TheVariants.{Int, Str}
use Rattle.php_entries.specs.Keys.{key_eq}
use Rattle.php_array.specs.Slots.{place_of, live_place}
use Rattle.php_array.specs.Slot.{Slot}
use Rattle.php_array.specs.declared.key_index.KeyIndex.{KeyIndex}
use Rattle.php_array.specs.declared.key_index.KeyIndex.TheVariants.{Packed, Hashed}

-- the place that a map of keys has for a key
abbrev pub place_in : List (Key × ℕ) → Key → Option ℕ
place_in places k = lookup (key_eq k) places

-- the one place at which an entry with this key may stand
abbrev pub candidate : KeyIndex → Key → Option ℕ
candidate (Packed first) (Int (pos k)) = if nat_le first k then Some (k - first) else None
candidate (Packed first) (Int (negsuc k)) = None
candidate (Packed first) (Str s) = None
candidate (Hashed places) k = place_in places.entries k

-- the map has this for the key, and for the other keys what it had
abbrev pub SetsPlace : List (Key × ℕ) → List (Key × ℕ) → Key → Option ℕ → Type 0
SetsPlace old new k place = (q : Key) → place_in new q ≡ (if key_eq k q then place else place_in old q)

-- the index has lost the key, or never kept keys by themselves
abbrev pub ForgetsKey : KeyIndex → KeyIndex → Key → Type 0
ForgetsKey (Packed first) new k = new ≡ Packed first
ForgetsKey (Hashed places) new k = (left : _) × (new ≡ Hashed left) × SetsPlace places.entries left.entries k None

module _ {T : Type 0} where
  -- the index finds each key's entry in the slots
  abbrev pub IsIndexed : KeyIndex → List (Slot T) → Type 0
  IsIndexed (Packed first) slots = (k : Key) → live_place (candidate (Packed first) k) slots ≡ place_of k slots
  IsIndexed (Hashed places) slots = (k : Key) → place_in places.entries k ≡ place_of k slots
