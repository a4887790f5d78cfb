-- The definition at work, on arrays whose values are numbers.
use Rattle.std.proofs.Common.{◌≡◌, ℕ, [], ◌∷◌, refl, Some, None}
use Rattle.std.specs.Prelude.{ℤ, pos, negsuc}
use Rattle.php_value.specs.declared.key.Key.{Key}
use Rattle.php_value.specs.declared.key.Key.TheVariants.{Int, Str}
use Rattle.php_entries.specs.Listing.{Entry, Listing, no_entries, value_at, entry_after, KEY_LIMIT, SERIAL_LIMIT}
use Rattle.php_entries.specs.Changes.{Growth, Grown, Full, Limit, set_value, append_value, remove_key, pop_entry, with_values}

-- the array that a change leads to, where it isn't refused
abbrev after : Listing ℕ → Growth ℕ → Listing ℕ
after old (Grown l) = l
after old Full = old
after old Limit = old

abbrev set : Listing ℕ → ℤ → ℕ → Listing ℕ
set l k v = after l (set_value l (Int k) v)

abbrev append : Listing ℕ → ℕ → Listing ℕ
append l v = after l (append_value l v)

abbrev remove : Listing ℕ → ℤ → Listing ℕ
remove l k = remove_key l (Int k)

abbrev entry : ℕ → Key → ℕ → Entry ℕ
entry serial key value = record { serial = serial; key = key; value = value }

-- the key -5, two appended values, and the first of them removed
abbrev gap : Listing ℕ
gap = remove (append (append (set no_entries (negsuc 4) 10) 11) 12) (pos 0)

-- a negative key leaves the next key at 0, and a removal leaves the next key
gap_is : gap ≡ record { entries = entry 1 (Int (negsuc 4)) 10 ∷ entry 3 (Int (pos 1)) 12 ∷ []; next_key = 2; next_serial = 4 }
unfolding set_value append_value remove_key
gap_is = refl

-- a walk goes on behind a removed entry, and never meets an entry twice
after_first : (entry_after gap 1 ≡ Some (entry 3 (Int (pos 1)) 12)) × (entry_after gap 2 ≡ Some (entry 3 (Int (pos 1)) 12)) × (entry_after gap 3 ≡ None)
unfolding set_value append_value remove_key
after_first = (refl, refl, refl)

-- other values keep the serials
other_values : entry_after (with_values gap (20 ∷ 21 ∷ [])) 1 ≡ Some (entry 3 (Int (pos 1)) 21)
unfolding set_value append_value remove_key with_values
other_values = refl

-- a key that is there keeps its place and its serial
abbrev three : Listing ℕ
three = append (append (append no_entries 1) 2) 3

replaced : set three (pos 0) 9 ≡ record three { entries = entry 1 (Int (pos 0)) 9 ∷ entry 2 (Int (pos 1)) 2 ∷ entry 3 (Int (pos 2)) 3 ∷ [] }
unfolding set_value append_value
replaced = refl

-- a higher key raises the next key, a lower one and a text leave it
raised : ((set three (pos 9) 4).next_key ≡ 10) × ((set (set three (pos 9) 4) (pos 5) 5).next_key ≡ 10) × ((after three (set_value three (Str (97 ∷ [])) 4)).next_key ≡ 3)
unfolding set_value append_value
raised = (refl, refl, refl)

-- a popped key is given back, a removed one isn't
popped_key : ((pop_entry three).next_key ≡ 2) × ((remove three (pos 2)).next_key ≡ 3) × ((pop_entry (remove three (pos 2))).next_key ≡ 3)
unfolding set_value append_value pop_entry remove_key
popped_key = (refl, refl, refl)

-- the last key -1 is next to the next key 0, which stays
popped_negative : pop_entry (set no_entries (negsuc 0) 1) ≡ record { entries = []; next_key = 0; next_serial = 2 }
unfolding set_value pop_entry
popped_negative = refl

-- behind the greatest int nothing is appended, but other keys are set
abbrev greatest : Listing ℕ
greatest = set no_entries (pos 9223372036854775807) 1

no_key_left : (append_value greatest 2 ≡ Full) × ((set greatest (pos 3) 2).next_key ≡ KEY_LIMIT) × ((pop_entry greatest).next_key ≡ 9223372036854775807)
unfolding set_value append_value pop_entry
no_key_left = (refl, refl, refl)

-- no serial is left: only values of keys that are there can be set; where no key is left either, that comes first
abbrev worn : Listing ℕ
worn = record three { next_serial = SERIAL_LIMIT }

no_serial_left : (append_value worn 4 ≡ Limit) × (set_value worn (Int (pos 3)) 4 ≡ Limit) × (value_at (set worn (pos 2) 4) (Int (pos 2)) ≡ Some 4) × (append_value (record worn { next_key = KEY_LIMIT }) 4 ≡ Full)
unfolding set_value append_value
no_serial_left = (refl, refl, refl, refl)
