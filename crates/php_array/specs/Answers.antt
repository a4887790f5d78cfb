-- What the calls on an array hand back.
use Rattle.std.specs.Prelude.{ℕ, ◌+◌, [], ◌∷◌, ◌++◌}
use Rattle.std.specs.Borrow.{Bor}
use Rattle.php_value.specs.declared.key.Key.{Key}
use Rattle.php_entries.specs.Keys.{next_key_above}
use Rattle.php_entries.specs.Listing.{Entry, Listing}
use Rattle.php_array.specs.declared.refusal.NoSet.{NoSet}
use Rattle.php_array.specs.declared.refusal.NoSet.TheVariants as set
use Rattle.php_array.specs.declared.refusal.NoAppend.{NoAppend}
use Rattle.php_array.specs.declared.refusal.NoAppend.TheVariants as append

module _ {T : Type 0} where
  -- the value that was not set
  abbrev pub unset_value : NoSet T → T
  unset_value (set.Limit v) = v
  unset_value (set.NoMemory v) = v

  -- the value that was not appended
  abbrev pub unappended_value : NoAppend T → T
  unappended_value (append.Full v) = v
  unappended_value (append.Limit v) = v
  unappended_value (append.NoMemory v) = v

  -- the entry that is shown by its parts
  abbrev pub shown_entry : ℕ × (Bor Key) × (Bor T) → Entry T
  shown_entry r = record { serial = r.0; key = r.1.now; value = r.2.now }

  abbrev pub key_and_value : Entry T → Key × T
  key_and_value e = (e.key, e.value)

  -- the array with one more entry at its end, which has this serial
  abbrev pub with_serial : Listing T → ℕ → Key → T → Listing T
  with_serial l serial k v = record {
    entries = l.entries ++ record { serial = serial; key = k; value = v } ∷ [];
    next_key = next_key_above k l.next_key;
    next_serial = serial + 1;
  }
