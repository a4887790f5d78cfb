-- What holds of every ordered array that the changes lead to.
use Rattle.std.specs.Prelude.{◌≡◌, ℕ, ◌<◌, ◌≤◌, false, List, [], ◌∷◌, pos, negsuc}
use Rattle.php_value.specs.declared.key.Key.{Key}
use Rattle.php_value.specs.declared.key.Key.TheVariants.{Int, Str}
use Rattle.php_entries.specs.Keys.{key_eq}
use Rattle.php_entries.specs.Listing.{Entry, Listing, count_of, ENTRY_LIMIT, SERIAL_LIMIT, KEY_LIMIT}
use Rattle.php_entries.specs.Changes.{Growth, Grown, Full, Limit}

-- the next key is above this key, where it is an int
abbrev pub IsKeyBelow : ℕ → Key → Type 0
IsKeyBelow next (Int (pos k)) = k < next
IsKeyBelow next (Int (negsuc k)) = Unit {0}
IsKeyBelow next (Str s) = Unit {0}

module _ {T : Type 0} where
  abbrev pub AreKeysBelow : ℕ → List (Entry T) → Type 0
  AreKeysBelow next [] = Unit {0}
  AreKeysBelow next (e ∷ es) = IsKeyBelow next e.key × AreKeysBelow next es

  -- no entry has this key
  abbrev pub HasNoKey : Key → List (Entry T) → Type 0
  HasNoKey k [] = Unit {0}
  HasNoKey k (e ∷ es) = (key_eq k e.key ≡ false) × HasNoKey k es

  -- no two entries have one key
  abbrev pub AreKeysDistinct : List (Entry T) → Type 0
  AreKeysDistinct [] = Unit {0}
  AreKeysDistinct (e ∷ es) = HasNoKey e.key es × AreKeysDistinct es

  -- the serials are above the first bound, rise from entry to entry, and are below the second
  abbrev pub DoSerialsRise : ℕ → List (Entry T) → ℕ → Type 0
  DoSerialsRise from [] to = Unit {0}
  DoSerialsRise from (e ∷ es) to = (from < e.serial) × (e.serial < to) × DoSerialsRise e.serial es to

  pub record IsSound (l : Listing T) : Type 0 where
    pub keys_distinct : AreKeysDistinct l.entries
    pub keys_below : AreKeysBelow l.next_key l.entries
    pub serials_rise : DoSerialsRise 0 l.entries l.next_serial
    pub some_serial : 1 ≤ l.next_serial
    pub next_key_within : l.next_key ≤ KEY_LIMIT
    pub next_serial_within : l.next_serial ≤ SERIAL_LIMIT
    pub count_within : count_of l ≤ ENTRY_LIMIT

  -- the array after a change is sound, where the change is not refused
  abbrev pub KeepsSound : Growth T → Type 0
  KeepsSound (Grown l) = IsSound l
  KeepsSound Full = Unit {0}
  KeepsSound Limit = Unit {0}
