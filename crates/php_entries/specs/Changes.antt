-- What each change makes of an ordered array.
use Rattle.std.specs.Prelude.{◌+◌, Bool, true, false, if◌then◌else◌, List, [], ◌∷◌, ◌++◌, Option, Some, None, pos}
use Rattle.php_value.specs.declared.key.Key.{Key}
use Rattle.php_value.specs.declared.key.Key.TheVariants.{Int}
use Rattle.php_entries.specs.Keys.{key_eq, next_key_above, next_key_without}
use Rattle.php_entries.specs.Listing.{Entry, Listing, entry_at, last_of, is_full, is_at_limit}

-- what a change that may need a new entry comes to: the array after it, or why it was refused
pub data Growth (T : Type 0) : Type 0 where
  Grown : Listing T → Growth T
  Full : Growth T
  Limit : Growth T

module _ {T : Type 0} where
  -- the array with one more entry at its end
  abbrev pub with_entry : Listing T → Key → T → Listing T
  with_entry l k v = record {
    entries = l.entries ++ record { serial = l.next_serial; key = k; value = v } ∷ [];
    next_key = next_key_above k l.next_key;
    next_serial = l.next_serial + 1;
  }

  -- the entries with another value under a key; all stay where they stand
  abbrev pub with_value : Key → T → List (Entry T) → List (Entry T)
  with_value k v [] = []
  with_value k v (e ∷ es) = if key_eq k e.key then record e { value = v } ∷ es else e ∷ with_value k v es

  -- the entries but the one with this key
  abbrev pub without_key : Key → List (Entry T) → List (Entry T)
  without_key k [] = []
  without_key k (e ∷ es) = if key_eq k e.key then es else e ∷ without_key k es

  -- all entries but the last
  abbrev pub without_last : List (Entry T) → List (Entry T)
  without_last [] = []
  without_last (e ∷ []) = []
  without_last (e ∷ f ∷ es) = e ∷ without_last (f ∷ es)

  -- a further entry, where one can be added
  abbrev pub entry_added : Bool → Listing T → Key → T → Growth T
  entry_added true l k v = Limit
  entry_added false l k v = Grown (with_entry l k v)

  -- the array with another value under a key; where no entry has the key it stays as it is
  abbrev pub with_value_under : Listing T → Key → T → Listing T
  with_value_under l k v = record l { entries = with_value k v l.entries }

  abbrev pub value_set : Option (Entry T) → Listing T → Key → T → Growth T
  value_set (Some e) l k v = Grown (with_value_under l k v)
  value_set None l k v = entry_added (is_at_limit l) l k v

  abbrev pub value_appended : Bool → Listing T → T → Growth T
  value_appended true l v = Full
  value_appended false l v = entry_added (is_at_limit l) l (Int (pos l.next_key)) v

  -- a value under a key: in place of the one that is there, or in a new entry at the end
  unfoldable pub set_value : Listing T → Key → T → Growth T
  set_value l k v = value_set (entry_at l k) l k v

  -- a value in a new entry under the next key
  unfoldable pub append_value : Listing T → T → Growth T
  append_value l v = value_appended (is_full l) l v

  -- the array without a key; the next key and the next serial stay
  unfoldable pub remove_key : Listing T → Key → Listing T
  remove_key l k = record l { entries = without_key k l.entries }

  abbrev pub popped : Option (Entry T) → Listing T → Listing T
  popped None l = l
  popped (Some e) l = record l { entries = without_last l.entries; next_key = next_key_without e.key l.next_key }

  -- the array without its last entry; the next key gives back the key that it had
  unfoldable pub pop_entry : Listing T → Listing T
  pop_entry l = popped (last_of l.entries) l

module _ {T U : Type 0} where
  -- the entries with these values, one each in their order
  abbrev pub entries_with : List (Entry T) → List U → List (Entry U)
  entries_with [] vs = []
  entries_with (e ∷ es) [] = []
  entries_with (e ∷ es) (v ∷ vs) = record { serial = e.serial; key = e.key; value = v } ∷ entries_with es vs

  -- the array with these values: serials, keys, next key and next serial stay
  unfoldable pub with_values : Listing T → List U → Listing U
  with_values l vs = record { entries = entries_with l.entries vs; next_key = l.next_key; next_serial = l.next_serial }

  abbrev pub map_entry : (T → U) → Entry T → Entry U
  map_entry f e = record { serial = e.serial; key = e.key; value = f e.value }

  -- the entries with each value mapped
  abbrev pub map_entries : (T → U) → List (Entry T) → List (Entry U)
  map_entries f [] = []
  map_entries f (e ∷ es) = map_entry f e ∷ map_entries f es

  abbrev pub map_listing : (T → U) → Listing T → Listing U
  map_listing f l = record { entries = map_entries f l.entries; next_key = l.next_key; next_serial = l.next_serial }

  abbrev pub map_growth : (T → U) → Growth T → Growth U
  map_growth f (Grown l) = Grown (map_listing f l)
  map_growth f Full = Full
  map_growth f Limit = Limit
