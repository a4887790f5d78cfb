-- An ordered array as the list of its entries.
use Rattle.std.specs.Prelude.{ℕ, Bool, ◌||◌, nat_le, nat_lt, is_some, List, [], ◌∷◌, length, Option, Some, None, option_map, find}
use Rattle.php_value.specs.declared.key.Key.{Key}
use Rattle.php_entries.specs.Keys.{key_eq}

-- an entry: its birth serial, its key and its value
pub record Entry (T : Type 0) : Type 0 where
  pub serial : ℕ
  pub key : Key
  pub value : T

-- an array: its entries in the order of their making, the key of the next append, and the serial of
-- the next entry that is made
pub record Listing (T : Type 0) : Type 0 where
  pub entries : List (Entry T)
  pub next_key : ℕ
  pub next_serial : ℕ

-- the most entries of an array
abbrev pub ENTRY_LIMIT : ℕ
ENTRY_LIMIT = 4194304

-- the next serial at which no entry can be made any more
abbrev pub SERIAL_LIMIT : ℕ
SERIAL_LIMIT = 18446744073709551615

-- the next key at which nothing can be appended any more
abbrev pub KEY_LIMIT : ℕ
KEY_LIMIT = 9223372036854775808

module _ {T : Type 0} where
  -- the array without entries, as it is first made
  abbrev pub no_entries : Listing T
  no_entries = record { entries = []; next_key = 0; next_serial = 1 }

  abbrev pub count_of : Listing T → ℕ
  count_of l = length l.entries

  -- the entry with a key
  abbrev pub entry_at : Listing T → Key → Option (Entry T)
  entry_at l k = find (λ e. key_eq k e.key) l.entries

  -- the value under a key
  abbrev pub value_at : Listing T → Key → Option T
  value_at l k = option_map (λ (e : Entry T). e.value) (entry_at l k)

  abbrev pub has_key : Listing T → Key → Bool
  has_key l k = is_some (entry_at l k)

  -- the first entry that was made after the one with this serial
  abbrev pub entry_after : Listing T → ℕ → Option (Entry T)
  entry_after l serial = find (λ e. nat_lt serial e.serial) l.entries

  abbrev pub last_of : List (Entry T) → Option (Entry T)
  last_of [] = None
  last_of (e ∷ []) = Some e
  last_of (e ∷ f ∷ es) = last_of (f ∷ es)

  -- no key is left for an append
  abbrev pub is_full : Listing T → Bool
  is_full l = nat_le KEY_LIMIT l.next_key

  -- no entry can be added
  abbrev pub is_at_limit : Listing T → Bool
  is_at_limit l = nat_le ENTRY_LIMIT (count_of l) || nat_le SERIAL_LIMIT l.next_serial
