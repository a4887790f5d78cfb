-- A slot of an array, and the slots together.
use Rattle.std.specs.Prelude.{ℕ, List, Option, Some, None}
use Rattle.php_value.specs.declared.key.Key.{Key}
use Rattle.php_entries.specs.Listing.{Entry}

-- where an entry stands, or stood: a hole keeps its serial
pub data Slot (T : Type 0) : Type 0 where
  Hole : ℕ → Slot T
  Live : Entry T → Slot T

-- the slots in their order, and for how many of them there is room
pub record SlotList (T : Type 0) : Type 0 where
  pub items : List (Slot T)
  pub room : ℕ

module _ {T : Type 0} where
  -- the slot that has this serial, this key and this value, or no value
  abbrev pub slot_of : ℕ → Key → Option T → Slot T
  slot_of serial k None = Hole serial
  slot_of serial k (Some v) = Live (record { serial = serial; key = k; value = v })
