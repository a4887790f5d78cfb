-- The slots of an array: what entries they hold, and where the entry of a key stands.
use Rattle.std.specs.Prelude.{ℕ, zero, suc, ◌≡◌, ◌<◌, Bool, true, false, if◌then◌else◌, List, [], ◌∷◌, Option, Some, None, option_map, is_some}
use Rattle.php_value.specs.declared.key.Key.{Key}
use Rattle.php_entries.specs.Keys.{key_eq}
use Rattle.php_entries.specs.Listing.{Entry}
use Rattle.php_array.specs.Slot.{Slot, SlotList, Hole, Live}

module _ {T : Type 0} where
  abbrev pub serial_of : Slot T → ℕ
  serial_of (Hole serial) = serial
  serial_of (Live e) = e.serial

  -- the entries that the slots hold, in their order
  abbrev pub entries_in : List (Slot T) → List (Entry T)
  entries_in [] = []
  entries_in (Hole serial ∷ slots) = entries_in slots
  entries_in (Live e ∷ slots) = e ∷ entries_in slots

  -- the place of the slot with this key
  abbrev pub place_of : Key → List (Slot T) → Option ℕ
  place_of k [] = None
  place_of k (Hole serial ∷ slots) = option_map (λ i. suc i) (place_of k slots)
  place_of k (Live e ∷ slots) = if key_eq k e.key then Some 0 else option_map (λ i. suc i) (place_of k slots)

  -- the serials are above the first bound, rise from slot to slot, and are below the second
  abbrev pub DoSerialsRise : ℕ → List (Slot T) → ℕ → Type 0
  DoSerialsRise from [] to = Unit {0}
  DoSerialsRise from (s ∷ slots) to = (from < serial_of s) × (serial_of s < to) × DoSerialsRise (serial_of s) slots to

  -- none of the first slots is live
  abbrev pub AreHoles : ℕ → List (Slot T) → Type 0
  AreHoles zero slots = Unit {0}
  AreHoles (suc n) [] = Unit {0}
  AreHoles (suc n) (Hole serial ∷ slots) = AreHoles n slots
  AreHoles (suc n) (Live e ∷ slots) = ⊥

  -- the slots with the one at a place emptied
  abbrev pub vacated : ℕ → List (Slot T) → List (Slot T)
  vacated i [] = []
  vacated zero (s ∷ slots) = Hole (serial_of s) ∷ slots
  vacated (suc i) (s ∷ slots) = s ∷ vacated i slots

  abbrev pub revalued : T → Slot T → Slot T
  revalued v (Hole serial) = Hole serial
  revalued v (Live e) = Live (record e { value = v })

  -- the slots with another value at a place
  abbrev pub with_value_at : ℕ → T → List (Slot T) → List (Slot T)
  with_value_at i v [] = []
  with_value_at zero v (s ∷ slots) = revalued v s ∷ slots
  with_value_at (suc i) v (s ∷ slots) = s ∷ with_value_at i v slots

  -- the same slots, with another value at a place
  abbrev pub with_value_in : ℕ → T → SlotList T → SlotList T
  with_value_in i v slots = record { items = with_value_at i v slots.items; room = slots.room }

  abbrev pub is_live : Slot T → Bool
  is_live (Hole serial) = false
  is_live (Live e) = true

  abbrev pub stored_in : Slot T → Option (Entry T)
  stored_in (Hole serial) = None
  stored_in (Live e) = Some e

  -- the entry that is stored at a place
  abbrev pub stored_at : ℕ → List (Slot T) → Option (Entry T)
  stored_at i [] = None
  stored_at zero (s ∷ slots) = stored_in s
  stored_at (suc i) (s ∷ slots) = stored_at i slots

  -- the serial of the slot at a place, and 0 where there is none
  abbrev pub serial_at : ℕ → List (Slot T) → ℕ
  serial_at i [] = 0
  serial_at zero (s ∷ slots) = serial_of s
  serial_at (suc i) (s ∷ slots) = serial_at i slots

  -- a place, where an entry is stored there
  abbrev pub live_place : Option ℕ → List (Slot T) → Option ℕ
  live_place None slots = None
  live_place (Some i) slots = if is_some (stored_at i slots) then Some i else None

  -- the second slots hold what the first do, at the same places
  pub record HoldsSame (old new : List (Slot T)) : Type 0 where
    pub entries : entries_in new ≡ entries_in old
    pub places : (k : Key) → place_of k new ≡ place_of k old
    pub stored : (i : ℕ) → stored_at i new ≡ stored_at i old
    pub rise : (from to : ℕ) → DoSerialsRise from old to → DoSerialsRise from new to
    pub front : (n : ℕ) → AreHoles n old → AreHoles n new
