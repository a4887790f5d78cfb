-- What the parts of an array keep.
use Rattle.std.specs.Prelude.{ℕ, ◌≡◌, ◌≤◌, List, length}
use Rattle.php_entries.specs.Listing.{Listing}
use Rattle.php_entries.specs.Soundness.{IsSound, AreKeysDistinct}
use Rattle.php_array.specs.Index.{IsIndexed}
use Rattle.php_array.specs.Slots.{entries_in, DoSerialsRise, AreHoles}
use Rattle.php_array.specs.declared.key_index.KeyIndex.{KeyIndex}
use Rattle.php_array.specs.Slot.{Slot}

module _ {T : Type 0} where
  -- the array that the slots show
  abbrev pub listing_of : List (Slot T) → ℕ → ℕ → Listing T
  listing_of slots next_key next_serial = record { entries = entries_in slots; next_key = next_key; next_serial = next_serial }

  pub record IsKept (index : KeyIndex) (slots : List (Slot T)) (first count next_key next_serial : ℕ) : Type 0 where
    pub sound : IsSound (listing_of slots next_key next_serial)
    pub indexed : IsIndexed index slots
    pub rise : DoSerialsRise 0 slots next_serial
    pub front : AreHoles first slots
    pub front_within : first ≤ length slots
    pub counted : count ≡ length (entries_in slots)

  -- the index fits the slots, of which the first are holes
  pub record IsStored (index : KeyIndex) (slots : List (Slot T)) (first : ℕ) : Type 0 where
    pub distinct : AreKeysDistinct (entries_in slots)
    pub indexed : IsIndexed index slots
    pub front : AreHoles first slots
    pub front_within : first ≤ length slots

  -- the same entries in other slots, and an index that fits them
  pub record IsRepacked (old new : List (Slot T)) (index : KeyIndex) (first : ℕ) : Type 0 where
    pub entries : entries_in new ≡ entries_in old
    pub rise : (to : ℕ) → DoSerialsRise 0 old to → DoSerialsRise 0 new to
    pub indexed : IsIndexed index new
    pub front : AreHoles first new
    pub front_within : first ≤ length new
