-- A store that is taken out of where it was named.
use Rattle.std.specs.Prelude.{◌≡◌, ℕ, List, [], ◌∷◌, Option, Some, None}
use Rattle.php_entries.specs.Listing.{Listing, last_of}
use Rattle.php_entries.specs.Changes.{remove_key}
use Rattle.php_memdef.specs.declared.place.Step.{Step}
use Rattle.php_memdef.specs.declared.place.Step.TheVariants.{At, Push}
use Rattle.php_memdef.specs.Contents.{Content, null, truth, int, text, array, object, Mem}
use Rattle.php_memdef.specs.Places.{entry_store}
use Rattle.php_memdef.specs.Writes.{let_fall_if}
use Rattle.php_memplain_cells.specs.declared.cells.Cells.{Cells}
use Rattle.php_memplain_cells.specs.Memory.{memory_seen, IsCounted, IsCountedWith}
use Rattle.php_memplain_changes.specs.Standing.{AreWaitingKept}

-- the stores that are in hand
abbrev pub in_hand : Option ℕ → List ℕ
in_hand None = []
in_hand (Some s) = s ∷ []

-- a store was taken out, or none: once it falls in a block the memory is what the model makes it, for each block
pub record Takes (before now : Cells) (taken : Option ℕ) (after : ℕ → Mem) : Type 0 where
  pub seen : (b : ℕ) → let_fall_if (memory_seen now) b taken ≡ after b
  pub counted : IsCountedWith now (in_hand taken) []
  pub waiting : AreWaitingKept before.blocks now.blocks
  pub ledger : now.ledger ≡ before.ledger

-- the memory is as the model makes it, and its counts are right
pub record Becomes (now : Cells) (after : Mem) : Type 0 where
  pub seen : memory_seen now ≡ after
  pub counted : IsCounted now

-- a content in which the array is another one, where it is an array
abbrev pub with_elements : (Listing ℕ → Listing ℕ) → Content → Content
with_elements change null = null
with_elements change (truth b) = truth b
with_elements change (int i) = int i
with_elements change (text bytes) = text bytes
with_elements change (array t) = array (change t)
with_elements change (object h) = object h

-- the store of the last element
abbrev pub last_store : Option (Listing ℕ) → Option ℕ
last_store None = None
last_store (Some t) = entry_store (last_of t.entries)

-- an array without the element to which a step leads
abbrev pub without_step : Step → Listing ℕ → Listing ℕ
without_step (At k) t = remove_key t k
without_step Push t = t
