-- What one step of a copy comes to.
use Rattle.std.specs.Prelude.{◌≡◌, ℕ, suc, ◌+◌, false, List, [], ◌∷◌, Option, Some, None, Box, Result, Ok, Err}
use Rattle.std.specs.declared.alloc.Global.{Global}
use Rattle.slab.specs.Slab.{Slab}
use Rattle.php_entries.specs.Listing.{Listing}
use Rattle.php_entries.specs.Soundness.{IsSound}
use Rattle.php_base.specs.declared.memory.NoMemory.{NoMemory}
use Rattle.php_memdef.specs.Numbered.{numbered}
use Rattle.php_memdef.specs.Contents.{array}
use Rattle.php_memdef.specs.Holders.{times, is_shared}
use Rattle.php_memdef.specs.Sound.{IsLive}
use Rattle.php_memplain_cells.specs.declared.stores.Store.{Store}
use Rattle.php_memplain_cells.specs.declared.objects.Object.{Object}
use Rattle.php_memplain_cells.specs.declared.cells.Cells.{Cells}
use Rattle.php_memplain_cells.specs.Seen.{stores_seen}
use Rattle.php_memplain_cells.specs.Memory.{memory_seen}
use Rattle.php_memplain_copy.specs.declared.log.Log.{Log}
use Rattle.php_memplain_copy.specs.Copying.{CopiesOne}
use Rattle.php_memplain_copy.specs.Walking.{IsWhole, IsTaken, IsBegun}

-- there is a memory of which this is a copy on its way, and the store is one of it
abbrev pub SomeElement : Slab Store → List (Option (Box Object Global)) → Log → ℕ → Type 0
SomeElement stores objects log store = (before : Cells) × ((at_hand : ℕ → ℕ) × (IsWhole before × (IsTaken before stores objects log at_hand × IsLive (memory_seen before) store)))

-- an array that isn't shared, with its elements one level down
pub record IsInside (before : Cells) (levels store : ℕ) : Type 0 where
  pub inner : ℕ
  pub elements : Listing ℕ
  pub is_inside : levels ≡ suc inner
  pub is_alone : is_shared (memory_seen before) store ≡ false
  pub is_array : numbered (memory_seen before).stores store ≡ Some (array elements)
  pub is_sound : IsSound elements

abbrev pub ElementIs : Cells → (ℕ → ℕ) → ℕ → ℕ → Slab Store → Result (Option ℕ) NoMemory → Slab Store → List (Option (Box Object Global)) → Log → Type 0
ElementIs before at_hand levels store old (Ok (Some k)) stores objects log = IsTaken before stores objects log (λ j. at_hand j + times j (k ∷ [])) × CopiesOne levels (memory_seen before) store (stores_seen old) k (stores_seen stores)
ElementIs before at_hand levels store old (Ok None) stores objects log = IsTaken before stores objects log at_hand × ((stores_seen stores ≡ stores_seen old) × IsInside before levels store)
ElementIs before at_hand levels store old (Err e) stores objects log = IsBegun before stores objects log
