-- How far the copy of an object's properties has come, and what a clone is.
use Rattle.std.specs.Prelude.{◌≡◌, ℕ, zero, suc, ◌+◌, ◌<◌, List, [], ◌∷◌, map, Option, Some, None, Box, Result, Ok, Err}
use Rattle.std.specs.declared.alloc.Global.{Global}
use Rattle.slab.specs.Slab.{Slab}
use Rattle.php_base.specs.declared.memory.NoMemory.{NoMemory}
use Rattle.php_memdef.specs.Contents.{Property, object_of}
use Rattle.php_memdef.specs.Holders.{times, stores_of_properties}
use Rattle.php_memdef.specs.Copies.{copier_of, copied_properties}
use Rattle.php_memdef.specs.Objects.{OBJECT_LIMIT, with_clone, clone_object}
use Rattle.php_memdef.specs.Sound.{IsLive}
use Rattle.php_memdef.specs.Alike.{IsRenamed, Alike}
use Rattle.php_memplain_cells.specs.declared.load.Property.{Property as Kept}
use Rattle.php_memplain_cells.specs.declared.stores.Store.{Store}
use Rattle.php_memplain_cells.specs.declared.objects.Object.{Object as Counted}
use Rattle.php_memplain_cells.specs.declared.cells.Cells.{Cells}
use Rattle.php_memplain_cells.specs.Seen.{property_seen, stores_seen}
use Rattle.php_memplain_cells.specs.Memory.{memory_seen, IsCounted, IsCountedWith}
use Rattle.php_memplain_copy.specs.declared.log.Log.{Log}
use Rattle.php_memplain_copy.specs.Copying.{CopiesStores, CopiesOne}
use Rattle.php_memplain_copy.specs.Walking.{with_stores, IsWhole, IsTaken, IsBegun}
use Rattle.php_memplain_copy.specs.Steps.{IsInside}

abbrev pub nth_of : List Property → ℕ → Option Property
nth_of [] n = None
nth_of (p ∷ ps) zero = Some p
nth_of (p ∷ ps) (suc n) = nth_of ps n

-- the first n properties
abbrev pub first_of : ℕ → List Property → List Property
first_of zero ps = []
first_of (suc n) [] = []
first_of (suc n) (p ∷ ps) = p ∷ first_of n ps

-- the properties over these stores, one each in their order
abbrev pub over : List Property → List ℕ → List Property
over [] vs = []
over (p ∷ ps) [] = []
over (p ∷ ps) (v ∷ vs) = record p { store = v } ∷ over ps vs

-- there is a memory of which this is a copy on its way, and the store has an array in it that isn't shared
abbrev pub SomeInside : Slab Store → List (Option (Box Counted Global)) → Log → ℕ → ℕ → Type 0
SomeInside stores objects log levels store = (before : Cells) × ((at_hand : ℕ → ℕ) × (IsWhole before × (IsTaken before stores objects log at_hand × (IsLive (memory_seen before) store × IsInside before levels store))))

-- the store of a property is copied, or memory was wanting
abbrev pub StoreIs : Cells → (ℕ → ℕ) → ℕ → ℕ → Slab Store → Result ℕ NoMemory → Slab Store → List (Option (Box Counted Global)) → Log → Type 0
StoreIs before at_hand levels store old (Ok k) stores objects log = IsTaken before stores objects log (λ j. at_hand j + times j (k ∷ [])) × CopiesOne levels (memory_seen before) store (stores_seen old) k (stores_seen stores)
StoreIs before at_hand levels store old (Err e) stores objects log = IsBegun before stores objects log

abbrev pub stores_done : List Kept → List ℕ
stores_done done = stores_of_properties (map property_seen done)

-- these properties are copied so far
pub record AreCopied (before : Cells) (passed : List Property) (levels : ℕ) (done : List Kept) (stores : Slab Store) (objects : List (Option (Box Counted Global))) (log : Log) : Type 0 where
  pub taken : IsTaken before stores objects log (λ j. times j (stores_done done))
  pub copies : CopiesStores (CopiesOne levels (memory_seen before)) (stores_of_properties passed) (stores_seen before.stores) (stores_done done) (stores_seen stores)
  pub named : map property_seen done ≡ over passed (stores_done done)

abbrev pub SomeCopied : ℕ → Property → List Kept → Slab Store → List (Option (Box Counted Global)) → Log → Type 0
SomeCopied levels property done stores objects log = (before : Cells) × ((passed : List Property) × (IsWhole before × (AreCopied before passed levels done stores objects log × IsLive (memory_seen before) property.store)))

-- what was taken can be given back
abbrev pub IsGivenUp : Cells → Cells → Log → Type 0
IsGivenUp before now log = IsBegun before now.stores now.objects.items log × (memory_seen now ≡ with_stores before (stores_seen now.stores))

-- the memory has a clone of an object, whose handle is at hand, but for the numbers of the stores
pub record IsCloned (before : Cells) (h n : ℕ) (now : Cells) : Type 0 where
  pub number : n ≡ (memory_seen before).next_object
  pub below : n < OBJECT_LIMIT
  pub to : ℕ → ℕ
  pub back : ℕ → ℕ
  pub renamed : IsRenamed to back (with_clone (memory_seen before) h (copied_properties (copier_of (memory_seen before)) (memory_seen before) (memory_seen before).stores (object_of (memory_seen before) h).properties)) (memory_seen now)
  pub counted : IsCountedWith now [] (n ∷ [])

-- the handle of a clone stands in the place of the handle on top, which fell
pub record IsCloneOnTop (before : Cells) (b n : ℕ) (now : Cells) : Type 0 where
  pub counted : IsCounted now
  pub alike : Alike (clone_object (memory_seen before) b).0 (memory_seen now)
  pub answer : (clone_object (memory_seen before) b).1 ≡ Some n
