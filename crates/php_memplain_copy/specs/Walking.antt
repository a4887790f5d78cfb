-- How far a copy has come: the array that is being copied, and those around it that wait for it.
use Rattle.std.specs.Prelude.{◌≡◌, ℕ, suc, ◌+◌, ◌<◌, Bool, false, List, [], ◌∷◌, ◌++◌, Option, Some, None, Box, IsSome, reverse}
use Rattle.std.specs.declared.alloc.Global.{Global}
use Rattle.slab.specs.Slab.{Slab}
use Rattle.php_entries.specs.Listing.{Entry, Listing}
use Rattle.php_memdef.specs.Numbered.{Numbered, numbered}
use Rattle.php_memdef.specs.Contents.{Content, null, truth, int, text, array, object, Mem, content_of}
use Rattle.php_memdef.specs.Holders.{times, stores_of_entries, is_shared, holders, object_holders}
use Rattle.php_memdef.specs.Sound.{Every, IsLive, IsClosed}
use Rattle.php_memplain_cells.specs.declared.stores.Store.{Store}
use Rattle.php_memplain_cells.specs.declared.objects.Object.{Object}
use Rattle.php_memplain_cells.specs.declared.cells.Cells.{Cells}
use Rattle.php_memplain_cells.specs.Seen.{later, content_seen, stores_seen}
use Rattle.php_memplain_cells.specs.Counts.{count_of_store, count_of_object}
use Rattle.php_memplain_cells.specs.Memory.{memory_seen, IsCounted}
use Rattle.php_memplain_copy.specs.declared.log.Log.{Log}
use Rattle.php_memplain_copy.specs.declared.frame.Frame.{Frame}
use Rattle.php_memplain_copy.specs.Copying.{Puts, CopiesStores, CopiesOne, CopiesContent}
use Rattle.php_memplain_copy.specs.More.{StoresGrown, ObjectsGrown}

-- the array of a content, and another one where it is none
abbrev pub listing_or : Listing ℕ → Content → Listing ℕ
listing_or root null = root
listing_or root (truth b) = root
listing_or root (int i) = root
listing_or root (text bytes) = root
listing_or root (array t) = t
listing_or root (object h) = root

abbrev pub listing_if : Listing ℕ → Option Content → Listing ℕ
listing_if root None = root
listing_if root (Some c) = listing_or root c

-- the array that is copied: that of a store, or the one with which the copy began
abbrev pub listing_in : Numbered Content → Listing ℕ → Option ℕ → Listing ℕ
listing_in xs root None = root
listing_in xs root (Some s) = listing_if root (numbered xs s)

-- the stores of the elements that are still to be copied
abbrev pub left_in : Numbered Content → Listing ℕ → Frame → List ℕ
left_in xs root f = stores_of_entries (later f.passed (listing_in xs root f.source).entries)

-- a memory as a copy finds it
pub record IsWhole (s : Cells) : Type 0 where
  pub counted : IsCounted s
  pub closed : IsClosed (memory_seen s)
  pub held : (k : ℕ) → IsSome (numbered (memory_seen s).stores k) → 0 < count_of_store s.stores k

-- the memory as it was, with other stores
abbrev pub with_stores : Cells → Numbered Content → Mem
with_stores s xs = record (memory_seen s) { stores = xs }

-- what has come since: stores with holders, each of which is counted, those at hand too
pub record IsTaken (before : Cells) (stores : Slab Store) (objects : List (Option (Box Object Global))) (log : Log) (at_hand : ℕ → ℕ) : Type 0 where
  pub stores_grown : StoresGrown before.stores stores log.stores.items
  pub objects_grown : ObjectsGrown before.objects.items objects log.handles.items
  pub names : (j : ℕ) → count_of_store stores j ≡ holders (with_stores before (stores_seen stores)) j + at_hand j
  pub handles : (h : ℕ) → count_of_object objects h ≡ object_holders (with_stores before (stores_seen stores)) h

-- what can be given back
pub record IsBegun (before : Cells) (stores : Slab Store) (objects : List (Option (Box Object Global))) (log : Log) : Type 0 where
  pub stores_grown : StoresGrown before.stores stores log.stores.items
  pub objects_grown : ObjectsGrown before.objects.items objects log.handles.items

-- the store that an array is copied from is there
abbrev pub IsThere : Mem → Option ℕ → Type 0
IsThere m None = Unit {0}
IsThere m (Some s) = IsLive m s

-- of an array the elements before these are copied
pub record HasCome (m : Mem) (root : Listing ℕ) (f : Frame) (next : List ℕ) (began now : Numbered Content) : Type 0 where
  pub there : IsThere m f.source
  pub copied : List ℕ
  pub split : stores_of_entries (listing_in m.stores root f.source).entries ≡ copied ++ next
  pub live : Every (IsLive m) next
  pub copies : CopiesStores (CopiesOne f.levels m) copied began f.values.items now

-- an array waits for the copy of an element, which an array inside it is
pub record Waits (m : Mem) (root : Listing ℕ) (f : Frame) (source : Option ℕ) (levels : ℕ) (began now : Numbered Content) : Type 0 where
  pub store : ℕ
  pub elements : Listing ℕ
  pub is_source : source ≡ Some store
  pub is_inside : f.levels ≡ suc levels
  pub is_alone : is_shared m store ≡ false
  pub is_array : numbered m.stores store ≡ Some (array elements)
  pub come : HasCome m root f (store ∷ left_in m.stores root f) began now

-- with what a copy began
pub record Start : Type 0 where
  pub source : Option ℕ
  pub levels : ℕ
  pub stores : Numbered Content

-- the arrays around the one that is being copied, the innermost first
abbrev pub AreWaiting : Mem → Listing ℕ → Start → List Frame → Option ℕ → ℕ → Numbered Content → Type 0
AreWaiting m root start [] source levels began = (source ≡ start.source) × ((levels ≡ start.levels) × (began ≡ start.stores))
AreWaiting m root start (f ∷ fs) source levels now = (began : Numbered Content) × (Waits m root f source levels began now × AreWaiting m root start fs f.source f.levels began)
