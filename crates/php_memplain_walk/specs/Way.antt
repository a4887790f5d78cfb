-- A copy of an array on its way, and what its steps come to.
use Rattle.std.specs.Prelude.{◌≡◌, ℕ, ◌+◌, List, [], ◌∷◌, Option, Some, None, Box, Result, Ok, Err, reverse}
use Rattle.std.specs.declared.alloc.Global.{Global}
use Rattle.slab.specs.Slab.{Slab}
use Rattle.php_entries.specs.Listing.{Listing}
use Rattle.php_base.specs.declared.memory.NoMemory.{NoMemory}
use Rattle.php_memdef.specs.Numbered.{Numbered}
use Rattle.php_memdef.specs.Contents.{Content as Model, array}
use Rattle.php_memdef.specs.Holders.{times, stores_of_entries, stores_of_content}
use Rattle.php_memdef.specs.Sound.{Every, IsLive}
use Rattle.php_memplain_cells.specs.declared.content.Content.{Content}
use Rattle.php_memplain_cells.specs.declared.stores.Store.{Store}
use Rattle.php_memplain_cells.specs.declared.objects.Object.{Object}
use Rattle.php_memplain_cells.specs.declared.cells.Cells.{Cells}
use Rattle.php_memplain_cells.specs.Seen.{content_seen, stores_seen}
use Rattle.php_memplain_cells.specs.Memory.{memory_seen}
use Rattle.php_memplain_copy.specs.declared.log.Log.{Log}
use Rattle.php_memplain_copy.specs.declared.frame.Frame.{Frame}
use Rattle.php_memplain_copy.specs.Copying.{CopiesContent}
use Rattle.php_memplain_copy.specs.Walking.{listing_in, left_in, IsThere, IsWhole, IsTaken, IsBegun, HasCome, Start, AreWaiting}
use Rattle.php_memplain_walk.specs.declared.copying.Copying.{Copying}

-- how often the copies that are at hand name a store
abbrev pub values_times : ℕ → List Frame → ℕ
values_times j [] = 0
values_times j (f ∷ fs) = times j f.values.items + values_times j fs

-- the copies that are at hand, and what else is
abbrev pub hand_of : (ℕ → ℕ) → Copying → ℕ → ℕ
hand_of others w j = others j + (times j w.frame.values.items + values_times j (reverse w.waiting.items))

-- a copy on its way
pub record IsOnWay (before : Cells) (root : Listing ℕ) (start : Start) (others : ℕ → ℕ) (w : Copying) (stores : Slab Store) (objects : List (Option (Box Object Global))) (log : Log) : Type 0 where
  pub whole : IsWhole before
  pub taken : IsTaken before stores objects log (hand_of others w)
  pub began : Numbered Model
  pub waiting : AreWaiting (memory_seen before) root start (reverse w.waiting.items) w.frame.source w.frame.levels began
  pub come : HasCome (memory_seen before) root w.frame (left_in (memory_seen before).stores root w.frame) began (stores_seen stores)

abbrev pub SomeOnWay : Listing ℕ → Copying → Slab Store → List (Option (Box Object Global)) → Log → Type 0
SomeOnWay root w stores objects log = (before : Cells) × ((start : Start) × ((others : ℕ → ℕ) × IsOnWay before root start others w stores objects log))

-- the copy is there
pub record IsCopied (before : Cells) (root : Listing ℕ) (start : Start) (others : ℕ → ℕ) (d : Content) (stores : Slab Store) (objects : List (Option (Box Object Global))) (log : Log) : Type 0 where
  pub taken : IsTaken before stores objects log (λ j. others j + times j (stores_of_content (content_seen d)))
  pub copies : CopiesContent start.levels (memory_seen before) (array (listing_in (memory_seen before).stores root start.source)) start.stores (content_seen d) (stores_seen stores)

abbrev pub StepIs : Cells → Listing ℕ → Start → (ℕ → ℕ) → Result (Option Content) NoMemory → Copying → Slab Store → List (Option (Box Object Global)) → Log → Type 0
StepIs before root start others (Ok None) w stores objects log = IsOnWay before root start others w stores objects log
StepIs before root start others (Ok (Some d)) w stores objects log = IsCopied before root start others d stores objects log
StepIs before root start others (Err e) w stores objects log = IsBegun before stores objects log

-- a copy of an array can begin here
pub record CanBegin (before : Cells) (others : ℕ → ℕ) (root : Listing ℕ) (source : Option ℕ) (stores : Slab Store) (objects : List (Option (Box Object Global))) (log : Log) : Type 0 where
  pub whole : IsWhole before
  pub taken : IsTaken before stores objects log others
  pub there : IsThere (memory_seen before) source
  pub live : Every (IsLive (memory_seen before)) (stores_of_entries (listing_in (memory_seen before).stores root source).entries)

abbrev pub SomeBeginning : Listing ℕ → Option ℕ → Slab Store → List (Option (Box Object Global)) → Log → Type 0
SomeBeginning root source stores objects log = (before : Cells) × ((others : ℕ → ℕ) × CanBegin before others root source stores objects log)

abbrev pub CopyIs : Cells → Listing ℕ → Start → (ℕ → ℕ) → Result Content NoMemory → Slab Store → List (Option (Box Object Global)) → Log → Type 0
CopyIs before root start others (Ok d) stores objects log = IsCopied before root start others d stores objects log
CopyIs before root start others (Err e) stores objects log = IsBegun before stores objects log
