-- A copy that was made, or that was given up.
use Rattle.std.specs.Prelude.{◌≡◌, ℕ, List, [], Option, option_map, unwrap_or, Result, Ok, Err, IsSome}
use Rattle.slab.specs.Slab.{Slab, get}
use Rattle.php_base.specs.declared.memory.NoMemory.{NoMemory}
use Rattle.php_memdef.specs.Numbered.{numbered, live_count}
use Rattle.php_memdef.specs.Contents.{Content, Item, Mem, no_scope}
use Rattle.php_memdef.specs.Holders.{times, stores_of_content, handles_of_content, holders, object_holders}
use Rattle.php_memdef.specs.Places.{Spot, stored, standing, nth_item}
use Rattle.php_memdef.specs.Sound.{IsLive}
use Rattle.php_memplain_cells.specs.declared.content.Content.{Content as Kept}
use Rattle.php_memplain_cells.specs.declared.block.Block.{Block}
use Rattle.php_memplain_cells.specs.declared.cells.Cells.{Cells}
use Rattle.php_memplain_cells.specs.Seen.{content_seen, scope_seen, stores_seen}
use Rattle.php_memplain_cells.specs.Memory.{memory_seen, IsCounted, IsCountedWith}
use Rattle.php_memplain_copy.specs.declared.log.Log.{Log}
use Rattle.php_memplain_copy.specs.Copying.{CopyAgrees}
use Rattle.php_memplain_copy.specs.Walking.{with_stores, IsBegun}

-- the temporary of a depth
abbrev pub standing_item : Slab Block → ℕ → ℕ → Option Item
standing_item blocks b n = nth_item (unwrap_or (option_map scope_seen (get blocks b)) no_scope).temps n

-- a store is there
abbrev pub IsSpotThere : Mem → Spot → Type 0
IsSpotThere m (stored s) = IsLive m s
IsSpotThere m (standing b n) = Unit {0}

-- nothing but stores came, and the copy is at hand
pub record IsMade (before now : Cells) (c d : Content) : Type 0 where
  pub agrees : CopyAgrees (live_count (memory_seen before).stores) (memory_seen before) c d (stores_seen now.stores)
  pub counted : IsCountedWith now (stores_of_content d) (handles_of_content d)
  pub seen : memory_seen now ≡ with_stores before (stores_seen now.stores)

-- the same under each number, with right counts
pub record IsBack (before now : Cells) : Type 0 where
  pub counted : IsCounted now
  pub stores : (s : ℕ) → numbered (memory_seen now).stores s ≡ numbered (memory_seen before).stores s
  pub seen : memory_seen now ≡ with_stores before (stores_seen now.stores)

abbrev pub CopyComesTo : Cells → Content → Result Kept NoMemory → Cells → Type 0
CopyComesTo before c (Ok d) now = IsMade before now c (content_seen d)
CopyComesTo before c (Err e) now = IsBack before now

abbrev pub LoggedComesTo : Cells → Content → Result Kept NoMemory → Cells → Log → Type 0
LoggedComesTo before c (Ok d) now log = IsMade before now c (content_seen d)
LoggedComesTo before c (Err e) now log = IsBegun before now.stores now.objects.items log × (memory_seen now ≡ with_stores before (stores_seen now.stores))
