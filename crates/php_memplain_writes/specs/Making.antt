-- How far the making of new stores has come.
use Rattle.std.specs.Prelude.{◌≡◌, ℕ, ◌+◌, List, [], ◌∷◌}
use Rattle.slab.specs.Slab.{Slab}
use Rattle.php_memdef.specs.Holders.{times, holders, object_holders}
use Rattle.php_memplain_cells.specs.declared.stores.Store.{Store}
use Rattle.php_memplain_cells.specs.declared.cells.Cells.{Cells}
use Rattle.php_memplain_cells.specs.Seen.{stores_seen}
use Rattle.php_memplain_cells.specs.Counts.{count_of_store}
use Rattle.php_memplain_cells.specs.Memory.{memory_seen}
use Rattle.php_memplain_copy.specs.More.{StoresGrown}
use Rattle.php_memplain_copy.specs.Walking.{with_stores}

-- stores came since, and one is in hand; those that are owed are named and not counted yet
pub record IsChained (before : Cells) (owed : List ℕ) (stores : Slab Store) (done : List ℕ) (top : ℕ) : Type 0 where
  pub grown : StoresGrown before.stores stores done
  pub names : (j : ℕ) → count_of_store stores j + times j owed ≡ holders (with_stores before (stores_seen stores)) j + times j (top ∷ [])
  pub handles : (h : ℕ) → object_holders (with_stores before (stores_seen stores)) h ≡ object_holders (memory_seen before) h

-- no store came yet
pub record IsReady (before : Cells) (stores : Slab Store) (done : List ℕ) : Type 0 where
  pub grown : StoresGrown before.stores stores done
  pub names : (j : ℕ) → count_of_store stores j ≡ holders (with_stores before (stores_seen stores)) j
  pub handles : (h : ℕ) → object_holders (with_stores before (stores_seen stores)) h ≡ object_holders (memory_seen before) h
