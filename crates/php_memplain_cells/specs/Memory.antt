-- A memory as a whole, as one of the model.
use Rattle.std.specs.Prelude.{◌≡◌, ℕ, ◌+◌, List, [], map, length, Option, Some, None, option_map}
use Rattle.slab.specs.Slab.{get}
use Rattle.php_memdef.specs.declared.answer.Fallen.{Fallen}
use Rattle.php_memdef.specs.Contents.{Item, Mem, scope_of}
use Rattle.php_memdef.specs.Holders.{times, holders, object_holders}
use Rattle.php_memdef.specs.Releases.{Turn, goes_on, stops}
use Rattle.php_memplain_cells.specs.declared.block.Block.{Block}
use Rattle.php_memplain_cells.specs.declared.cells.Cells.{Cells}
use Rattle.php_memplain_cells.specs.Seen.{stores_seen, objects_seen, scope_seen}
use Rattle.php_memplain_cells.specs.Counts.{count_of_store, count_of_object}

abbrev pub memory_seen : Cells → Mem
memory_seen s = record {
  stores = stores_seen s.stores;
  objects = objects_seen s.objects.items;
  blocks = map (option_map scope_seen) s.blocks.slots;
  statics = s.statics.items;
  next_object = length s.objects.items + 1;
}

abbrev pub falling_in : Cells → ℕ → List Item
falling_in s b = (scope_of (memory_seen s) b).falling

-- no handle of an object comes before all else that falls in the block
abbrev pub HasNoHandle : Cells → ℕ → Type 0
HasNoHandle s b = (f : Block) → get s.blocks b ≡ Some f → f.handle ≡ None

-- beside each store and each object stands the number of its holders, those among them that were taken
-- out of the memory and aren't dropped yet
pub record IsCountedWith (s : Cells) (taken handles : List ℕ) : Type 0 where
  pub stores : (k : ℕ) → count_of_store s.stores k ≡ holders (memory_seen s) k + times k taken
  pub objects : (h : ℕ) → count_of_object s.objects.items h ≡ object_holders (memory_seen s) h + times h handles

abbrev pub IsCounted : Cells → Type 0
IsCounted s = IsCountedWith s [] []

-- one turn of a release, by its answer
abbrev pub turn_of : Option Fallen → Mem → Turn
turn_of None m = goes_on m
turn_of (Some answer) m = stops m answer
