-- Where a write leads, in a memory that copies at once.
use Rattle.std.specs.Prelude.{◌≡◌, ℕ, List, ◌∷◌, drop, Some, None, Result, Ok, Err}
use Rattle.php_base.specs.declared.memory.NoMemory.{NoMemory}
use Rattle.php_memdef.specs.declared.place.Place.{Place}
use Rattle.php_memdef.specs.declared.place.Step.{Step}
use Rattle.php_memdef.specs.Contents.{Mem}
use Rattle.php_memdef.specs.Sound.{IsLive}
use Rattle.php_memdef.specs.Places.{Spot, stored, next_spot, reached, stopped, walk_along, walk}
use Rattle.php_memdef.specs.Conditions.{IsBelowTop}
use Rattle.php_memplain_cells.specs.declared.cells.Cells.{Cells}
use Rattle.php_memplain_cells.specs.Seen.{stores_seen}
use Rattle.php_memplain_cells.specs.Counts.{count_of_store}
use Rattle.php_memplain_cells.specs.Memory.{memory_seen, IsCounted}
use Rattle.php_memplain_copy.specs.declared.log.Log.{Log}
use Rattle.php_memplain_copy.specs.More.{StoresGrown, ObjectsGrown}
use Rattle.php_memplain_copy.specs.Walking.{with_stores}
use Rattle.php_memplain_places.specs.Spots.{spot_seen}
use Rattle.php_memplain_content.specs.Copies.{IsBack}
use Rattle.php_memplain_writes.specs.Standing.{HasContent, AreWaitingKept}
use Rattle.php_memplain_writes.specs.declared.reaching.Arrival.{Arrival}
use Rattle.php_memplain_writes.specs.declared.reaching.Arrival.TheVariants.{Found, Made, Refused}
use Rattle.php_memplain_writes.specs.Keeps.{KeepsBlocks}
use Rattle.php_memplain_writes.specs.Moving.{IsSpotBelow}
use Rattle.php_memplain_writes.specs.Reached.{Reaches}

-- the way of a write leads to the spot, and its next step leads nowhere
pub record StopsAt (m : Mem) (p : Place) (spot : Spot) (steps : ℕ) : Type 0 where
  pub goes : walk m p.base p.path ≡ walk_along (reached m spot) (drop steps p.path)
  pub stops : (step : Step) (later : List Step) → drop steps p.path ≡ step ∷ later → next_spot m (Some spot) step ≡ None
  pub there : HasContent m spot

-- what came since can be taken away again
pub record CanGoBack (before now : Cells) (log : Log) : Type 0 where
  pub stores_grown : StoresGrown before.stores now.stores log.stores.items
  pub objects_grown : ObjectsGrown before.objects.items now.objects.items log.handles.items
  pub seen : memory_seen now ≡ with_stores before (stores_seen now.stores)

-- the place is there
pub record IsFound (m : Mem) (p : Place) (spot : Spot) : Type 0 where
  pub walks : walk m p.base p.path ≡ reached m spot
  pub there : HasContent m spot
  pub below : (b : ℕ) → IsBelowTop b p.base → IsSpotBelow b spot

-- the model's walk comes to a store that was made for the place, which one thing holds
pub record IsReached (before : Cells) (p : Place) (store : ℕ) (now : Cells) : Type 0 where
  pub counted : IsCounted now
  pub reaches : Reaches (memory_seen before) p.base p.path (memory_seen now) (stored store)
  pub there : IsLive (memory_seen now) store
  pub alone : count_of_store now.stores store ≡ 1
  pub keeps : KeepsBlocks (memory_seen before) (memory_seen now)
  pub waiting : AreWaitingKept before.blocks now.blocks

abbrev pub MakingIs : Cells → Place → Result Arrival NoMemory → Cells → Log → Type 0
MakingIs before p (Ok (Found spot)) now log = IsFound (memory_seen before) p (spot_seen spot) × (now ≡ before)
MakingIs before p (Ok (Made s)) now log = IsReached before p s now
MakingIs before p (Ok (Refused why)) now log = CanGoBack before now log × (walk (memory_seen before) p.base p.path ≡ stopped why)
MakingIs before p (Err e) now log = CanGoBack before now log

abbrev pub ReachIs : Cells → Place → Result Arrival NoMemory → Cells → Type 0
ReachIs before p (Ok (Found spot)) now = IsFound (memory_seen before) p (spot_seen spot) × (now ≡ before)
ReachIs before p (Ok (Made s)) now = IsReached before p s now
ReachIs before p (Ok (Refused why)) now = IsBack before now × (walk (memory_seen before) p.base p.path ≡ stopped why)
ReachIs before p (Err e) now = IsBack before now
