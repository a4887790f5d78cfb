-- A place that is to point to another store, in a memory that copies at once.
use Rattle.std.specs.Prelude.{◌≡◌, ℕ, ◌+◌, [], ◌∷◌, Option}
use Rattle.php_memdef.specs.declared.place.Place.{Place}
use Rattle.php_memdef.specs.Contents.{Mem}
use Rattle.php_memdef.specs.Holders.{times, holders, object_holders}
use Rattle.php_memdef.specs.Writes.{bound, unbound, bound_at}
use Rattle.php_memdef.specs.Alike.{map_if, IsRenamed}
use Rattle.php_memdef.specs.Conditions.{IsBlock}
use Rattle.php_memdef_laws.proofs.Held.Writes.{listed, KeepsTopLinks}
use Rattle.php_memplain_cells.specs.declared.cells.Cells.{Cells}
use Rattle.php_memplain_cells.specs.Counts.{count_of_store, count_of_object}
use Rattle.php_memplain_cells.specs.Memory.{memory_seen}
use Rattle.php_memplain_copy.specs.declared.log.Log.{Log}
use Rattle.php_memplain_content.specs.Copies.{IsBack}
use Rattle.php_memplain_writes.specs.declared.growing.Grew.{Grew}
use Rattle.php_memplain_writes.specs.declared.growing.Grew.TheVariants.{Done, Refused, NoMemory}
use Rattle.php_memplain_writes.specs.Standing.{AreWaitingKept}
use Rattle.php_memplain_writes.specs.Reaching.{CanGoBack}

-- the place points to the store as the model's does, but for the numbers of new stores; the store is named
-- once more than it is counted, and the one to which the place pointed before is counted still
pub record IsBound (before : Cells) (p : Place) (s : ℕ) (fell : Option ℕ) (now : Cells) : Type 0 where
  pub walked : Mem
  pub led : Option ℕ
  pub is : bound_at (memory_seen before) p.base p.path s ≡ bound walked led
  pub to : ℕ → ℕ
  pub back : ℕ → ℕ
  pub renamed : IsRenamed to back walked (memory_seen now)
  pub fell_is : fell ≡ map_if to led
  pub names : (k : ℕ) → count_of_store now.stores k + times k (s ∷ []) ≡ holders (memory_seen now) k + times k (listed fell)
  pub handles : (h : ℕ) → count_of_object now.objects.items h ≡ object_holders (memory_seen now) h
  pub blocks : (b : ℕ) → IsBlock (memory_seen before) b → IsBlock (memory_seen now) b
  pub links : KeepsTopLinks (memory_seen before) (memory_seen now)
  pub waiting : AreWaitingKept before.blocks now.blocks

abbrev pub BindingIs : Cells → Place → ℕ → Grew → Cells → Log → Type 0
BindingIs before p s (Done fell) now log = IsBound before p s fell now
BindingIs before p s (Refused why) now log = CanGoBack before now log × (bound_at (memory_seen before) p.base p.path s ≡ unbound why)
BindingIs before p s NoMemory now log = CanGoBack before now log

abbrev pub PointsIs : Cells → Place → ℕ → Grew → Cells → Type 0
PointsIs before p s (Done fell) now = IsBound before p s fell now
PointsIs before p s (Refused why) now = IsBack before now × (bound_at (memory_seen before) p.base p.path s ≡ unbound why)
PointsIs before p s NoMemory now = IsBack before now
