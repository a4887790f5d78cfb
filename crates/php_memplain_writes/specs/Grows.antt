-- What comes of an array in which a step is to lead to a store.
use Rattle.std.specs.Prelude.{◌≡◌, ℕ}
use Rattle.php_entries.specs.Listing.{Listing, no_entries}
use Rattle.php_entries.specs.Changes.{Growth, Grown, Full as NoKeyLeft, Limit as NoEntryLeft}
use Rattle.php_memdef.specs.declared.place.Step.{Step}
use Rattle.php_memdef.specs.declared.answer.Wrote.{Wrote}
use Rattle.php_memdef.specs.declared.answer.Wrote.TheVariants as wrote
use Rattle.php_memdef.specs.Contents.{Content, array}
use Rattle.php_memdef.specs.Places.{step_store, step_set}
use Rattle.php_memplain_writes.specs.declared.growing.Grew.{Grew}
use Rattle.php_memplain_writes.specs.declared.growing.Grew.TheVariants.{Done, Refused, NoMemory}

-- why an array can't grow
abbrev pub IsRefusal : Wrote → Growth ℕ → Type 0
IsRefusal wrote.Done g = ⊥
IsRefusal wrote.NotArray g = ⊥
IsRefusal wrote.Full g = g ≡ NoKeyLeft
IsRefusal wrote.Limit g = g ≡ NoEntryLeft

abbrev pub GrewIs : Grew → Listing ℕ → Step → ℕ → Listing ℕ → Type 0
GrewIs (Done before) t step s u = (step_set t step s ≡ Grown u) × (before ≡ step_store t step)
GrewIs (Refused why) t step s u = IsRefusal why (step_set t step s) × (u ≡ t)
GrewIs NoMemory t step s u = u ≡ t

-- an array with one element, which the step leads to
pub record HasOneElement (step : Step) (s : ℕ) (c : Content) : Type 0 where
  pub elements : Listing ℕ
  pub is : step_set no_entries step s ≡ Grown elements
  pub content : c ≡ array elements
