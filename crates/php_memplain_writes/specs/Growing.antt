-- What comes of what stands at a spot, where a step from there is to lead to a store.
use Rattle.std.specs.Prelude.{◌≡◌, ℕ, Option, Some, None}
use Rattle.php_entries.specs.Listing.{Listing}
use Rattle.php_entries.specs.Changes.{Grown}
use Rattle.php_memdef.specs.declared.place.Step.{Step}
use Rattle.php_memdef.specs.declared.answer.Wrote.{Wrote}
use Rattle.php_memdef.specs.declared.answer.Wrote.TheVariants as wrote
use Rattle.php_memdef.specs.Contents.{Content, array, Mem}
use Rattle.php_memdef.specs.Places.{Spot, content_at, with_content, elements_to_write, step_store, step_set}
use Rattle.php_memplain_writes.specs.declared.growing.Grew.{Grew}
use Rattle.php_memplain_writes.specs.declared.growing.Grew.TheVariants.{Done, Refused, NoMemory}
use Rattle.php_memplain_writes.specs.Grows.{IsRefusal}

-- the content is null or an array, which becomes this one
pub record GrowsTo (c : Content) (step : Step) (s : ℕ) (before : Option ℕ) (u : Listing ℕ) : Type 0 where
  pub elements : Listing ℕ
  pub is : elements_to_write c ≡ Some elements
  pub grown : step_set elements step s ≡ Grown u
  pub led : before ≡ step_store elements step

-- why the step can't lead there
abbrev pub CantGrow : Wrote → Content → Step → ℕ → Type 0
CantGrow wrote.Done c step s = ⊥
CantGrow wrote.NotArray c step s = elements_to_write c ≡ None
CantGrow wrote.Full c step s = (t : Listing ℕ) × ((elements_to_write c ≡ Some t) × IsRefusal wrote.Full (step_set t step s))
CantGrow wrote.Limit c step s = (t : Listing ℕ) × ((elements_to_write c ≡ Some t) × IsRefusal wrote.Limit (step_set t step s))

abbrev pub ContentGrew : Grew → Content → Step → ℕ → Content → Type 0
ContentGrew (Done before) c step s d = (u : Listing ℕ) × (GrowsTo c step s before u × (d ≡ array u))
ContentGrew (Refused why) c step s d = CantGrow why c step s × (d ≡ c)
ContentGrew NoMemory c step s d = d ≡ c

abbrev pub GrewAt : Grew → Mem → Spot → Step → ℕ → Mem → Type 0
GrewAt (Done before) m spot step s n = (u : Listing ℕ) × (GrowsTo (content_at m spot) step s before u × (n ≡ with_content m spot (array u)))
GrewAt (Refused why) m spot step s n = CantGrow why (content_at m spot) step s × (n ≡ m)
GrewAt NoMemory m spot step s n = n ≡ m
