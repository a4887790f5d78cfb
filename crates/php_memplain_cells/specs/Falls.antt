-- What was first of all that falls.
use Rattle.std.specs.Prelude.{◌≡◌, ℕ, List, [], ◌∷◌, ◌++◌}
use Rattle.php_memdef.specs.Contents.{Item, value, link, object, Mem}
use Rattle.php_memdef.specs.Holders.{times, stores_of_items, handles_of_items}
use Rattle.php_memdef.specs.Temporaries.{with_falling}
use Rattle.php_memdef.specs.Releases.{goes_on, item_released}
use Rattle.php_memplain_cells.specs.declared.falling.First.{First}
use Rattle.php_memplain_cells.specs.declared.falling.First.TheVariants.{Nothing, Link, Handle, Passed}

-- the first item gives way to what it holds, whatever falls behind it
pub record GivesWay (old new : List Item) : Type 0 where
  pub first : Item
  pub rest : List Item
  pub stood : old ≡ first ∷ rest
  pub gives : List Item
  pub comes : new ≡ gives ++ rest
  pub releases : (m : Mem) (b : ℕ) (behind : List Item) → item_released first m b behind ≡ goes_on (with_falling m b (gives ++ behind))
  pub stores : (s : ℕ) → times s (stores_of_items gives) ≡ times s (stores_of_items (first ∷ []))
  pub handles : (h : ℕ) → times h (handles_of_items gives) ≡ times h (handles_of_items (first ∷ []))

-- what was taken from the front of one list leaves the other
abbrev pub FirstIs : First → List Item → List Item → Type 0
FirstIs Nothing old new = (old ≡ []) × (new ≡ [])
FirstIs (Link s) old new = old ≡ link s ∷ new
FirstIs (Handle h) old new = old ≡ value (object h) ∷ new
FirstIs Passed old new = GivesWay old new
