-- New stores for the steps of a path that lead nowhere yet.
use Rattle.std.specs.Prelude.{◌≡◌, ℕ, List, [], ◌∷◌}
use Rattle.php_entries.specs.Listing.{Listing, no_entries}
use Rattle.php_entries.specs.Changes.{Grown}
use Rattle.php_memdef.specs.declared.place.Step.{Step}
use Rattle.php_memdef.specs.Numbered.{Numbered, numbered}
use Rattle.php_memdef.specs.Contents.{Content, null, array}
use Rattle.php_memdef.specs.Places.{step_set}
use Rattle.php_memplain_copy.specs.Copying.{Puts}

-- the same under each number
abbrev pub AreAlso : Numbered Content → Numbered Content → Type 0
AreAlso xs ys = (j : ℕ) → numbered ys j ≡ numbered xs j

-- a new store with an array, whose one element the step leads to
pub record PutsElement (before : Numbered Content) (k : ℕ) (step : Step) (element : ℕ) (after : Numbered Content) : Type 0 where
  pub elements : Listing ℕ
  pub is : step_set no_entries step element ≡ Grown elements
  pub puts : Puts before k (array elements) after

-- a new store for each step: from the store at the top the steps lead to a store that was there
abbrev pub ChainTo : Numbered Content → ℕ → List Step → Numbered Content → ℕ → Type 0
ChainTo xs leaf [] ys top = (top ≡ leaf) × AreAlso xs ys
ChainTo xs leaf (step ∷ path) ys top = (k : ℕ) × ((zs : Numbered Content) × (ChainTo xs leaf path zs k × PutsElement zs top step k ys))

-- the same, to a new store with null
pub record NewChain (before : Numbered Content) (path : List Step) (after : Numbered Content) (top leaf : ℕ) : Type 0 where
  pub first : Numbered Content
  pub puts : Puts before leaf null first
  pub chain : ChainTo first leaf path after top
