-- A copy of a content, whose new stores take any numbers that are free.
use Rattle.std.specs.Prelude.{◌≡◌, ◌≢◌, ℕ, zero, suc, Bool, true, false, List, [], ◌∷◌, Some, None}
use Rattle.php_entries.specs.Changes.{with_values}
use Rattle.php_memdef.specs.Numbered.{Numbered, numbered}
use Rattle.php_memdef.specs.Contents.{Content, null, truth, int, text, array, object, Mem, content_of}
use Rattle.php_memdef.specs.Holders.{stores_of_entries, is_shared}
use Rattle.php_memdef.specs.Copies.{copied_deep}
use Rattle.php_memdef.specs.Alike.{renamed_content, IsRenamed}
use Rattle.php_memdef.specs.Sound.{IsLive}

-- a content was put under a free number
pub record Puts (before : Numbered Content) (k : ℕ) (d : Content) (after : Numbered Content) : Type 0 where
  pub free : numbered before k ≡ None
  pub there : numbered after k ≡ Some d
  pub others : (j : ℕ) → j ≢ k → numbered after j ≡ numbered before j

-- how the store of one element is copied: from some stores, to a store, leaving some stores
abbrev pub One : Type 1
One = ℕ → Numbered Content → ℕ → Numbered Content → Type 0

-- the stores of the elements, one after another
abbrev pub CopiesStores : One → List ℕ → Numbered Content → List ℕ → Numbered Content → Type 0
CopiesStores one [] xs vs ys = (vs ≡ []) × (ys ≡ xs)
CopiesStores one (s ∷ ss) xs vs ys =
    (k : ℕ) × ((zs : Numbered Content) × ((us : List ℕ) × (one s xs k zs × (CopiesStores one ss zs us ys × (vs ≡ k ∷ us)))))

-- the copy of a content: an array has the same keys and serials over the copies of its elements
abbrev pub CopiesBy : One → Content → Numbered Content → Content → Numbered Content → Type 0
CopiesBy one null xs d ys = (d ≡ null) × (ys ≡ xs)
CopiesBy one (truth b) xs d ys = (d ≡ truth b) × (ys ≡ xs)
CopiesBy one (int i) xs d ys = (d ≡ int i) × (ys ≡ xs)
CopiesBy one (text bytes) xs d ys = (d ≡ text bytes) × (ys ≡ xs)
CopiesBy one (array t) xs d ys = (vs : List ℕ) × (CopiesStores one (stores_of_entries t.entries) xs vs ys × (d ≡ array (with_values t vs)))
CopiesBy one (object h) xs d ys = (d ≡ object h) × (ys ≡ xs)

-- an alias keeps its store, anything else gets a new one with the copy of its content
abbrev pub CopiesIf : Bool → One → Mem → One
CopiesIf true one m s xs k ys = (k ≡ s) × (ys ≡ xs)
CopiesIf false one m s xs k ys = (d : Content) × ((zs : Numbered Content) × (CopiesBy one (content_of m s) xs d zs × Puts zs k d ys))

-- so many levels down; below them everything is kept
abbrev pub CopiesOne : ℕ → Mem → One
CopiesOne zero m s xs k ys = (k ≡ s) × (ys ≡ xs)
CopiesOne (suc n) m s xs k ys = CopiesIf (is_shared m s) (CopiesOne n m) m s xs k ys

abbrev pub CopiesContent : ℕ → Mem → Content → Numbered Content → Content → Numbered Content → Type 0
CopiesContent n m c xs d ys = CopiesBy (CopiesOne n m) c xs d ys

-- the memory with these stores differs from that of the model's copy in the numbers of stores alone, and
-- what was there before keeps its number
pub record CopyAgrees (levels : ℕ) (m : Mem) (c d : Content) (stores : Numbered Content) : Type 0 where
  pub to : ℕ → ℕ
  pub back : ℕ → ℕ
  pub renamed : IsRenamed to back (record m { stores = (copied_deep levels m m.stores c).stores }) (record m { stores = stores })
  pub made : d ≡ renamed_content to (copied_deep levels m m.stores c).made
  pub kept : (s : ℕ) → IsLive m s → to s ≡ s
