-- Finite maps from numbers: what has the number n stands at place n of a list, and None stands at
-- the numbers that nothing has.
use Rattle.std.specs.Prelude.{ℕ, zero, suc, ◌+◌, List, [], ◌∷◌, ◌++◌, Option, Some, None}

abbrev pub Numbered : Type 0 → Type 0
Numbered X = List (Option X)

module _ {X : Type 0} where
  -- what has a number
  abbrev pub numbered : Numbered X → ℕ → Option X
  numbered [] n = None
  numbered (x ∷ xs) zero = x
  numbered (x ∷ xs) (suc n) = numbered xs n

  -- the map in which a number has this, or has nothing
  abbrev pub with_numbered : Numbered X → ℕ → Option X → Numbered X
  with_numbered [] zero y = y ∷ []
  with_numbered [] (suc n) y = None ∷ with_numbered [] n y
  with_numbered (x ∷ xs) zero y = y ∷ xs
  with_numbered (x ∷ xs) (suc n) y = x ∷ with_numbered xs n y

  -- the map in which the next number has this
  abbrev pub with_next : Numbered X → X → Numbered X
  with_next xs x = xs ++ Some x ∷ []

  abbrev pub weight_if : (X → ℕ) → Option X → ℕ
  weight_if weight None = 0
  weight_if weight (Some x) = weight x

  -- the sum of a weight over all that is there
  abbrev pub total : (X → ℕ) → Numbered X → ℕ
  total weight [] = 0
  total weight (x ∷ xs) = weight_if weight x + total weight xs

  -- how many are there
  abbrev pub live_count : Numbered X → ℕ
  live_count xs = total (λ _. 1) xs
