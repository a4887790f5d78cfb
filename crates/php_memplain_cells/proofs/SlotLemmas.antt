-- The slots of a slab, as a finite map from numbers.
use Rattle.std.proofs.Common.{◌≡◌, ◌≢◌, ◌<◌, ℕ, zero, suc, List, [], ◌∷◌, length, map, arith, refl, sym, ◌∙◌, ap}
use Rattle.std.specs.Prelude.{Option, Some, None, option_map, slice_index_or, slice_set}
use Rattle.php_memdef.specs.Numbered.{Numbered, numbered, with_numbered}

pub no_some : {X : Type 0} {x : X} → None ≡ Some x → ⊥
no_some e = cc

module _ {X Y : Type 0} (f : X → Y) where
  pub at_seen : (xs : List (Option X)) (k : ℕ) → numbered (map (option_map f) xs) k ≡ option_map f (slice_index_or xs k None)
  at_seen [] k = refl
  at_seen (x ∷ xs) zero = refl
  at_seen (x ∷ xs) (suc k) = at_seen xs k

  -- a change of a slot in which something is
  pub set_seen : (xs : List (Option X)) (k : ℕ) (x : X) (y : Option X) → slice_index_or xs k None ≡ Some x → map (option_map f) (slice_set xs k y) ≡ with_numbered (map (option_map f) xs) k (option_map f y)
  set_seen [] k x y e = absurd (no_some e)
  set_seen (z ∷ xs) zero x y e = refl
  set_seen (z ∷ xs) (suc k) x y e = ap (λ ys. option_map f z ∷ ys) (set_seen xs k x y e)

  -- a change that doesn't show
  pub set_kept : (xs : List (Option X)) (k : ℕ) (x : X) (y : X) → slice_index_or xs k None ≡ Some x → f y ≡ f x → map (option_map f) (slice_set xs k (Some y)) ≡ map (option_map f) xs
  set_kept [] k x y e h = refl
  set_kept (z ∷ xs) zero x y e h = ap (λ o. o ∷ map (option_map f) xs) (ap Some h ∙ ap (option_map f) (sym e))
  set_kept (z ∷ xs) (suc k) x y e h = ap (λ ys. option_map f z ∷ ys) (set_kept xs k x y e h)

-- what is there, put there again
pub with_same : {X : Type 0} (xs : Numbered X) (k : ℕ) (x : X) → numbered xs k ≡ Some x → with_numbered xs k (Some x) ≡ xs
with_same [] k x e = absurd (no_some e)
with_same (y ∷ xs) zero x e = cc
with_same (y ∷ xs) (suc k) x e = ap (λ ys. y ∷ ys) (with_same xs k x e)

-- of two things put at one number the second stays
pub with_twice : {X : Type 0} (xs : Numbered X) (k : ℕ) (x y : Option X) → with_numbered (with_numbered xs k x) k y ≡ with_numbered xs k y
with_twice [] zero x y = refl
with_twice [] (suc k) x y = ap (λ ys. None ∷ ys) (with_twice [] k x y)
with_twice (z ∷ xs) zero x y = refl
with_twice (z ∷ xs) (suc k) x y = ap (λ ys. z ∷ ys) (with_twice xs k x y)

module _ {X : Type 0} where
  pub at_same : (xs : List (Option X)) (k : ℕ) (x : X) (y : Option X) → slice_index_or xs k None ≡ Some x → slice_index_or (slice_set xs k y) k None ≡ y
  at_same [] k x y e = absurd (no_some e)
  at_same (z ∷ xs) zero x y e = refl
  at_same (z ∷ xs) (suc k) x y e = at_same xs k x y e

  pub at_other : (xs : List (Option X)) (k j : ℕ) (y : Option X) → j ≢ k → slice_index_or (slice_set xs k y) j None ≡ slice_index_or xs j None
  at_other [] k j y ne = refl
  at_other (z ∷ xs) zero zero y ne = absurd (ne refl)
  at_other (z ∷ xs) zero (suc j) y ne = refl
  at_other (z ∷ xs) (suc k) zero y ne = refl
  at_other (z ∷ xs) (suc k) (suc j) y ne = at_other xs k j y (λ e. ne (ap suc e))

  pub set_twice : (xs : List (Option X)) (k : ℕ) (x y : Option X) → slice_set (slice_set xs k x) k y ≡ slice_set xs k y
  set_twice [] k x y = refl
  set_twice (z ∷ xs) zero x y = refl
  set_twice (z ∷ xs) (suc k) x y = ap (λ ys. z ∷ ys) (set_twice xs k x y)

  -- what is there is there whatever stands for nothing
  pub any_default : (xs : List (Option X)) (k : ℕ) (x : X) (d : Option X) → slice_index_or xs k None ≡ Some x → slice_index_or xs k d ≡ Some x
  any_default [] k x d e = absurd (no_some e)
  any_default (z ∷ xs) zero x d e = e
  any_default (z ∷ xs) (suc k) x d e = any_default xs k x d e

  pub within : (xs : List (Option X)) (k : ℕ) (x : X) → slice_index_or xs k None ≡ Some x → k < length xs
  within [] k x e = absurd (no_some e)
  within (z ∷ xs) zero x e = omega arith
  within (z ∷ xs) (suc k) x e = omega (arith, within xs k x e)
