-- Finite maps from numbers, after a change.
use Rattle.std.proofs.Common.{◌≡◌, ◌≢◌, ℕ, zero, suc, ◌+◌, [], ◌∷◌, length, refl, sym, ◌∙◌, ap, arith, inl, inr}
use Rattle.std.specs.Prelude.{Option, Some, None, IsSome, is_some}
use Rattle.std.proofs.lemmas.Bool.Decides.{eqb_tells}
use Rattle.php_memdef.specs.Numbered.{Numbered, numbered, with_numbered, with_next, weight_if, total}

module _ {X : Type 0} where
  pub numbered-with_same : (xs : Numbered X) (n : ℕ) (y : Option X) → numbered (with_numbered xs n y) n ≡ y
  numbered-with_same [] zero y = refl
  numbered-with_same [] (suc n) y = numbered-with_same [] n y
  numbered-with_same (x ∷ xs) zero y = refl
  numbered-with_same (x ∷ xs) (suc n) y = numbered-with_same xs n y

  pub numbered-with_other : (xs : Numbered X) (n k : ℕ) (y : Option X) → k ≢ n → numbered (with_numbered xs n y) k ≡ numbered xs k
  numbered-with_other [] zero zero y ne = absurd (ne refl)
  numbered-with_other [] zero (suc k) y ne = refl
  numbered-with_other [] (suc n) zero y ne = refl
  numbered-with_other [] (suc n) (suc k) y ne = numbered-with_other [] n k y (λ e. ne (ap suc e))
  numbered-with_other (x ∷ xs) zero zero y ne = absurd (ne refl)
  numbered-with_other (x ∷ xs) zero (suc k) y ne = refl
  numbered-with_other (x ∷ xs) (suc n) zero y ne = refl
  numbered-with_other (x ∷ xs) (suc n) (suc k) y ne = numbered-with_other xs n k y (λ e. ne (ap suc e))

  pub numbered-length : (xs : Numbered X) → numbered xs (length xs) ≡ None
  numbered-length [] = refl
  numbered-length (x ∷ xs) = numbered-length xs

  -- the next number is the length
  pub with_next-numbered : (xs : Numbered X) (x : X) → with_next xs x ≡ with_numbered xs (length xs) (Some x)
  with_next-numbered [] x = refl
  with_next-numbered (y ∷ xs) x = ap (λ zs. y ∷ zs) (with_next-numbered xs x)

  -- a change of one number changes a total by that number's weight
  pub total-with : (weight : X → ℕ) (xs : Numbered X) (n : ℕ) (y : Option X) → total weight (with_numbered xs n y) + weight_if weight (numbered xs n) ≡ total weight xs + weight_if weight y
  total-with weight [] zero y = omega arith
  total-with weight [] (suc n) y = omega (arith, total-with weight [] n y)
  total-with weight (x ∷ xs) zero y = omega arith
  total-with weight (x ∷ xs) (suc n) y = omega (arith, total-with weight xs n y)

  -- what holds of all that was there, and of what a change puts there, holds of all afterwards
  pub all-with : (P : X → Type 0) (xs : Numbered X) (k : ℕ) (o : Option X) → ((x : X) → o ≡ Some x → P x) → ((n : ℕ) (x : X) → numbered xs n ≡ Some x → P x) → (n : ℕ) (x : X) → numbered (with_numbered xs k o) n ≡ Some x → P x
  all-with P xs k o new old n x h = elim (eqb_tells n k) [
    | inl e ↦ new x (sym (ap (numbered (with_numbered xs k o)) e.1 ∙ numbered-with_same xs k o) ∙ h)
    | inr e ↦ old n x (sym (numbered-with_other xs k n o e.1) ∙ h)
  ]

  -- what is there stays there where something is put
  pub live-with : (xs : Numbered X) (k : ℕ) (x : X) (n : ℕ) → IsSome (numbered xs n) → IsSome (numbered (with_numbered xs k (Some x)) n)
  live-with xs k x n h = elim (eqb_tells n k) [
    | inl e ↦ ap is_some (ap (numbered (with_numbered xs k (Some x))) e.1 ∙ numbered-with_same xs k (Some x))
    | inr e ↦ ap is_some (numbered-with_other xs k n (Some x) e.1) ∙ h
  ]
