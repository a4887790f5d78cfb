-- The first of a list that passes a test.
use Rattle.std.proofs.Common.{◌≡◌, ◌<◌, ◌≤◌, ◌+◌, ℕ, List, [], ◌∷◌, length, get_or, drop, sym, ◌∙◌, ap, cond}
use Rattle.std.specs.Prelude.{Bool, true, false, Option, Some, None}
use Rattle.std.proofs.lemmas.List.{at_drop_more, at_drop_all}

module _ {A R : Type 0} (F : List A → Option R) (test : A → Bool) (value : A → R) (law : (x : A) (xs : List A) → F (x ∷ xs) ≡ cond (test x) (Some (value x)) (F xs)) (xs : List A) (k : ℕ) (whole : Option R) (before : F (drop k xs) ≡ whole) where
  first_of : (x d : A) → k < length xs → x ≡ get_or xs k d → cond (test x) (Some (value x)) (F (drop (k + 1) xs)) ≡ whole
  first_of x d within is =
      sym (law x (drop (k + 1) xs))
      ∙ ap (λ y. F (y ∷ drop (k + 1) xs)) is
      ∙ sym (at_drop_more F xs k d within)
      ∙ before

  pub first_found : (x d : A) → k < length xs → x ≡ get_or xs k d → test x ≡ true → Some (value x) ≡ whole
  first_found x d within is t = sym (ap (λ b. cond b (Some (value x)) (F (drop (k + 1) xs))) t) ∙ first_of x d within is

  pub first_later : (x d : A) → k < length xs → x ≡ get_or xs k d → test x ≡ false → F (drop (k + 1) xs) ≡ whole
  first_later x d within is t = sym (ap (λ b. cond b (Some (value x)) (F (drop (k + 1) xs))) t) ∙ first_of x d within is

module _ {A R : Type 0} (F : List A → Option R) (none : F [] ≡ None) where
  pub first_none : (xs : List A) (k : ℕ) (whole : Option R) → F (drop k xs) ≡ whole → length xs ≤ k → None ≡ whole
  first_none xs k whole before past = sym none ∙ sym (at_drop_all F xs k past) ∙ before
