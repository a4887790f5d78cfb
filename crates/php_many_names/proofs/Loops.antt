-- Loops over the parts of a form that grows at its end keep what a walk makes of those before.
use Rattle.std.proofs.Common.{◌≡◌, ◌≤◌, ◌<◌, ℕ, ◌+◌, List, [], ◌∷◌, ◌++◌, map, take, length, get_or, sym, ◌∙◌, ap}
use Rattle.std.proofs.lemmas.List.{map_more, take_all}

-- what has been made of the first parts, and then of one more
module _ {A B T : Type 0} (from : T → List B → T) (more : T → B → T) (at_end : (t : T) (xs : List B) (x : B) → from t (xs ++ x ∷ []) ≡ more (from t xs) x) (g : A → B) where
  one_more : (start : T) (xs : List A) (i : ℕ) (x : A) → i < length xs → x ≡ get_or xs i x → from start (map g (take (i + 1) xs)) ≡ more (from start (map g (take i xs))) (g x)
  one_more start xs i x within is =
      ap (from start) (map_more g xs i x within ∙ ap (λ y. map g (take i xs) ++ g y ∷ []) (sym is)) ∙ at_end start (map g (take i xs)) (g x)

module _ {A B T V : Type 0} (from : T → List B → T) (more : T → B → T) (at_end : (t : T) (xs : List B) (x : B) → from t (xs ++ x ∷ []) ≡ more (from t xs) x)
    (measure : V → T → V) (each : V → B → V) (grows : (v : V) (t : T) (x : B) → measure v (more t x) ≡ each (measure v t) x) (g : A → B) where
  pub kept : (start : T) (v old new : V) (xs : List A) (i : ℕ) (x : A) → i < length xs → x ≡ get_or xs i x
      → old ≡ measure v (from start (map g (take i xs))) → new ≡ each old (g x) → new ≡ measure v (from start (map g (take (i + 1) xs)))
  kept start v old new xs i x within is before one =
      one ∙ ap (λ u. each u (g x)) before ∙ sym (grows v (from start (map g (take i xs))) (g x)) ∙ ap (measure v) (sym (one_more from more at_end g start xs i x within is))

  pub whole : (start : T) (v now : V) (xs : List A) (i : ℕ) → length xs ≤ i → now ≡ measure v (from start (map g (take i xs))) → now ≡ measure v (from start (map g xs))
  whole start v now xs i past before = before ∙ ap (λ ys. measure v (from start (map g ys))) (take_all i xs past)
