-- Going over a list, element by element from the first one on.
use Rattle.std.proofs.Common.{◌≡◌, ◌≤◌, ◌<◌, ℕ, ◌+◌, List, [], ◌∷◌, map, drop, length, get_or, refl, sym, ◌∙◌, ap}
use Rattle.std.proofs.lemmas.List.{at_drop_more, at_drop_all}
use Rattle.php_places.specs.Over.{over}

at_place : {A B : Type 0} (F : List A → B) (xs : List A) (i : ℕ) (x : A) → i < length xs → x ≡ get_or xs i x → F (x ∷ drop (i + 1) xs) ≡ F (drop i xs)
at_place F xs i x within is = ap (λ y. F (y ∷ drop (i + 1) xs)) is ∙ sym (at_drop_more F xs i x within)

-- one more element, seen by a function
pub step_over : {A B C : Type 0} (each : B → C → C) (g : A → B) (xs : List A) (i : ℕ) (x : A) (met new whole : C)
    → i < length xs → x ≡ get_or xs i x → over each (map g (drop i xs)) met ≡ whole → new ≡ each (g x) met → over each (map g (drop (i + 1) xs)) new ≡ whole
step_over each g xs i x met new whole within is before one =
    ap (over each (map g (drop (i + 1) xs))) one ∙ at_place (λ ys. over each (map g ys) met) xs i x within is ∙ before

pub end_over : {A B C : Type 0} (each : B → C → C) (g : A → B) (xs : List A) (i : ℕ) (met whole : C)
    → length xs ≤ i → over each (map g (drop i xs)) met ≡ whole → met ≡ whole
end_over each g xs i met whole past before = sym (at_drop_all (λ ys. over each (map g ys) met) xs i past) ∙ before

-- and as it is
pub step_plain : {A C : Type 0} (each : A → C → C) (xs : List A) (i : ℕ) (x : A) (met new whole : C)
    → i < length xs → x ≡ get_or xs i x → over each (drop i xs) met ≡ whole → new ≡ each x met → over each (drop (i + 1) xs) new ≡ whole
step_plain each xs i x met new whole within is before one =
    ap (over each (drop (i + 1) xs)) one ∙ at_place (λ ys. over each ys met) xs i x within is ∙ before

pub end_plain : {A C : Type 0} (each : A → C → C) (xs : List A) (i : ℕ) (met whole : C) → length xs ≤ i → over each (drop i xs) met ≡ whole → met ≡ whole
end_plain each xs i met whole past before = sym (at_drop_all (λ ys. over each ys met) xs i past) ∙ before
