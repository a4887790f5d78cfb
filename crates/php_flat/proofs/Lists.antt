-- Lists that grow at their end.
use Rattle.std.proofs.Common.{◌≡◌, ℕ, ◌+◌, Bool, true, List, [], ◌∷◌, ◌++◌, map, refl, sym, ◌∙◌, ap}
use Rattle.std.specs.Prelude.{◌&&◌}
use Rattle.std.specs.List.{list_all}
use Rattle.php_build.proofs.Flats.{both, first_of, second_of}
use Rattle.php_ast.specs.statement.Tree.{Sequence, empty, then_also}
use Rattle.php_ast.specs.statement.View.{sequence_from, sequence}
use Rattle.php_ast.specs.statement.Placed.{size_separated, size_separator, noted_separated}
use Rattle.php_ast.specs.declaration.Placed.{size_joined, noted_joined}

-- ---- what holds of all

all_more : {A : Type 0} (p : A → Bool) (xs : List A) (x : A) → list_all p xs ≡ true → p x ≡ true → list_all p (xs ++ x ∷ []) ≡ true
all_more p [] x all one = ap (λ b. b && true) one
all_more p (y ∷ xs) x all one = both (first_of (p y) (list_all p xs) all) (all_more p xs x (second_of (p y) (list_all p xs) all) one)

-- one more element behind a list
pub all_with : {A : Type 0} (p : A → Bool) (xs new : List A) (x : A) → new ≡ xs ++ x ∷ [] → list_all p xs ≡ true → p x ≡ true → list_all p new ≡ true
all_with p xs new x grown all one = ap (list_all p) grown ∙ all_more p xs x all one

-- ---- as a sequence of trees

push_from : {A : Type 0} (before : Sequence A) (xs : List A) (x : A) → sequence_from before (xs ++ x ∷ []) ≡ then_also (sequence_from before xs) x
push_from before [] x = refl
push_from before (y ∷ xs) x = push_from (then_also before y) xs x

map_push : {A B : Type 0} (f : A → B) (xs : List A) (x : A) → map f (xs ++ x ∷ []) ≡ map f xs ++ f x ∷ []
map_push f [] x = refl
map_push f (y ∷ xs) x = ap (λ ys. f y ∷ ys) (map_push f xs x)

pub pushed : {A B : Type 0} (f : A → B) (xs new : List A) (x : A) → new ≡ xs ++ x ∷ [] → sequence f new ≡ then_also (sequence f xs) (f x)
pushed f xs new x grown = ap (sequence f) grown ∙ ap (sequence_from empty) (map_push f xs x) ∙ push_from empty (map f xs) (f x)

-- between commas
pub separated_more : {A B C : Type 0} (f : C → B) (each : A → ℕ) (note : ℕ → A → B) (at place : ℕ) (ys : Sequence A) (y : A) (xs new : List C) (x : C) → new ≡ xs ++ x ∷ []
    → sequence f xs ≡ noted_separated each note at ys → at + size_separated each ys + size_separator ys ≡ place → f x ≡ note place y
    → sequence f new ≡ noted_separated each note at (then_also ys y)
separated_more f each note at place ys y xs new x grown shown sized is =
    pushed f xs new x grown ∙ ap (λ z. then_also z (f x)) shown ∙ ap (then_also (noted_separated each note at ys)) (is ∙ ap (λ k. note k y) (sym sized))

-- one behind the other
pub joined_more : {A B C : Type 0} (f : C → B) (each : A → ℕ) (note : ℕ → A → B) (at place : ℕ) (ys : Sequence A) (y : A) (xs new : List C) (x : C) → new ≡ xs ++ x ∷ []
    → sequence f xs ≡ noted_joined each note at ys → at + size_joined each ys ≡ place → f x ≡ note place y
    → sequence f new ≡ noted_joined each note at (then_also ys y)
joined_more f each note at place ys y xs new x grown shown sized is =
    pushed f xs new x grown ∙ ap (λ z. then_also z (f x)) shown ∙ ap (then_also (noted_joined each note at ys)) (is ∙ ap (λ k. note k y) (sym sized))
