-- The elements of a sequence that was read from a list.
use Rattle.std.proofs.Common.{◌≡◌, List, [], ◌∷◌, ◌++◌, map, refl, sym, ◌∙◌, ap}
use Rattle.php_ast.specs.statement.Tree.{Sequence, empty, then_also}
use Rattle.php_ast.specs.statement.View.{sequence_from, sequence}
use Rattle.php_legality.specs.Lists.{elements}
use Rattle.php_legality.proofs.HasLemmas.{append_assoc}

elements_behind : {A : Type 0} (before : Sequence A) (xs : List A) → elements (sequence_from before xs) ≡ elements before ++ xs
elements_behind before [] = sym (nothing_behind (elements before))
  where
    nothing_behind : {A : Type 0} (xs : List A) → xs ++ [] ≡ xs
    nothing_behind [] = refl
    nothing_behind (x ∷ xs) = ap (λ ys. x ∷ ys) (nothing_behind xs)
elements_behind before (x ∷ xs) = elements_behind (then_also before x) xs ∙ append_assoc (elements before) (x ∷ []) xs

pub elements_are : {A B : Type 0} (f : A → B) (xs : List A) → elements (sequence f xs) ≡ map f xs
elements_are f xs = elements_behind empty (map f xs)
