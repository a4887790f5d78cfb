-- Forms that grow at their end, one part after the other.
use Rattle.std.proofs.Common.{◌≡◌, ◌≤◌, ◌<◌, ℕ, ◌+◌, List, [], ◌∷◌, ◌++◌, map, take, length, get_or, refl, sym, ◌∙◌, ap}
use Rattle.std.proofs.lemmas.List.{map_more, take_all}
use Rattle.php_ast.specs.declared.expression.Piece.{Piece}
use Rattle.php_ast.specs.declared.expression.Link.{Link}
use Rattle.php_ast.specs.expression.Tree.{Tree, Items, and, plain, Pieces}
use Rattle.php_ast.specs.expression.View.{Note, piece_more, pieces_from, values_from, with_link, with_links}
use Rattle.php_ast.specs.statement.Tree.{Sequence, then_also, Statement, Statements, and_statement}
use Rattle.php_ast.specs.statement.View.{statements_from, sequence_from}

-- what has been made of the first parts, and then of one more
module _ {A B T : Type 0} (from : T → List B → T) (more : T → B → T) (at_end : (t : T) (xs : List B) (x : B) → from t (xs ++ x ∷ []) ≡ more (from t xs) x) (g : A → B) where
  pub one_more : (start : T) (xs : List A) (i : ℕ) (x : A) → i < length xs → x ≡ get_or xs i x → from start (map g (take (i + 1) xs)) ≡ more (from start (map g (take i xs))) (g x)
  one_more start xs i x within is =
      ap (from start) (map_more g xs i x within ∙ ap (λ y. map g (take i xs) ++ g y ∷ []) (sym is)) ∙ at_end start (map g (take i xs)) (g x)

pub pieces_end : (t : Pieces Note) (xs : List (Piece (Tree Note))) (x : Piece (Tree Note)) → pieces_from t (xs ++ x ∷ []) ≡ piece_more (pieces_from t xs) x
pieces_end t [] x = refl
pieces_end t (y ∷ xs) x = pieces_end (piece_more t y) xs x

pub links_end : (t : Tree Note) (xs : List (Link (Tree Note))) (x : Link (Tree Note)) → with_links t (xs ++ x ∷ []) ≡ with_link (with_links t xs) x
links_end t [] x = refl
links_end t (y ∷ xs) x = links_end (with_link t y) xs x

abbrev pub with_value : Items Note → Tree Note → Items Note
with_value is e = and is plain e

pub values_end : (t : Items Note) (xs : List (Tree Note)) (x : Tree Note) → values_from t (xs ++ x ∷ []) ≡ with_value (values_from t xs) x
values_end t [] x = refl
values_end t (y ∷ xs) x = values_end (and t plain y) xs x

pub statements_end : (t : Statements Note) (xs : List (Statement Note)) (x : Statement Note) → statements_from t (xs ++ x ∷ []) ≡ and_statement (statements_from t xs) x
statements_end t [] x = refl
statements_end t (y ∷ xs) x = statements_end (and_statement t y) xs x

pub sequence_end : {A : Type 0} (t : Sequence A) (xs : List A) (x : A) → sequence_from t (xs ++ x ∷ []) ≡ then_also (sequence_from t xs) x
sequence_end t [] x = refl
sequence_end t (y ∷ xs) x = sequence_end (then_also t y) xs x

-- A loop over the parts of such a form keeps what a walk makes of those before.
module _ {A B T V : Type 0} (from : T → List B → T) (more : T → B → T) (at_end : (t : T) (xs : List B) (x : B) → from t (xs ++ x ∷ []) ≡ more (from t xs) x)
    (measure : V → T → V) (each : V → B → V) (grows : (v : V) (t : T) (x : B) → measure v (more t x) ≡ each (measure v t) x) (g : A → B) where
  pub kept : (start : T) (v old new : V) (xs : List A) (i : ℕ) (x : A) → i < length xs → x ≡ get_or xs i x
      → old ≡ measure v (from start (map g (take i xs))) → new ≡ each old (g x) → new ≡ measure v (from start (map g (take (i + 1) xs)))
  kept start v old new xs i x within is before one =
      one ∙ ap (λ u. each u (g x)) before ∙ sym (grows v (from start (map g (take i xs))) (g x)) ∙ ap (measure v) (sym (one_more from more at_end g start xs i x within is))

  pub whole : (start : T) (v now : V) (xs : List A) (i : ℕ) → length xs ≤ i → now ≡ measure v (from start (map g (take i xs))) → now ≡ measure v (from start (map g xs))
  whole start v now xs i over before = before ∙ ap (λ ys. measure v (from start (map g ys))) (take_all i xs over)
