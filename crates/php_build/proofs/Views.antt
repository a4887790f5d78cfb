-- Trees whose lists grow.
use Rattle.std.proofs.Common.{◌≡◌, List, [], ◌∷◌, ◌++◌, map, refl, ◌∙◌, ap}
use Rattle.php_ast.specs.declared.expression.Expr.{Expr}
use Rattle.php_ast.specs.declared.expression.Piece.{Piece}
use Rattle.php_ast.specs.declared.expression.Item.{Item}
use Rattle.php_ast.specs.declared.expression.Argument.{Argument}
use Rattle.php_ast.specs.declared.expression.Suffix.{Suffix}
use Rattle.php_ast.specs.declared.expression.ClassStep.{ClassStep}
use Rattle.php_ast.specs.declared.expression.Link.{Link}
use Rattle.php_ast.specs.expression.Tree.{Tree, Items, plain, and, Pieces, Steps}
use Rattle.php_ast.specs.expression.View.{Note, view, piece_more, pieces_from, item_more, items_from, argument_more, arguments_from, values_from, step_more, steps_from, with_suffix, with_suffixes, with_link, with_links}
use Rattle.php_ast.specs.expression.Parts.{argument_with, item_with, link_with, piece_with, step_with, suffix_with}

pub map_push : {A B : Type 0} (f : A → B) (xs : List A) (x : A) → map f (xs ++ x ∷ []) ≡ map f xs ++ f x ∷ []
map_push f [] x = refl
map_push f (y ∷ xs) x = ap (λ v. f y ∷ v) (map_push f xs x)

links_end : (e : Tree Note) (xs : List (Link (Tree Note))) (x : Link (Tree Note)) → with_links e (xs ++ x ∷ []) ≡ with_link (with_links e xs) x
links_end e [] x = refl
links_end e (y ∷ xs) x = links_end (with_link e y) xs x

pub link_push : (e : Tree Note) (xs new : List (Link Expr)) (x : Link Expr) → new ≡ xs ++ x ∷ []
    → with_links e (map (link_with view) new) ≡ with_link (with_links e (map (link_with view) xs)) (link_with view x)
link_push e xs new x grown = ap (λ l. with_links e (map (link_with view) l)) grown ∙ ap (with_links e) (map_push (link_with view) xs x) ∙ links_end e (map (link_with view) xs) (link_with view x)

suffixes_end : (e : Tree Note) (xs : List (Suffix (Tree Note))) (x : Suffix (Tree Note)) → with_suffixes e (xs ++ x ∷ []) ≡ with_suffix (with_suffixes e xs) x
suffixes_end e [] x = refl
suffixes_end e (y ∷ xs) x = suffixes_end (with_suffix e y) xs x

pub suffix_push : (e : Tree Note) (xs new : List (Suffix Expr)) (x : Suffix Expr) → new ≡ xs ++ x ∷ []
    → with_suffixes e (map (suffix_with view) new) ≡ with_suffix (with_suffixes e (map (suffix_with view) xs)) (suffix_with view x)
suffix_push e xs new x grown = ap (λ l. with_suffixes e (map (suffix_with view) l)) grown ∙ ap (with_suffixes e) (map_push (suffix_with view) xs x) ∙ suffixes_end e (map (suffix_with view) xs) (suffix_with view x)

arguments_end : (e : Items Note) (xs : List (Argument (Tree Note))) (x : Argument (Tree Note)) → arguments_from e (xs ++ x ∷ []) ≡ argument_more (arguments_from e xs) x
arguments_end e [] x = refl
arguments_end e (y ∷ xs) x = arguments_end (argument_more e y) xs x

pub argument_push : (e : Items Note) (xs new : List (Argument Expr)) (x : Argument Expr) → new ≡ xs ++ x ∷ []
    → arguments_from e (map (argument_with view) new) ≡ argument_more (arguments_from e (map (argument_with view) xs)) (argument_with view x)
argument_push e xs new x grown =
    ap (λ l. arguments_from e (map (argument_with view) l)) grown ∙ ap (arguments_from e) (map_push (argument_with view) xs x) ∙ arguments_end e (map (argument_with view) xs) (argument_with view x)

items_end : (e : Items Note) (xs : List (Item (Tree Note))) (x : Item (Tree Note)) → items_from e (xs ++ x ∷ []) ≡ item_more (items_from e xs) x
items_end e [] x = refl
items_end e (y ∷ xs) x = items_end (item_more e y) xs x

pub item_push : (e : Items Note) (xs new : List (Item Expr)) (x : Item Expr) → new ≡ xs ++ x ∷ []
    → items_from e (map (item_with view) new) ≡ item_more (items_from e (map (item_with view) xs)) (item_with view x)
item_push e xs new x grown =
    ap (λ l. items_from e (map (item_with view) l)) grown ∙ ap (items_from e) (map_push (item_with view) xs x) ∙ items_end e (map (item_with view) xs) (item_with view x)

values_end : (e : Items Note) (xs : List (Tree Note)) (x : Tree Note) → values_from e (xs ++ x ∷ []) ≡ and (values_from e xs) plain x
values_end e [] x = refl
values_end e (y ∷ xs) x = values_end (and e plain y) xs x

pub value_push : (e : Items Note) (xs new : List Expr) (x : Expr) → new ≡ xs ++ x ∷ []
    → values_from e (map view new) ≡ and (values_from e (map view xs)) plain (view x)
value_push e xs new x grown = ap (λ l. values_from e (map view l)) grown ∙ ap (values_from e) (map_push view xs x) ∙ values_end e (map view xs) (view x)

pieces_end : (e : Pieces Note) (xs : List (Piece (Tree Note))) (x : Piece (Tree Note)) → pieces_from e (xs ++ x ∷ []) ≡ piece_more (pieces_from e xs) x
pieces_end e [] x = refl
pieces_end e (y ∷ xs) x = pieces_end (piece_more e y) xs x

pub piece_push : (e : Pieces Note) (xs new : List (Piece Expr)) (x : Piece Expr) → new ≡ xs ++ x ∷ []
    → pieces_from e (map (piece_with view) new) ≡ piece_more (pieces_from e (map (piece_with view) xs)) (piece_with view x)
piece_push e xs new x grown =
    ap (λ l. pieces_from e (map (piece_with view) l)) grown ∙ ap (pieces_from e) (map_push (piece_with view) xs x) ∙ pieces_end e (map (piece_with view) xs) (piece_with view x)

steps_end : (e : Steps Note) (xs : List (ClassStep (Tree Note))) (x : ClassStep (Tree Note)) → steps_from e (xs ++ x ∷ []) ≡ step_more (steps_from e xs) x
steps_end e [] x = refl
steps_end e (y ∷ xs) x = steps_end (step_more e y) xs x

pub step_push : (e : Steps Note) (xs new : List (ClassStep Expr)) (x : ClassStep Expr) → new ≡ xs ++ x ∷ []
    → steps_from e (map (step_with view) new) ≡ step_more (steps_from e (map (step_with view) xs)) (step_with view x)
step_push e xs new x grown =
    ap (λ l. steps_from e (map (step_with view) l)) grown ∙ ap (steps_from e) (map_push (step_with view) xs x) ∙ steps_end e (map (step_with view) xs) (step_with view x)
