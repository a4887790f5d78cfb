-- The views of forms whose parts are lists.
use Rattle.std.proofs.Common.{◌≡◌, ℕ, List, [], ◌∷◌, map, refl, sym, ◌∙◌, ap}
use Rattle.php_ast.specs.declared.spot.Spot.{Spot}
use Rattle.php_ast.specs.declared.spot.Word.{Word}
use Rattle.php_ast.specs.declared.operator.ArrayForm.{ArrayForm}
use Rattle.php_ast.specs.declared.expression.Expr.{Expr}
use Rattle.php_ast.specs.declared.expression.Expr.TheVariants.{Template, Array, IsSet, New, NewWith, rolls-Template, rolls-Array, rolls-IsSet, rolls-New, rolls-NewWith}
use Rattle.php_ast.specs.declared.expression.Expr.TheOpen.{Expr-F}
use Rattle.php_ast.specs.declared.expression.Expr.TheFolds.{fold-roll-Expr}
use Rattle.php_ast.specs.declared.expression.Piece.{Piece}
use Rattle.php_ast.specs.declared.expression.Piece.TheVariants as piece
use Rattle.php_ast.specs.declared.expression.Item.{Item}
use Rattle.php_ast.specs.declared.expression.Item.TheVariants as item
use Rattle.php_ast.specs.declared.expression.Argument.{Argument}
use Rattle.php_ast.specs.declared.expression.Argument.TheVariants as argument
use Rattle.php_ast.specs.declared.expression.Class as behind_new
use Rattle.php_ast.specs.declared.expression.Class.TheVariants as class
use Rattle.php_ast.specs.declared.expression.ClassStep.{ClassStep}
use Rattle.php_ast.specs.declared.expression.ClassStep.TheVariants as class_step
use Rattle.php_ast.specs.expression.Tree.{Tree, template, listed, new, new_with, array, is_set, none, no_piece}
use Rattle.php_ast.specs.expression.View.{Note, spot_view, pieces_from, items_from, arguments_from, values_from, class_view, view, view_step}
use Rattle.php_ast.specs.expression.Parts.{piece_with, item_with, argument_with, class_with, step_with}

map_same : {A B : Type 0} (f g : A → B) → ((x : A) → f x ≡ g x) → (xs : List A) → map f xs ≡ map g xs
map_same f g same [] = refl
map_same f g same (x ∷ xs) = ap (λ y. y ∷ map f xs) (same x) ∙ ap (λ ys. g x ∷ ys) (map_same f g same xs)

-- A function that does the same at each variant is the same.

piece_same : (h : Piece Expr → Piece (Tree Note)) → ((text : List ℕ) → h (piece.Bytes text) ≡ piece.Bytes text) → ((e : Expr) → h (piece.Part e) ≡ piece.Part (view e))
    → (x : Piece Expr) → h x ≡ piece_with view x
piece_same h p q (piece.Bytes text) = p text
piece_same h p q (piece.Part e) = q e

item_same : (h : Item Expr → Item (Tree Note)) → h item.Missing ≡ item.Missing → ((e : Expr) → h (item.Value e) ≡ item.Value (view e)) → ((e : Expr) → h (item.Reference e) ≡ item.Reference (view e))
    → ((k e : Expr) → h (item.Keyed k e) ≡ item.Keyed (view k) (view e)) → ((k e : Expr) → h (item.KeyedReference k e) ≡ item.KeyedReference (view k) (view e))
    → (x : Item Expr) → h x ≡ item_with view x
item_same h p q r s u item.Missing = p
item_same h p q r s u (item.Value e) = q e
item_same h p q r s u (item.Reference e) = r e
item_same h p q r s u (item.Keyed k e) = s k e
item_same h p q r s u (item.KeyedReference k e) = u k e

argument_same : (h : Argument Expr → Argument (Tree Note)) → ((e : Expr) → h (argument.Value e) ≡ argument.Value (view e)) → ((e : Expr) → h (argument.Spread e) ≡ argument.Spread (view e))
    → (x : Argument Expr) → h x ≡ argument_with view x
argument_same h p q (argument.Value e) = p e
argument_same h p q (argument.Spread e) = q e

step_same : (h : ClassStep Expr → ClassStep (Tree Note)) → ((w : Word) → h (class_step.Property w) ≡ class_step.Property w) → ((e : Expr) → h (class_step.Index e) ≡ class_step.Index (view e))
    → (x : ClassStep Expr) → h x ≡ step_with view x
step_same h p q (class_step.Property w) = p w
step_same h p q (class_step.Index e) = q e

pub view_template : (spot : Spot) (pieces : List (Piece Expr)) → view (Template spot pieces) ≡ template (spot_view spot) (pieces_from no_piece (map (piece_with view) pieces))
view_template spot pieces =
    ap view (sym (rolls-Template spot pieces)) ∙ fold-roll-Expr (Tree Note) view_step (Expr-F.Template spot pieces)
    ∙ ap (λ xs. template (spot_view spot) (pieces_from no_piece xs)) (map_same _ (piece_with view) (piece_same _ (λ text. refl) (λ e. refl)) pieces)

pub view_array : (spot : Spot) (form : ArrayForm) (items : List (Item Expr)) → view (Array spot form items) ≡ listed (spot_view spot) (array form) (items_from none (map (item_with view) items))
view_array spot form items =
    ap view (sym (rolls-Array spot form items)) ∙ fold-roll-Expr (Tree Note) view_step (Expr-F.Array spot form items)
    ∙ ap (λ xs. listed (spot_view spot) (array form) (items_from none xs)) (map_same _ (item_with view) (item_same _ refl (λ e. refl) (λ e. refl) (λ k e. refl) (λ k e. refl)) items)

pub view_is_set : (spot : Spot) (es : List Expr) → view (IsSet spot es) ≡ listed (spot_view spot) is_set (values_from none (map view es))
view_is_set spot es = ap view (sym (rolls-IsSet spot es)) ∙ fold-roll-Expr (Tree Note) view_step (Expr-F.IsSet spot es)

pub view_new : (spot : Spot) (c : behind_new.Class Expr) → view (New spot c) ≡ new (spot_view spot) (class_view (class_with view c))
view_new spot (class.Name n) = ap view (sym (rolls-New spot (class.Name n))) ∙ fold-roll-Expr (Tree Note) view_step (Expr-F.New spot (class.Name n))
view_new spot (class.Static at) = ap view (sym (rolls-New spot (class.Static at))) ∙ fold-roll-Expr (Tree Note) view_step (Expr-F.New spot (class.Static at))
view_new spot (class.Variable n steps) =
    ap view (sym (rolls-New spot (class.Variable n steps))) ∙ fold-roll-Expr (Tree Note) view_step (Expr-F.New spot (class.Variable n steps))
    ∙ ap (λ xs. new (spot_view spot) (class_view (class.Variable n xs))) (map_same _ (step_with view) (step_same _ (λ w. refl) (λ e. refl)) steps)

-- two lists in one node
both : {A B C D E : Type 0} (f : List A → List B → C) (g h : D → A) (k l : E → B) (xs : List D) (ys : List E) → ((x : D) → g x ≡ h x) → ((y : E) → k y ≡ l y) → f (map g xs) (map k ys) ≡ f (map h xs) (map l ys)
both f g h k l xs ys one two = ap (λ zs. f zs (map k ys)) (map_same g h one xs) ∙ ap (f (map h xs)) (map_same k l two ys)

pub view_new_with : (spot : Spot) (c : behind_new.Class Expr) (arguments : List (Argument Expr))
    → view (NewWith spot c arguments) ≡ new_with (spot_view spot) (class_view (class_with view c)) (arguments_from none (map (argument_with view) arguments))
view_new_with spot (class.Name n) arguments =
    ap view (sym (rolls-NewWith spot (class.Name n) arguments)) ∙ fold-roll-Expr (Tree Note) view_step (Expr-F.NewWith spot (class.Name n) arguments)
    ∙ ap (λ xs. new_with (spot_view spot) (class_view (class.Name n)) (arguments_from none xs)) (map_same _ (argument_with view) (argument_same _ (λ e. refl) (λ e. refl)) arguments)
view_new_with spot (class.Static at) arguments =
    ap view (sym (rolls-NewWith spot (class.Static at) arguments)) ∙ fold-roll-Expr (Tree Note) view_step (Expr-F.NewWith spot (class.Static at) arguments)
    ∙ ap (λ xs. new_with (spot_view spot) (class_view (class.Static at)) (arguments_from none xs)) (map_same _ (argument_with view) (argument_same _ (λ e. refl) (λ e. refl)) arguments)
view_new_with spot (class.Variable n steps) arguments =
    ap view (sym (rolls-NewWith spot (class.Variable n steps) arguments)) ∙ fold-roll-Expr (Tree Note) view_step (Expr-F.NewWith spot (class.Variable n steps) arguments)
    ∙ both (λ xs ys. new_with (spot_view spot) (class_view (class.Variable n xs)) (arguments_from none ys)) _ (step_with view) _ (argument_with view) steps arguments
    (step_same _ (λ w. refl) (λ e. refl)) (argument_same _ (λ e. refl) (λ e. refl))
