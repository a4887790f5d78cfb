-- The view of an array.
use Rattle.std.proofs.Common.{◌≡◌, List, [], ◌∷◌, map, refl, sym, ◌∙◌, ap}
use Rattle.php_ast.specs.declared.spot.Spot.{Spot}
use Rattle.php_ast.specs.declared.operator.ArrayForm.{ArrayForm}
use Rattle.php_ast.specs.declared.expression.Expr.{Expr}
use Rattle.php_ast.specs.declared.expression.Expr.TheVariants.{Array, rolls-Array}
use Rattle.php_ast.specs.declared.expression.Expr.TheOpen.{Expr-F}
use Rattle.php_ast.specs.declared.expression.Expr.TheFolds.{fold-roll-Expr}
use Rattle.php_ast.specs.declared.expression.Item.{Item}
use Rattle.php_ast.specs.declared.expression.Item.TheVariants as item
use Rattle.php_ast.specs.expression.Tree.{Tree, listed, array, none}
use Rattle.php_ast.specs.expression.View.{Note, spot_view, items_from, view, view_step}
use Rattle.php_ast.specs.expression.Parts.{item_with}

map_same : {A B : Type 0} (f g : A → B) → ((x : A) → f x ≡ g x) → (xs : List A) → map f xs ≡ map g xs
map_same f g same [] = refl
map_same f g same (x ∷ xs) = ap (λ y. y ∷ map f xs) (same x) ∙ ap (λ ys. g x ∷ ys) (map_same f g same xs)

item_same : (h : Item Expr → Item (Tree Note)) → h item.Missing ≡ item.Missing → ((e : Expr) → h (item.Value e) ≡ item.Value (view e)) → ((e : Expr) → h (item.Reference e) ≡ item.Reference (view e))
    → ((k e : Expr) → h (item.Keyed k e) ≡ item.Keyed (view k) (view e)) → ((k e : Expr) → h (item.KeyedReference k e) ≡ item.KeyedReference (view k) (view e))
    → (x : Item Expr) → h x ≡ item_with view x
item_same h p q r s u item.Missing = p
item_same h p q r s u (item.Value e) = q e
item_same h p q r s u (item.Reference e) = r e
item_same h p q r s u (item.Keyed k e) = s k e
item_same h p q r s u (item.KeyedReference k e) = u k e

pub view_array : (spot : Spot) (form : ArrayForm) (items : List (Item Expr)) → view (Array spot form items) ≡ listed (spot_view spot) (array form) (items_from none (map (item_with view) items))
view_array spot form items =
    ap view (sym (rolls-Array spot form items)) ∙ fold-roll-Expr (Tree Note) view_step (Expr-F.Array spot form items)
    ∙ ap (λ xs. listed (spot_view spot) (array form) (items_from none xs)) (map_same _ (item_with view) (item_same _ refl (λ e. refl) (λ e. refl) (λ k e. refl) (λ k e. refl)) items)
