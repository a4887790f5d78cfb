-- Which elements of lists in an expression are constant.
use Rattle.std.specs.Prelude.{Bool, true, false, ◌&&◌, List, [], ◌∷◌}
use Rattle.php_ast.specs.declared.expression.Expr.{Expr}
use Rattle.php_ast.specs.declared.expression.Item.{Item}
use Rattle.php_ast.specs.declared.expression.Item.TheVariants as item
use Rattle.php_ast.specs.declared.expression.Suffix.{Suffix}
use Rattle.php_ast.specs.declared.expression.Suffix.TheVariants as suffix
use Rattle.php_ast.specs.declared.expression.Member.TheVariants as member
use Rattle.php_ast.specs.declared.expression.Link.{Link}
use Rattle.php_ast.specs.declared.expression.Link.TheVariants as link
use Rattle.php_ast.specs.declared.operator.ArrayForm.{ArrayForm}
use Rattle.php_ast.specs.declared.operator.ArrayForm.TheVariants as form
use Rattle.php_ast.specs.expression.Tree.{Tree}
use Rattle.php_ast.specs.expression.View.{Note}
use Rattle.php_legality.specs.Constants.{is_constant}

abbrev pub is_constant_item : Item (Tree Note) → Bool
is_constant_item item.Missing = true
is_constant_item (item.Value e) = is_constant e
is_constant_item (item.Reference e) = false
is_constant_item (item.Keyed k e) = is_constant k && is_constant e
is_constant_item (item.KeyedReference k e) = false

abbrev pub is_constant_link : Link (Tree Note) → Bool
is_constant_link (link.Operator op e) = is_constant e
is_constant_link (link.Choice a b) = is_constant a && is_constant b
is_constant_link (link.ShortChoice b) = is_constant b

-- `:: name`
abbrev pub is_constant_suffix : Suffix Expr → Bool
is_constant_suffix (suffix.Member (member.Word w)) = true
is_constant_suffix _ = false

abbrev pub all_constant : {A : Type 0} → (A → Bool) → List A → Bool
all_constant test [] = true
all_constant test (x ∷ xs) = test x && all_constant test xs

abbrev pub is_constant_array : ArrayForm → List (Item (Tree Note)) → Bool
is_constant_array form.Brackets items = all_constant is_constant_item items
is_constant_array form.Array items = all_constant is_constant_item items
is_constant_array form.List items = false

-- one suffix alone, of a constant of a class
abbrev pub is_constant_access : List (Suffix Expr) → Bool
is_constant_access [] = false
is_constant_access (x ∷ []) = is_constant_suffix x
is_constant_access (x ∷ y ∷ xs) = false
