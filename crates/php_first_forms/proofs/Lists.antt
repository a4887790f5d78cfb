-- Going over lists of parts and items.
use Rattle.std.proofs.Common.{◌≡◌, ℕ, Option, Some, None, List, [], ◌∷◌, map, refl, sym, ◌∙◌, ap}
use Rattle.php_ast.specs.declared.spot.Spot.{Spot}
use Rattle.php_ast.specs.declared.expression.Expr.{Expr}
use Rattle.php_ast.specs.declared.statement.Stmt.TheVariants.{Echo, rolls-Echo}
use Rattle.php_ast.specs.declared.statement.Stmt.TheOpen.{Stmt-F}
use Rattle.php_ast.specs.declared.statement.Stmt.TheFolds.{fold-roll-Stmt}
use Rattle.php_ast.specs.declared.script.Script as rust_script
use Rattle.php_ast.specs.declared.script.ScriptItem.{ScriptItem}
use Rattle.php_ast.specs.expression.Tree.{Tree, Items, none, and, plain}
use Rattle.php_ast.specs.expression.View.{Note, spot_view, values_from, view}
use Rattle.php_ast.specs.statement.Tree.{Statement, echo}
use Rattle.php_ast.specs.statement.View.{values_view, statement_step, statement_view}
use Rattle.php_ast.specs.declaration.Tree.{Item}
use Rattle.php_ast.specs.declaration.View.{item_view, script_view}
use Rattle.php_legality.specs.Lists.{elements}
use Rattle.php_legality.proofs.SequenceLemmas.{elements_are}
use Rattle.php_places.specs.Over.{over}
use Rattle.php_first_forms.specs.Forms.{or_else, left_in_part, left_in_parts, left_in_item, left_in_items, first_left_out}
use Rattle.php_first_forms.specs.Links.{with_part, with_item}

or_else_assoc : {A : Type 0} (a b c : Option A) → or_else (or_else a b) c ≡ or_else a (or_else b c)
or_else_assoc None b c = refl
or_else_assoc (Some x) b c = refl

or_else_none : {A : Type 0} (a : Option A) → or_else a None ≡ a
or_else_none None = refl
or_else_none (Some x) = refl

pub view_echo : (spot : Spot) (es : List Expr) → statement_view (Echo spot es) ≡ echo (spot_view spot) (values_view es)
view_echo spot es = ap statement_view (sym (rolls-Echo spot es)) ∙ fold-roll-Stmt (Statement Note) statement_step (Stmt-F.Echo spot es)

-- the parts of an `echo`, behind those before
parts_from : (before : Items Note) (es : List (Tree Note)) → over with_part es (left_in_parts before) ≡ left_in_parts (values_from before es)
parts_from before [] = refl
parts_from before (e ∷ es) = parts_from (and before plain e) es

pub parts_are : (es : List Expr) → over with_part (map view es) None ≡ left_in_parts (values_view es)
parts_are es = parts_from none (map view es)

items_behind : (met : Option Note) (items : List (Item Note)) → over with_item items met ≡ or_else met (left_in_items items)
items_behind met [] = sym (or_else_none met)
items_behind met (item ∷ items) = items_behind (or_else met (left_in_item item)) items ∙ or_else_assoc met (left_in_item item) (left_in_items items)

pub script_is : (s : rust_script.Script) → over with_item (map item_view s.items) None ≡ first_left_out (script_view s)
script_is s = items_behind None (map item_view s.items) ∙ ap left_in_items (sym (elements_are item_view s.items))
