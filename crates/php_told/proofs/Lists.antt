-- Values of an `echo`, statements of a block and items of a script, as lists.
use Rattle.std.specs.Option.{option_or}
use Rattle.std.proofs.Common.{◌≡◌, List, [], ◌∷◌, map, sym, ◌∙◌, ap}
use Rattle.php_ast.specs.declared.spot.Spot.{Spot}
use Rattle.php_ast.specs.declared.expression.Expr.{Expr}
use Rattle.php_ast.specs.declared.statement.Stmt.{Stmt}
use Rattle.php_ast.specs.declared.statement.Stmt.TheVariants.{Block, Echo, rolls-Block, rolls-Echo}
use Rattle.php_ast.specs.declared.statement.Stmt.TheOpen.{Stmt-F}
use Rattle.php_ast.specs.declared.statement.Stmt.TheFolds.{fold-roll-Stmt}
use Rattle.php_ast.specs.declared.script.Script as rust_script
use Rattle.php_ast.specs.expression.Tree.{Tree, Items, none, and, plain}
use Rattle.php_ast.specs.expression.View.{Note, values_from, view}
use Rattle.php_ast.specs.statement.Tree.{empty, then_also, Statement, Statements, no_statement, and_statement}
use Rattle.php_ast.specs.statement.View.{sequence_from, statements_from, statement_step, statement_view}
use Rattle.php_ast.specs.declaration.Tree.{Item, Script}
use Rattle.php_ast.specs.declaration.View.{item_view, script_view}
use Rattle.php_told.specs.First.{first_in, first_in_items, first_in_statement, first_in_statements, first_in_item, first_not_told}
use Rattle.php_told.specs.Parts.{first_of}
use Rattle.php_told.proofs.Nodes.{or_none, or_assoc}

values_first : (before : Items Note) (es : List (Tree Note)) → first_in_items (values_from before es) ≡ option_or (first_in_items before) (first_of first_in es)
values_first before [] = sym (or_none (first_in_items before))
values_first before (e ∷ es) = values_first (and before plain e) es ∙ or_assoc (first_in_items before) (first_in e) (first_of first_in es)

pub echo_first : (spot : Spot) (es : List Expr) → first_of first_in (map view es) ≡ first_in_statement (statement_view (Echo spot es))
echo_first spot es =
    sym (values_first none (map view es))
    ∙ ap (λ s. first_in_statement s) (sym (ap statement_view (sym (rolls-Echo spot es)) ∙ fold-roll-Stmt (Statement Note) statement_step (Stmt-F.Echo spot es)))

statements_first : (before : Statements Note) (ss : List (Statement Note)) → first_in_statements (statements_from before ss) ≡ option_or (first_in_statements before) (first_of first_in_statement ss)
statements_first before [] = sym (or_none (first_in_statements before))
statements_first before (s ∷ ss) = statements_first (and_statement before s) ss ∙ or_assoc (first_in_statements before) (first_in_statement s) (first_of first_in_statement ss)

pub block_first : (spot : Spot) (ss : List Stmt) → first_of first_in_statement (map statement_view ss) ≡ first_in_statement (statement_view (Block spot ss))
block_first spot ss =
    sym (statements_first no_statement (map statement_view ss))
    ∙ ap (λ s. first_in_statement s) (sym (ap statement_view (sym (rolls-Block spot ss)) ∙ fold-roll-Stmt (Statement Note) statement_step (Stmt-F.Block spot ss)))

items_first : (before : Script Note) (items : List (Item Note)) → first_not_told (sequence_from before items) ≡ option_or (first_not_told before) (first_of first_in_item items)
items_first before [] = sym (or_none (first_not_told before))
items_first before (i ∷ is) = items_first (then_also before i) is ∙ or_assoc (first_not_told before) (first_in_item i) (first_of first_in_item is)

pub script_first : (s : rust_script.Script) → first_of first_in_item (map item_view s.items) ≡ first_not_told (script_view s)
script_first s = sym (items_first empty (map item_view s.items))
