-- The view of a `try`.
use Rattle.std.proofs.Common.{◌≡◌, Option, Some, None, List, ◌∷◌, map, refl, sym, ◌∙◌, ap}
use Rattle.php_ast.specs.declared.spot.Spot.{Spot}
use Rattle.php_ast.specs.declared.statement.Catch.{Catch}
use Rattle.php_ast.specs.declared.statement.Stmt.{Stmt}
use Rattle.php_ast.specs.declared.statement.Stmt.TheVariants.{Try, rolls-Try}
use Rattle.php_ast.specs.declared.statement.Stmt.TheOpen.{Stmt-F}
use Rattle.php_ast.specs.declared.statement.Stmt.TheFolds.{fold-roll-Stmt}
use Rattle.php_ast.specs.expression.View.{Note, spot_view}
use Rattle.php_ast.specs.statement.Tree.{Statement, Statements, Catches, no_catch}
use Rattle.php_ast.specs.statement.View.{optional, list_view, catches_from, try_view, statement_view, statement_step}
use Rattle.php_legality.specs.declared.fault.Fault.{Fault}
use Rattle.php_legality.specs.Statements.{Around, finally_block}
use Rattle.php_jumps.specs.Met.{met_statement, met_list, met_catches, met_last}
use Rattle.php_ast.specs.statement.Parts.{catch_with}

view_try : (spot : Spot) (body : List Stmt) (catches : List (Catch Stmt)) (last : Option (List Stmt))
    → statement_view (Try spot body catches last) ≡ try_view (spot_view spot) (list_view (map statement_view body)) (catches_from no_catch (map (catch_with statement_view) catches)) (optional (map statement_view) last)
view_try spot body catches None = ap statement_view (sym (rolls-Try spot body catches None)) ∙ fold-roll-Stmt (Statement Note) statement_step (Stmt-F.Try spot body catches None)
view_try spot body catches (Some last) =
    ap statement_view (sym (rolls-Try spot body catches (Some last))) ∙ fold-roll-Stmt (Statement Note) statement_step (Stmt-F.Try spot body catches (Some last))

met_try : (at : Note) (body : Statements Note) (catches : Catches Note) (last : Option (List Stmt)) (around : List Around) (met : Option Fault)
    → met_last (finally_block ∷ around) (optional (λ ss. list_view (map statement_view ss)) last) (met_catches around catches (met_list around body met))
    ≡ met_statement around (try_view at body catches (optional (map statement_view) last)) met
met_try at body catches None around met = refl
met_try at body catches (Some last) around met = refl

pub walked_try : (spot : Spot) (body : List Stmt) (catches : List (Catch Stmt)) (last : Option (List Stmt)) (around : List Around) (met one two three : Option Fault)
    → one ≡ met_list around (list_view (map statement_view body)) met → two ≡ met_catches around (catches_from no_catch (map (catch_with statement_view) catches)) one
    → three ≡ met_last (finally_block ∷ around) (optional (λ ss. list_view (map statement_view ss)) last) two
    → three ≡ met_statement around (statement_view (Try spot body catches last)) met
walked_try spot body catches last around met one two three first second third =
    let rest = λ (m : Option Fault). met_last (finally_block ∷ around) (optional (λ ss. list_view (map statement_view ss)) last) m in
    let caught = λ (m : Option Fault). met_catches around (catches_from no_catch (map (catch_with statement_view) catches)) m in
    third ∙ ap rest second ∙ ap (λ m. rest (caught m)) first
    ∙ met_try (spot_view spot) (list_view (map statement_view body)) (catches_from no_catch (map (catch_with statement_view) catches)) last around met
    ∙ ap (λ s. met_statement around s met) (sym (view_try spot body catches last))
