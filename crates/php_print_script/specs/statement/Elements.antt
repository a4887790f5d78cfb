-- How parts of statements of the program are spelled.
use Rattle.std.specs.Prelude.{Option, Some, None, List, ◌∷◌, map}
use Rattle.php_token.specs.declared.kind.Keyword.TheVariants as word
use Rattle.php_token.specs.declared.kind.Punct.TheVariants as mark
use Rattle.php_ast.specs.declared.statement.Stmt.{Stmt}
use Rattle.php_ast.specs.declared.statement.ElseIf.{ElseIf}
use Rattle.php_ast.specs.declared.statement.Case.{Case}
use Rattle.php_ast.specs.declared.statement.Catch.{Catch}
use Rattle.php_ast.specs.declared.statement.ForHead.{ForHead}
use Rattle.php_ast.specs.declared.statement.ForeachHead.{ForeachHead}
use Rattle.php_ast.specs.declared.statement.SwitchForm.{SwitchForm}
use Rattle.php_ast.specs.declared.expression.Expr.{Expr}
use Rattle.php_ast.specs.declared.spot.Name as rust_name
use Rattle.php_token.specs.declared.kind.Keyword.{Keyword}
use Rattle.php_ast.specs.expression.Spelling.{spell, spell_items}
use Rattle.php_ast.specs.Symbol.{Symbol, keyword, punct}
use Rattle.php_ast.specs.expression.View.{Note, view}
use Rattle.php_ast.specs.statement.Tree.{Statement, no_elseif, no_elseif_list, no_case, no_catch}
use Rattle.php_ast.specs.statement.View.{optional, list_view, name_view, names_view, values_view, target_view, elseifs_from, elseif_lists_from, cases_from, catches_from, statement_view}
use Rattle.php_ast.specs.statement.Parts.{elseif_with, elseif_list_with, case_with, catch_with}
use Rattle.php_ast.specs.statement.Spelling.{separated, spell_head, spell_name, spell_dollar, spell_label, case_end_symbol, spell_key, spell_target, cases_opening, cases_closing, spell_statement, spell_statements, spell_elseifs, spell_elseif_lists, spell_cases, spell_catches}

-- ---- one element of a list, in front of what follows it

abbrev pub spell_elseif : ElseIf (Statement Note) → List Symbol → List Symbol
spell_elseif p w = spell_head word.ElseIf (view p.test) (spell_statement p.body w)

abbrev pub spell_elseif_list : ElseIf (List (Statement Note)) → List Symbol → List Symbol
spell_elseif_list p w = spell_head word.ElseIf (view p.test) (punct mark.Colon ∷ spell_statements (list_view p.body) w)

abbrev pub spell_case : Case (Statement Note) → List Symbol → List Symbol
spell_case c w = spell_label (optional view c.value) (case_end_symbol c.end ∷ spell_statements (list_view c.body) w)

-- statements in braces
abbrev pub spell_braces : List (Statement Note) → List Symbol → List Symbol
spell_braces ss w = punct mark.LeftBrace ∷ spell_statements (list_view ss) (punct mark.RightBrace ∷ w)

abbrev pub spell_catch : Catch (Statement Note) → List Symbol → List Symbol
spell_catch c w =
    keyword word.Catch ∷ punct mark.LeftParen ∷ separated (punct mark.Bar) spell_name (names_view c.classes)
    (spell_dollar (name_view c.variable) (punct mark.RightParen ∷ spell_braces c.body w))

-- ---- what may be absent

abbrev pub spell_else : Option (Statement Note) → List Symbol → List Symbol
spell_else None w = w
spell_else (Some s) w = keyword word.Else ∷ spell_statement s w

abbrev pub spell_else_list : Option (List (Statement Note)) → List Symbol → List Symbol
spell_else_list None w = w
spell_else_list (Some ss) w = keyword word.Else ∷ punct mark.Colon ∷ spell_statements (list_view ss) w

abbrev pub spell_finally : Option (List (Statement Note)) → List Symbol → List Symbol
spell_finally None w = w
spell_finally (Some ss) w = keyword word.Finally ∷ spell_braces ss w

-- ---- statements with statements in them, from their parts

abbrev pub spell_list_behind : Keyword → Expr → List Stmt → List Symbol → List Symbol
spell_list_behind head test body w = spell_head head (view test) (punct mark.Colon ∷ spell_statements (list_view (map statement_view body)) w)

abbrev pub spell_if : Expr → Stmt → List (ElseIf Stmt) → Option Stmt → List Symbol → List Symbol
spell_if test body parts last w =
    spell_head word.If (view test) (spell_statement (statement_view body) (spell_elseifs (elseifs_from no_elseif (map (elseif_with statement_view) parts))
    (spell_else (optional statement_view last) w)))

abbrev pub spell_if_lists : Expr → List Stmt → List (ElseIf (List Stmt)) → Option (List Stmt) → List Symbol → List Symbol
spell_if_lists test body parts last w =
    spell_list_behind word.If test body (spell_elseif_lists (elseif_lists_from no_elseif_list (map (elseif_list_with statement_view) parts))
    (spell_else_list (optional (map statement_view) last) (keyword word.EndIf ∷ punct mark.Semicolon ∷ w)))

abbrev pub spell_do : Stmt → Expr → List Symbol → List Symbol
spell_do body test w = keyword word.Do ∷ spell_statement (statement_view body) (spell_head word.While (view test) (punct mark.Semicolon ∷ w))

abbrev pub spell_switch : Expr → SwitchForm → List (Case Stmt) → List Symbol → List Symbol
spell_switch e form cases w =
    spell_head word.Switch (view e) (cases_opening form ∷ spell_cases (cases_from no_case (map (case_with statement_view) cases)) (cases_closing form w))

abbrev pub spell_try : List Stmt → List (Catch Stmt) → Option (List Stmt) → List Symbol → List Symbol
spell_try body catches last w =
    keyword word.Try ∷ spell_braces (map statement_view body) (spell_catches (catches_from no_catch (map (catch_with statement_view) catches))
    (spell_finally (optional (map statement_view) last) w))

-- ---- heads

abbrev pub spell_for_head : ForHead → List Symbol → List Symbol
spell_for_head head w =
    keyword word.For ∷ punct mark.LeftParen ∷ spell_items (values_view head.starts) (punct mark.Semicolon ∷ spell_items (values_view head.tests)
    (punct mark.Semicolon ∷ spell_items (values_view head.steps) (punct mark.RightParen ∷ w)))

abbrev pub spell_foreach_head : ForeachHead → List Symbol → List Symbol
spell_foreach_head head w =
    keyword word.Foreach ∷ punct mark.LeftParen ∷ spell (view head.walked) (keyword word.As ∷ spell_key (optional target_view head.key)
    (spell_target (target_view head.value) (punct mark.RightParen ∷ w)))

abbrev pub spell_catch_head : List rust_name.Name → rust_name.Name → List Symbol → List Symbol
spell_catch_head classes variable w =
    keyword word.Catch ∷ punct mark.LeftParen ∷ separated (punct mark.Bar) spell_name (names_view classes) (spell_dollar (name_view variable) (punct mark.RightParen ∷ w))
