use Rattle.std.proofs.Common.{◌≡◌, ◌+◌, ◌*◌, List, ◌∷◌, ◌++◌, map, drop}
use Rattle.php_token.specs.declared.kind.Keyword.TheVariants as word
use Rattle.php_token.specs.declared.kind.Punct.TheVariants as mark
use Rattle.php_ast.specs.Symbol.{Symbol, keyword, punct}
use Rattle.php_ast.specs.expression.View.{view}
use Rattle.php_ast.specs.statement.Tree.{no_elseif, no_elseif_list, no_case, no_catch}
use Rattle.php_ast.specs.statement.Spelling.{spell_head, cases_opening, spell_statement, spell_statements, spell_elseifs, spell_elseif_lists, spell_cases, spell_catches}
use Rattle.php_ast.specs.statement.View.{optional, list_view, elseifs_from, elseif_lists_from, cases_from, catches_from, statement_view}
use Rattle.php_ast.specs.statement.Parts.{elseif_with, elseif_list_with, body_with, case_with, catch_with}
use Rattle.php_print_script.specs.statement.Elements.{spell_braces, spell_elseif, spell_elseif_list, spell_case, spell_catch}
use Rattle.php_print.proofs.Lists.{all}
use Rattle.php_weights.proofs.Expressions.{total}
use Rattle.php_weights.proofs.Statements.{same, elseif_weight, elseif_list_weight, body_weight, case_weight, catch_weight, last_weight, last_list_weight, statement_weight}
use Rattle.php_print_script.proofs.statement.+statements.Given as goal

abbrev pub decreases-put_statement : goal.decreases-put_statement
decreases-put_statement l = 6 * statement_weight l.s.now

abbrev pub decreases-put_statements : goal.decreases-put_statements
decreases-put_statements l = 6 * total same (map statement_weight l.body.now) + 1

abbrev pub decreases-put_block : goal.decreases-put_block
decreases-put_block l = 6 * total same (map statement_weight l.body.now) + 2

abbrev pub decreases-put_list_behind : goal.decreases-put_list_behind
decreases-put_list_behind l = 6 * total same (map statement_weight l.body.now) + 2

abbrev pub decreases-put_body : goal.decreases-put_body
decreases-put_body l = 6 * body_weight (body_with statement_weight l.body.now) + 3

abbrev pub decreases-put_do_while : goal.decreases-put_do_while
decreases-put_do_while l = 6 * statement_weight l.body.now + 1

abbrev pub decreases-put_if : goal.decreases-put_if
decreases-put_if l =
    6 * (statement_weight l.body.now + total elseif_weight (map (elseif_with statement_weight) l.parts.now) + last_weight (optional statement_weight l.last.now)) + 2

abbrev pub decreases-put_elseif : goal.decreases-put_elseif
decreases-put_elseif l = 6 * elseif_weight (elseif_with statement_weight l.part.now) + 1

abbrev pub decreases-put_else : goal.decreases-put_else
decreases-put_else l = 6 * last_weight (optional statement_weight l.last.now) + 1

abbrev pub decreases-put_if_lists : goal.decreases-put_if_lists
decreases-put_if_lists l =
    6 * (total same (map statement_weight l.body.now) + total elseif_list_weight (map (elseif_list_with statement_weight) l.parts.now)
    + last_list_weight (optional (map statement_weight) l.last.now)) + 4

abbrev pub decreases-put_elseif_list : goal.decreases-put_elseif_list
decreases-put_elseif_list l = 6 * elseif_list_weight (elseif_list_with statement_weight l.part.now) + 3

abbrev pub decreases-put_else_list : goal.decreases-put_else_list
decreases-put_else_list l = 6 * last_list_weight (optional (map statement_weight) l.last.now) + 2

abbrev pub decreases-put_switch : goal.decreases-put_switch
decreases-put_switch l = 6 * total case_weight (map (case_with statement_weight) l.cases.now) + 3

abbrev pub decreases-put_case : goal.decreases-put_case
decreases-put_case l = 6 * case_weight (case_with statement_weight l.case.now) + 2

abbrev pub decreases-put_try : goal.decreases-put_try
decreases-put_try l =
    6 * (total same (map statement_weight l.body.now) + total catch_weight (map (catch_with statement_weight) l.catches.now)
    + last_list_weight (optional (map statement_weight) l.last.now)) + 4

abbrev pub decreases-put_catch : goal.decreases-put_catch
decreases-put_catch l = 6 * catch_weight (catch_with statement_weight l.catch.now) + 3

abbrev pub decreases-put_finally : goal.decreases-put_finally
decreases-put_finally l = 6 * last_list_weight (optional (map statement_weight) l.last.now) + 3

abbrev pub invariant-put_statements-loop-s : goal.invariant-put_statements-loop-s
invariant-put_statements-loop-s l =
    (w : List Symbol) → l.printer ++ all spell_statement (map statement_view (drop l.s-index l.body)) w ≡ l.fn.printer ++ spell_statements (list_view (map statement_view l.body)) w

abbrev pub invariant-put_if-loop-part : goal.invariant-put_if-loop-part
invariant-put_if-loop-part l =
    (w : List Symbol) → l.printer ++ all spell_elseif (map (elseif_with statement_view) (drop l.part-index l.parts)) w
    ≡ l.fn.printer ++ spell_head word.If (view l.test) (spell_statement (statement_view l.body) (spell_elseifs (elseifs_from no_elseif (map (elseif_with statement_view) l.parts)) w))

abbrev pub invariant-put_if_lists-loop-part : goal.invariant-put_if_lists-loop-part
invariant-put_if_lists-loop-part l =
    (w : List Symbol) → l.printer ++ all spell_elseif_list (map (elseif_list_with statement_view) (drop l.part-index l.parts)) w
    ≡ l.fn.printer ++ spell_head word.If (view l.test) (punct mark.Colon ∷ spell_statements (list_view (map statement_view l.body))
    (spell_elseif_lists (elseif_lists_from no_elseif_list (map (elseif_list_with statement_view) l.parts)) w))

abbrev pub invariant-put_switch-loop-case : goal.invariant-put_switch-loop-case
invariant-put_switch-loop-case l =
    (w : List Symbol) → l.printer ++ all spell_case (map (case_with statement_view) (drop l.case-index l.cases)) w
    ≡ l.fn.printer ++ spell_head word.Switch (view l.e) (cases_opening l.form ∷ spell_cases (cases_from no_case (map (case_with statement_view) l.cases)) w)

abbrev pub invariant-put_try-loop-catch : goal.invariant-put_try-loop-catch
invariant-put_try-loop-catch l =
    (w : List Symbol) → l.printer ++ all spell_catch (map (catch_with statement_view) (drop l.catch-index l.catches)) w
    ≡ l.fn.printer ++ keyword word.Try ∷ spell_braces (map statement_view l.body) (spell_catches (catches_from no_catch (map (catch_with statement_view) l.catches)) w)
