use Rattle.std.proofs.Common.{◌≡◌, ◌+◌, ◌*◌, map, take}
use Rattle.php_ast.specs.expression.View.{view}
use Rattle.php_ast.specs.statement.Tree.{no_statement, no_elseif, no_elseif_list, no_case, no_catch}
use Rattle.php_ast.specs.statement.View.{optional, statements_from, elseifs_from, elseif_lists_from, cases_from, catches_from, statement_view}
use Rattle.php_weights.proofs.Expressions.{total}
use Rattle.php_weights.proofs.Statements.{same, elseif_weight, elseif_list_weight, body_weight, case_weight, catch_weight, last_weight, last_list_weight, statement_weight}
use Rattle.php_many_names.specs.Met.{met_tree, met_list, met_elseifs, met_elseif_lists, met_cases, met_catches}
use Rattle.php_ast.specs.statement.Parts.{elseif_with, elseif_list_with, body_with, case_with, catch_with}
use Rattle.php_many_names.proofs.statement.+statements.Given as goal

abbrev pub decreases-meet_statement : goal.decreases-meet_statement
decreases-meet_statement l = 8 * statement_weight l.s.now

abbrev pub decreases-meet_list : goal.decreases-meet_list
decreases-meet_list l = 8 * total same (map statement_weight l.body.now) + 1

abbrev pub decreases-meet_body : goal.decreases-meet_body
decreases-meet_body l = 8 * body_weight (body_with statement_weight l.body.now) + 2

abbrev pub decreases-meet_if : goal.decreases-meet_if
decreases-meet_if l = 8 * (statement_weight l.body.now + total elseif_weight (map (elseif_with statement_weight) l.parts.now) + last_weight (optional statement_weight l.last.now)) + 3

abbrev pub decreases-meet_elseifs : goal.decreases-meet_elseifs
decreases-meet_elseifs l = 8 * total elseif_weight (map (elseif_with statement_weight) l.parts.now) + 2

abbrev pub decreases-meet_elseif : goal.decreases-meet_elseif
decreases-meet_elseif l = 8 * elseif_weight (elseif_with statement_weight l.part.now) + 1

abbrev pub decreases-meet_else : goal.decreases-meet_else
decreases-meet_else l = 8 * last_weight (optional statement_weight l.last.now) + 1

abbrev pub decreases-meet_if_lists : goal.decreases-meet_if_lists
decreases-meet_if_lists l = 8 * (total same (map statement_weight l.body.now) + total elseif_list_weight (map (elseif_list_with statement_weight) l.parts.now) + last_list_weight (optional (map statement_weight) l.last.now)) + 4

abbrev pub decreases-meet_elseif_lists : goal.decreases-meet_elseif_lists
decreases-meet_elseif_lists l = 8 * total elseif_list_weight (map (elseif_list_with statement_weight) l.parts.now) + 3

abbrev pub decreases-meet_elseif_list : goal.decreases-meet_elseif_list
decreases-meet_elseif_list l = 8 * elseif_list_weight (elseif_list_with statement_weight l.part.now) + 2

abbrev pub decreases-meet_last : goal.decreases-meet_last
decreases-meet_last l = 8 * last_list_weight (optional (map statement_weight) l.last.now) + 2

abbrev pub decreases-meet_while : goal.decreases-meet_while
decreases-meet_while l = 8 * body_weight (body_with statement_weight l.body.now) + 3

abbrev pub decreases-meet_do_while : goal.decreases-meet_do_while
decreases-meet_do_while l = 8 * statement_weight l.body.now + 1

abbrev pub decreases-meet_for : goal.decreases-meet_for
decreases-meet_for l = 8 * body_weight (body_with statement_weight l.body.now) + 3

abbrev pub decreases-meet_foreach : goal.decreases-meet_foreach
decreases-meet_foreach l = 8 * body_weight (body_with statement_weight l.body.now) + 3

abbrev pub decreases-meet_switch : goal.decreases-meet_switch
decreases-meet_switch l = 8 * total case_weight (map (case_with statement_weight) l.cases.now) + 3

abbrev pub decreases-meet_case : goal.decreases-meet_case
decreases-meet_case l = 8 * case_weight (case_with statement_weight l.case.now) + 2

abbrev pub decreases-meet_try : goal.decreases-meet_try
decreases-meet_try l = 8 * (total same (map statement_weight l.body.now) + total catch_weight (map (catch_with statement_weight) l.catches.now) + last_list_weight (optional (map statement_weight) l.last.now)) + 4

abbrev pub decreases-meet_catches : goal.decreases-meet_catches
decreases-meet_catches l = 8 * total catch_weight (map (catch_with statement_weight) l.catches.now) + 3

abbrev pub decreases-meet_catch : goal.decreases-meet_catch
decreases-meet_catch l = 8 * catch_weight (catch_with statement_weight l.catch.now) + 2

abbrev pub invariant-meet_list-loop-s : goal.invariant-meet_list-loop-s
invariant-meet_list-loop-s l = l.names ≡ met_list l.fn.names (statements_from no_statement (map statement_view (take l.s-index l.body)))

abbrev pub invariant-meet_elseifs-loop-part : goal.invariant-meet_elseifs-loop-part
invariant-meet_elseifs-loop-part l = l.names ≡ met_elseifs l.fn.names (elseifs_from no_elseif (map (elseif_with statement_view) (take l.part-index l.parts)))

abbrev pub invariant-meet_elseif_lists-loop-part : goal.invariant-meet_elseif_lists-loop-part
invariant-meet_elseif_lists-loop-part l = l.names ≡ met_elseif_lists l.fn.names (elseif_lists_from no_elseif_list (map (elseif_list_with statement_view) (take l.part-index l.parts)))

abbrev pub invariant-meet_switch-loop-case : goal.invariant-meet_switch-loop-case
invariant-meet_switch-loop-case l = l.names ≡ met_cases (met_tree l.fn.names (view l.e)) (cases_from no_case (map (case_with statement_view) (take l.case-index l.cases)))

abbrev pub invariant-meet_catches-loop-catch : goal.invariant-meet_catches-loop-catch
invariant-meet_catches-loop-catch l = l.names ≡ met_catches l.fn.names (catches_from no_catch (map (catch_with statement_view) (take l.catch-index l.catches)))
