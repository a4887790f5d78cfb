use Rattle.std.proofs.Common.{◌≡◌, ◌+◌, ◌*◌, List, map, drop}
use Rattle.php_ast.specs.statement.Tree.{no_elseif, no_elseif_list, no_case, no_catch}
use Rattle.php_ast.specs.statement.View.{optional, list_view, elseifs_from, elseif_lists_from, cases_from, catches_from, statement_view}
use Rattle.php_places.specs.Over.{over}
use Rattle.php_bodies.specs.Met.{met_statement, met_list, met_elseifs, met_elseif_lists, met_cases, met_catches}
use Rattle.php_ast.specs.statement.Parts.{elseif_with, elseif_list_with, body_with, case_with, catch_with}
use Rattle.php_weights.proofs.Expressions.{total}
use Rattle.php_weights.proofs.Statements.{same, elseif_weight, elseif_list_weight, body_weight, case_weight, catch_weight, last_weight, last_list_weight, statement_weight}
use Rattle.php_bodies.proofs.Lists.{at_elseif, at_elseif_list, at_case, at_catch}
use Rattle.php_bodies.proofs.walk.+statements.Given as goal

abbrev pub decreases-walk_statement : goal.decreases-walk_statement
decreases-walk_statement l = 8 * statement_weight l.s.now + 1

abbrev pub decreases-walk_parts : goal.decreases-walk_parts
decreases-walk_parts l = 8 * statement_weight l.s.now

abbrev pub decreases-walk_list : goal.decreases-walk_list
decreases-walk_list l = 8 * total same (map statement_weight l.body.now) + 3

abbrev pub decreases-walk_body : goal.decreases-walk_body
decreases-walk_body l = 8 * body_weight (body_with statement_weight l.body.now) + 4

abbrev pub decreases-walk_elseifs : goal.decreases-walk_elseifs
decreases-walk_elseifs l = 8 * total elseif_weight (map (elseif_with statement_weight) l.parts.now) + 3

abbrev pub decreases-walk_else : goal.decreases-walk_else
decreases-walk_else l = 8 * last_weight (optional statement_weight l.last.now) + 3

abbrev pub decreases-walk_elseif_lists : goal.decreases-walk_elseif_lists
decreases-walk_elseif_lists l = 8 * total elseif_list_weight (map (elseif_list_with statement_weight) l.parts.now) + 4

abbrev pub decreases-walk_last : goal.decreases-walk_last
decreases-walk_last l = 8 * last_list_weight (optional (map statement_weight) l.last.now) + 4

abbrev pub decreases-walk_cases : goal.decreases-walk_cases
decreases-walk_cases l = 8 * total case_weight (map (case_with statement_weight) l.cases.now) + 4

abbrev pub decreases-walk_catches : goal.decreases-walk_catches
decreases-walk_catches l = 8 * total catch_weight (map (catch_with statement_weight) l.catches.now) + 4

abbrev pub invariant-walk_list-loop-s : goal.invariant-walk_list-loop-s
invariant-walk_list-loop-s l =
    over (met_statement l.scope) (map statement_view (drop l.s-index l.body)) l.first ≡ met_list l.scope (list_view (map statement_view l.body)) l.fn.met

abbrev pub invariant-walk_elseifs-loop-part : goal.invariant-walk_elseifs-loop-part
invariant-walk_elseifs-loop-part l =
    over (at_elseif l.scope) (map (elseif_with statement_view) (drop l.part-index l.parts)) l.first ≡ met_elseifs l.scope (elseifs_from no_elseif (map (elseif_with statement_view) l.parts)) l.fn.met

abbrev pub invariant-walk_elseif_lists-loop-part : goal.invariant-walk_elseif_lists-loop-part
invariant-walk_elseif_lists-loop-part l =
    over (at_elseif_list l.scope) (map (elseif_list_with statement_view) (drop l.part-index l.parts)) l.first
    ≡ met_elseif_lists l.scope (elseif_lists_from no_elseif_list (map (elseif_list_with statement_view) l.parts)) l.fn.met

abbrev pub invariant-walk_cases-loop-case : goal.invariant-walk_cases-loop-case
invariant-walk_cases-loop-case l =
    over (at_case l.scope) (map (case_with statement_view) (drop l.case-index l.cases)) l.first ≡ met_cases l.scope (cases_from no_case (map (case_with statement_view) l.cases)) l.fn.met

abbrev pub invariant-walk_catches-loop-catch : goal.invariant-walk_catches-loop-catch
invariant-walk_catches-loop-catch l =
    over (at_catch l.scope) (map (catch_with statement_view) (drop l.catch-index l.catches)) l.first
    ≡ met_catches l.scope (catches_from no_catch (map (catch_with statement_view) l.catches)) l.fn.met
