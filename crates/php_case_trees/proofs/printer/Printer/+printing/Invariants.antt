use Rattle.std.proofs.Common.{◌+◌, ◌*◌}
use Rattle.php_case_trees.proofs.printer.Printer.+printing.Given as goal

abbrev pub decreases-statement : goal.decreases-statement
decreases-statement l = 10 * l.depth

abbrev pub decreases-single : goal.decreases-single
decreases-single l = 10 * l.depth + 1

abbrev pub decreases-list : goal.decreases-list
decreases-list l = 10 * l.depth + 2

abbrev pub decreases-behind_colon : goal.decreases-behind_colon
decreases-behind_colon l = 10 * l.depth + 3

abbrev pub decreases-body : goal.decreases-body
decreases-body l = 10 * l.depth + 4

abbrev pub decreases-branches : goal.decreases-branches
decreases-branches l = 10 * l.depth + 5

abbrev pub decreases-list_branches : goal.decreases-list_branches
decreases-list_branches l = 10 * l.depth + 5

abbrev pub decreases-while_loop : goal.decreases-while_loop
decreases-while_loop l = 10 * l.depth + 5

abbrev pub decreases-do_while : goal.decreases-do_while
decreases-do_while l = 10 * l.depth + 5

abbrev pub decreases-for_loop : goal.decreases-for_loop
decreases-for_loop l = 10 * l.depth + 5

abbrev pub decreases-foreach : goal.decreases-foreach
decreases-foreach l = 10 * l.depth + 5

abbrev pub decreases-switch : goal.decreases-switch
decreases-switch l = 10 * l.depth + 5

abbrev pub decreases-try_catch : goal.decreases-try_catch
decreases-try_catch l = 10 * l.depth + 5

abbrev pub decreases-node : goal.decreases-node
decreases-node l = 10 * l.depth + 6
