use Rattle.std.proofs.Common.{◌+◌, ◌*◌}
use Rattle.php_parse_expression_texts.proofs.printer.Printer.+printing.Given as goal

abbrev pub decreases-expr : goal.decreases-expr
decreases-expr l = 10 * l.depth

abbrev pub decreases-around : goal.decreases-around
decreases-around l = 10 * l.depth + 1

abbrev pub decreases-prefix : goal.decreases-prefix
decreases-prefix l = 10 * l.depth + 2

abbrev pub decreases-behind : goal.decreases-behind
decreases-behind l = 10 * l.depth + 2

abbrev pub decreases-pair : goal.decreases-pair
decreases-pair l = 10 * l.depth + 2

abbrev pub decreases-yield_pair : goal.decreases-yield_pair
decreases-yield_pair l = 10 * l.depth + 2

abbrev pub decreases-run : goal.decreases-run
decreases-run l = 10 * l.depth + 3

abbrev pub decreases-link : goal.decreases-link
decreases-link l = 10 * l.depth + 2

abbrev pub decreases-template : goal.decreases-template
decreases-template l = 10 * l.depth + 3

abbrev pub decreases-piece : goal.decreases-piece
decreases-piece l = 10 * l.depth + 2

abbrev pub decreases-items : goal.decreases-items
decreases-items l = 10 * l.depth + 3

abbrev pub decreases-item : goal.decreases-item
decreases-item l = 10 * l.depth + 2

abbrev pub decreases-is_set : goal.decreases-is_set
decreases-is_set l = 10 * l.depth + 3

abbrev pub decreases-arguments : goal.decreases-arguments
decreases-arguments l = 10 * l.depth + 3

abbrev pub decreases-argument : goal.decreases-argument
decreases-argument l = 10 * l.depth + 2

abbrev pub decreases-chain : goal.decreases-chain
decreases-chain l = 10 * l.depth + 5

abbrev pub decreases-head : goal.decreases-head
decreases-head l = 10 * l.depth + 2

abbrev pub decreases-suffix : goal.decreases-suffix
decreases-suffix l = 10 * l.depth + 4

abbrev pub decreases-steps : goal.decreases-steps
decreases-steps l = 10 * l.depth + 3

abbrev pub decreases-node : goal.decreases-node
decreases-node l = 10 * l.depth + 6

abbrev pub decreases-class : goal.decreases-class
decreases-class l = 10 * l.depth + 4

abbrev pub decreases-class_with : goal.decreases-class_with
decreases-class_with l = 10 * l.depth + 5
