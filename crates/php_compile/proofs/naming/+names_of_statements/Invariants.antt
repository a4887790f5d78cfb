use Rattle.std.proofs.Common.{◌≡◌, ◌+◌, ◌*◌, map, take}
use Rattle.php_ast.specs.statement.Tree.{no_statement}
use Rattle.php_ast.specs.statement.View.{statement_view, statements_from}
use Rattle.php_meaning.specs.Slots.{names_of_statements}
use Rattle.php_weights.proofs.Expressions.{total}
use Rattle.php_weights.proofs.Statements.{same, statement_weight}
use Rattle.php_compile.proofs.naming.+names_of_statements.Given as goal

abbrev pub decreases-name_statement : goal.decreases-name_statement
decreases-name_statement l = 2 * statement_weight l.s.now

abbrev pub decreases-name_statements : goal.decreases-name_statements
decreases-name_statements l = 2 * total same (map statement_weight l.body.now) + 1

abbrev pub invariant-name_statements-loop-s : goal.invariant-name_statements-loop-s
invariant-name_statements-loop-s l = l.names.keys ≡ names_of_statements l.fn.names.keys (statements_from no_statement (map statement_view (take l.s-index l.body)))
