use Rattle.std.proofs.Common.{◌≡◌, ◌+◌, ◌*◌, map, drop}
use Rattle.php_ast.specs.statement.View.{statement_view}
use Rattle.php_weights.proofs.Expressions.{total}
use Rattle.php_weights.proofs.Statements.{same, statement_weight}
use Rattle.php_told.specs.First.{first_in_statement}
use Rattle.php_told.specs.Parts.{first_of}
use Rattle.php_told.proofs.statement.+statements.Given as goal

abbrev pub decreases-first_in_statement : goal.decreases-first_in_statement
decreases-first_in_statement l = 2 * statement_weight l.s.now

abbrev pub decreases-first_in_statements : goal.decreases-first_in_statements
decreases-first_in_statements l = 2 * total same (map statement_weight l.statements.now) + 1

abbrev pub invariant-first_in_statements-loop-statement : goal.invariant-first_in_statements-loop-statement
invariant-first_in_statements-loop-statement l =
    first_of first_in_statement (map statement_view (drop l.statement-index l.statements)) ≡ first_of first_in_statement (map statement_view l.statements)
