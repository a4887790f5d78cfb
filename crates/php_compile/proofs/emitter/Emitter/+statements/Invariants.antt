use Rattle.std.proofs.Common.{◌≡◌, ◌+◌, ◌*◌, ◌++◌, map}
use Rattle.php_meaning.specs.Heights.{peak_of_statements}
use Rattle.php_compile.specs.StatementCode.{statements_code}
use Rattle.php_weights.proofs.Expressions.{total}
use Rattle.php_weights.proofs.Statements.{same, statement_weight}
use Rattle.php_compile.proofs.CodeLoops.{statements_to}
use Rattle.php_compile.proofs.emitter.Emitter.+statements.Given as goal

abbrev pub decreases-put_statement : goal.decreases-put_statement
decreases-put_statement l = 2 * statement_weight l.s.now

abbrev pub decreases-put_statements : goal.decreases-put_statements
decreases-put_statements l = 2 * total same (map statement_weight l.body.now) + 1

abbrev pub invariant-put_statements-loop-s : goal.invariant-put_statements-loop-s
invariant-put_statements-loop-s l =
    (l.self.code ≡ l.fn.self.code ++ statements_code l.names.keys l.standing (statements_to l.s-index l.body))
    × (l.self.peak ≡ peak_of_statements l.names.keys l.standing l.fn.self.peak (statements_to l.s-index l.body))
