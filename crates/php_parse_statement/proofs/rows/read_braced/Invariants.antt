use Rattle.std.proofs.Common.{◌-◌, length}
use Rattle.php_parse_statement.specs.Rows.{RowSoFar}
use Rattle.php_parse_statement.proofs.rows.read_braced.Given as goal

abbrev pub invariant-loop-inside : goal.invariant-loop-inside
invariant-loop-inside l = RowSoFar l.reader.room l.reader.tokens.now l.fn.at l.statements l.next

abbrev pub decreases-loop-inside : goal.decreases-loop-inside
decreases-loop-inside l = length l.reader.tokens.now - l.next
