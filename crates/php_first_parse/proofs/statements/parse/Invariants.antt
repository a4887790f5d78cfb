use Rattle.std.proofs.Common.{◌≡◌, ◌≤◌, ◌-◌, List, ◌++◌, Some, drop, length, map}
use Rattle.php_first_tree.specs.Expression.{Statement, statement_view}
use Rattle.php_first_parse.specs.Spelling.{IsSpelling}
use Rattle.php_first_parse.specs.Machine.{due, run, read}
use Rattle.php_first_parse.proofs.statements.parse.Given as goal

abbrev pub invariant-loop-first : goal.invariant-loop-first
invariant-loop-first l = record {
  spelled : (more : List Statement) → IsSpelling more (drop l.next l.tokens) → IsSpelling (map statement_view l.statements ++ more) l.tokens;
  leads : read l.tokens ≡ run (Some (due (map statement_view l.statements))) (drop l.next l.tokens);
  within : l.next ≤ length l.tokens;
}

abbrev pub decreases-loop-first : goal.decreases-loop-first
decreases-loop-first l = length l.tokens - l.next
