use Rattle.std.proofs.Common.{◌-◌, length}
use Rattle.php_parse_simple.specs.NameAnswer.{VariablesSoFar}
use Rattle.php_parse_simple.proofs.names.static_variables.Given as goal

abbrev pub invariant-loop-variables : goal.invariant-loop-variables
invariant-loop-variables l = VariablesSoFar l.reader.room l.reader.tokens.now l.fn.at l.variables l.next

abbrev pub decreases-loop-variables : goal.decreases-loop-variables
decreases-loop-variables l = length l.reader.tokens.now - l.next
