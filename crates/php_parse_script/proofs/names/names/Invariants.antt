use Rattle.std.proofs.Common.{◌-◌, length}
use Rattle.php_parse_script.specs.Answer.{NamesSoFar}
use Rattle.php_parse_script.proofs.names.names.Given as goal

abbrev pub invariant-loop-names : goal.invariant-loop-names
invariant-loop-names l = NamesSoFar l.reader.room l.reader.tokens.now l.fn.at l.names l.next

abbrev pub decreases-loop-names : goal.decreases-loop-names
decreases-loop-names l = length l.reader.tokens.now - l.next
