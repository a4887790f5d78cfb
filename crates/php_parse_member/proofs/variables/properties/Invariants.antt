use Rattle.std.proofs.Common.{◌-◌, length}
use Rattle.php_parse_member.specs.Answer.{PropertiesSoFar}
use Rattle.php_parse_member.proofs.variables.properties.Given as goal

abbrev pub invariant-loop-properties : goal.invariant-loop-properties
invariant-loop-properties l = PropertiesSoFar l.reader.room l.reader.tokens.now l.fn.at l.properties l.next

abbrev pub decreases-loop-properties : goal.decreases-loop-properties
decreases-loop-properties l = length l.reader.tokens.now - l.next
