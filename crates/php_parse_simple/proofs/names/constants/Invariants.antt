use Rattle.std.proofs.Common.{◌-◌, length}
use Rattle.php_parse_simple.specs.NameAnswer.{ConstantsSoFar}
use Rattle.php_parse_simple.proofs.names.constants.Given as goal

abbrev pub invariant-loop-items : goal.invariant-loop-items
invariant-loop-items l = ConstantsSoFar l.reader.room l.reader.tokens.now l.fn.at l.items l.next

abbrev pub decreases-loop-items : goal.decreases-loop-items
decreases-loop-items l = length l.reader.tokens.now - l.next
