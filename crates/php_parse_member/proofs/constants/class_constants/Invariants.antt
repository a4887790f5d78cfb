use Rattle.std.proofs.Common.{◌-◌, length}
use Rattle.php_parse_member.specs.Answer.{ConstantsSoFar}
use Rattle.php_parse_member.proofs.constants.class_constants.Given as goal

abbrev pub invariant-loop-constants : goal.invariant-loop-constants
invariant-loop-constants l = ConstantsSoFar l.reader.room l.reader.tokens.now l.fn.at l.constants l.next

abbrev pub decreases-loop-constants : goal.decreases-loop-constants
decreases-loop-constants l = length l.reader.tokens.now - l.next
