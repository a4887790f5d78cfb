use Rattle.std.proofs.Common.{◌-◌, length}
use Rattle.php_parse_member.specs.RuleAnswer.{RulesSoFar}
use Rattle.php_parse_member.proofs.rules.rules_at.Given as goal

abbrev pub invariant-loop-rules : goal.invariant-loop-rules
invariant-loop-rules l = RulesSoFar l.reader.room l.reader.tokens.now l.fn.at l.rules l.next

abbrev pub decreases-loop-rules : goal.decreases-loop-rules
decreases-loop-rules l = length l.reader.tokens.now - l.next
