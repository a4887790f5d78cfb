use Rattle.std.proofs.Common.{◌-◌, length}
use Rattle.php_parse_member.specs.Answer.{ModifiersSoFar}
use Rattle.php_parse_member.proofs.member.read_member.Given as goal

abbrev pub invariant-loop-word : goal.invariant-loop-word
invariant-loop-word l = ModifiersSoFar l.reader.room l.reader.tokens.now l.fn.at l.modifiers l.next

abbrev pub decreases-loop-word : goal.decreases-loop-word
decreases-loop-word l = length l.reader.tokens.now - l.next
