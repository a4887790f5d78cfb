use Rattle.std.proofs.Common.{◌-◌, ◌+◌, length}
use Rattle.php_parse_member.specs.Answer.{MembersSoFar}
use Rattle.php_parse_member.proofs.members.members_inside.Given as goal

abbrev pub invariant-loop-members : goal.invariant-loop-members
invariant-loop-members l = MembersSoFar (l.reader.room + 1) l.reader.tokens.now l.fn.at l.members l.next

abbrev pub decreases-loop-members : goal.decreases-loop-members
decreases-loop-members l = length l.reader.tokens.now - l.next
