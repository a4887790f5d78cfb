use Rattle.std.proofs.Common.{◌-◌, length}
use Rattle.php_parse_script.specs.Answer.{ItemsSoFar}
use Rattle.php_parse_script.proofs.script.read_script.Given as goal

abbrev pub invariant-loop-items : goal.invariant-loop-items
invariant-loop-items l = ItemsSoFar l.reader.room l.reader.tokens.now l.items l.next

abbrev pub decreases-loop-items : goal.decreases-loop-items
decreases-loop-items l = length l.reader.tokens.now - l.next
