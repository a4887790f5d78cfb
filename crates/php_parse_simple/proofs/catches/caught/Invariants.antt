use Rattle.std.proofs.Common.{◌-◌, length}
use Rattle.php_parse_simple.specs.CatchAnswer.{ClassesSoFar}
use Rattle.php_parse_simple.proofs.catches.caught.Given as goal

abbrev pub invariant-loop-classes : goal.invariant-loop-classes
invariant-loop-classes l = ClassesSoFar l.reader.room l.reader.tokens.now l.fn.at l.classes l.next

abbrev pub decreases-loop-classes : goal.decreases-loop-classes
decreases-loop-classes l = length l.reader.tokens.now - l.next
