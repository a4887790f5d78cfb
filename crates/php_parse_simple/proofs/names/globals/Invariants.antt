use Rattle.std.proofs.Common.{◌-◌, length}
use Rattle.php_parse_simple.specs.NameAnswer.{GlobalsSoFar}
use Rattle.php_parse_simple.proofs.names.globals.Given as goal

abbrev pub invariant-loop-names : goal.invariant-loop-names
invariant-loop-names l = GlobalsSoFar l.reader.room l.reader.tokens.now l.fn.at l.names l.next

abbrev pub decreases-loop-names : goal.decreases-loop-names
decreases-loop-names l = length l.reader.tokens.now - l.next
