use Rattle.std.proofs.Common.{◌-◌, length}
use Rattle.php_parse_statement.specs.TryAnswer.{CatchesSoFar}
use Rattle.php_parse_statement.proofs.parser.Parser.catches.Given as goal

abbrev pub invariant-loop-items : goal.invariant-loop-items
invariant-loop-items g l = CatchesSoFar l.self.reader.room l.self.reader.tokens.now l.fn.at l.items l.next

abbrev pub decreases-loop-items : goal.decreases-loop-items
decreases-loop-items g l = length l.self.reader.tokens.now - l.next
