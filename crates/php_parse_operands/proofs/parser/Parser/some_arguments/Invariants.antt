use Rattle.std.proofs.Common.{◌-◌, length}
use Rattle.php_parse_operands.specs.ListAnswer.{ArgumentsSoFar}
use Rattle.php_parse_operands.proofs.parser.Parser.some_arguments.Given as goal

abbrev pub invariant-loop-items : goal.invariant-loop-items
invariant-loop-items g l = ArgumentsSoFar l.self.reader.room l.self.reader.tokens.now l.fn.at l.items l.next l.due

abbrev pub decreases-loop-items : goal.decreases-loop-items
decreases-loop-items g l = length l.self.reader.tokens.now - l.next
