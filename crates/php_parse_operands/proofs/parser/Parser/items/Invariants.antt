use Rattle.std.proofs.Common.{◌-◌, length}
use Rattle.php_parse_operands.specs.ListAnswer.{ItemsSoFar}
use Rattle.php_parse_operands.proofs.parser.Parser.items.Given as goal

abbrev pub invariant-loop-form : goal.invariant-loop-form
invariant-loop-form g l = ItemsSoFar l.form l.self.reader.room l.self.reader.tokens.now l.fn.at l.items l.next

abbrev pub decreases-loop-form : goal.decreases-loop-form
decreases-loop-form g l = length l.self.reader.tokens.now - l.next
