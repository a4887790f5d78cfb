use Rattle.std.proofs.Common.{◌-◌, length}
use Rattle.php_parse_statement.specs.CaseAnswer.{CasesSoFar}
use Rattle.php_parse_statement.proofs.parser.Parser.cases.Given as goal

abbrev pub invariant-loop-is_default : goal.invariant-loop-is_default
invariant-loop-is_default g l = CasesSoFar l.self.reader.room l.self.reader.tokens.now l.fn.at l.items l.next

abbrev pub decreases-loop-is_default : goal.decreases-loop-is_default
decreases-loop-is_default g l = length l.self.reader.tokens.now - l.next
