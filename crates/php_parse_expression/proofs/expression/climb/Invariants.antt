use Rattle.php_parse_expression.specs.Climb.{Climbs, remaining}
use Rattle.php_parse_expression.proofs.expression.climb.Given as goal

abbrev pub invariant-loop-op : goal.invariant-loop-op
invariant-loop-op g l = Climbs l.parser.reader.room l.fn.least l.parser.reader.tokens.now l.at l.pending l.inner l.read

abbrev pub decreases-loop-op : goal.decreases-loop-op
decreases-loop-op g l = remaining l.parser.reader.tokens.now l.pending l.read
