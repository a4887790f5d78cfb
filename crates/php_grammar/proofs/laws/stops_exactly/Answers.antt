use Rattle.php_grammar.proofs.expression.LawProofs.{stops_exactly}
use Rattle.php_grammar.proofs.laws.stops_exactly.Goals as goal

pub returns : goal.returns
returns c = stops_exactly
