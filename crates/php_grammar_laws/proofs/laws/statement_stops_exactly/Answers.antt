use Rattle.php_grammar_laws.proofs.statement.Laws.{stops_exactly}
use Rattle.php_grammar_laws.proofs.laws.statement_stops_exactly.Goals as goal

pub returns : goal.returns
returns c = stops_exactly
