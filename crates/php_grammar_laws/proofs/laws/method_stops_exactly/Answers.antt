use Rattle.php_grammar_laws.proofs.declaration.Functions.{method_stops_exactly}
use Rattle.php_grammar_laws.proofs.laws.method_stops_exactly.Goals as goal

pub returns : goal.returns
returns c = method_stops_exactly
