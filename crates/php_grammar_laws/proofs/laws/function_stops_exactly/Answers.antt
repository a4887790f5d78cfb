use Rattle.php_grammar_laws.proofs.declaration.Functions.{function_stops_exactly}
use Rattle.php_grammar_laws.proofs.laws.function_stops_exactly.Goals as goal

pub returns : goal.returns
returns c = function_stops_exactly
