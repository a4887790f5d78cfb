use Rattle.php_grammar_laws.proofs.declaration.Scripts.{stops_exactly}
use Rattle.php_grammar_laws.proofs.laws.script_stops_exactly.Goals as goal

pub returns : goal.returns
returns c = stops_exactly
