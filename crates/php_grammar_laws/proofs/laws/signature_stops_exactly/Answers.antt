use Rattle.php_grammar_laws.proofs.declaration.Signatures.{stops_exactly}
use Rattle.php_grammar_laws.proofs.laws.signature_stops_exactly.Goals as goal

pub returns : goal.returns
returns c = stops_exactly
