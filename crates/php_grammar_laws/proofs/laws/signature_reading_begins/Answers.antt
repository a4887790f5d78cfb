use Rattle.php_grammar_laws.proofs.declaration.Signatures.{reading_begins}
use Rattle.php_grammar_laws.proofs.laws.signature_reading_begins.Goals as goal

pub returns : goal.returns
returns c = reading_begins
