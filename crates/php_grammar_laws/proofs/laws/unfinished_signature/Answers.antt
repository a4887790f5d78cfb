use Rattle.php_grammar_laws.proofs.declaration.Signatures.{unfinished}
use Rattle.php_grammar_laws.proofs.laws.unfinished_signature.Goals as goal

pub returns : goal.returns
returns c = unfinished
