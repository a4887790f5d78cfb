use Rattle.php_grammar.proofs.declaration.SignatureTrace.{signature_nesting}
use Rattle.php_grammar.proofs.laws.signature_nesting_agrees.Goals as goal

pub returns : goal.returns
returns c = signature_nesting
