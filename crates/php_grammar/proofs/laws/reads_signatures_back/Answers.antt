use Rattle.php_grammar.proofs.declaration.SignatureBack.{signatures_read_back}
use Rattle.php_grammar.proofs.laws.reads_signatures_back.Goals as goal

pub returns : goal.returns
returns c = signatures_read_back
