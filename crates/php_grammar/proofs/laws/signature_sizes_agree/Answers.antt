use Rattle.php_grammar.proofs.declaration.Sizes.{signature_length}
use Rattle.php_grammar.proofs.laws.signature_sizes_agree.Goals as goal

pub returns : goal.returns
returns c = λ s w. signature_length s w
