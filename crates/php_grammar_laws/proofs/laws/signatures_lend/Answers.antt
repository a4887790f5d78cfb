use Rattle.php_grammar_laws.proofs.Instances.{signatures_lend}
use Rattle.php_grammar_laws.proofs.laws.signatures_lend.Goals as goal

pub returns : goal.returns
returns c = signatures_lend
