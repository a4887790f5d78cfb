use Rattle.php_grammar_laws.proofs.Instances.{methods_lend_names}
use Rattle.php_grammar_laws.proofs.laws.methods_lend_signatures.Goals as goal

pub returns : goal.returns
returns c = methods_lend_names
