use Rattle.php_grammar_laws.proofs.Instances.{functions_lend_names}
use Rattle.php_grammar_laws.proofs.laws.functions_lend_signatures.Goals as goal

pub returns : goal.returns
returns c = functions_lend_names
