use Rattle.php_grammar_laws.proofs.Instances.{scripts_lend_functions}
use Rattle.php_grammar_laws.proofs.laws.scripts_lend_functions.Goals as goal

pub returns : goal.returns
returns c = scripts_lend_functions
