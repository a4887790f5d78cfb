use Rattle.php_grammar_laws.proofs.declaration.Functions.{reads_functions_back}
use Rattle.php_grammar_laws.proofs.laws.reads_functions_back.Goals as goal

pub returns : goal.returns
returns c = reads_functions_back
