use Rattle.php_grammar_laws.proofs.declaration.Functions.{reads_methods_back}
use Rattle.php_grammar_laws.proofs.laws.reads_methods_back.Goals as goal

pub returns : goal.returns
returns c = reads_methods_back
