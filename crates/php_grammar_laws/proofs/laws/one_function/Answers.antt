use Rattle.php_grammar_laws.proofs.declaration.Functions.{one_function}
use Rattle.php_grammar_laws.proofs.laws.one_function.Goals as goal

pub returns : goal.returns
returns c = one_function
