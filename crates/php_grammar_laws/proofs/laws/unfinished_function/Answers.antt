use Rattle.php_grammar_laws.proofs.declaration.Functions.{unfinished_function}
use Rattle.php_grammar_laws.proofs.laws.unfinished_function.Goals as goal

pub returns : goal.returns
returns c = unfinished_function
