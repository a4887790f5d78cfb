use Rattle.php_grammar_laws.proofs.declaration.Functions.{unfinished_method}
use Rattle.php_grammar_laws.proofs.laws.unfinished_method.Goals as goal

pub returns : goal.returns
returns c = unfinished_method
