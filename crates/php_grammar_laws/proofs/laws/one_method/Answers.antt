use Rattle.php_grammar_laws.proofs.declaration.Functions.{one_method}
use Rattle.php_grammar_laws.proofs.laws.one_method.Goals as goal

pub returns : goal.returns
returns c = one_method
