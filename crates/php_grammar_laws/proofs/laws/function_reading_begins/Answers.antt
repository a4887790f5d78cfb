use Rattle.php_grammar_laws.proofs.declaration.Functions.{function_reading_begins}
use Rattle.php_grammar_laws.proofs.laws.function_reading_begins.Goals as goal

pub returns : goal.returns
returns c = function_reading_begins
