use Rattle.php_grammar_laws.proofs.declaration.Functions.{method_reading_begins}
use Rattle.php_grammar_laws.proofs.laws.method_reading_begins.Goals as goal

pub returns : goal.returns
returns c = method_reading_begins
