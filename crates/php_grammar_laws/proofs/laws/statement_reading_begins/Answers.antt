use Rattle.php_grammar_laws.proofs.statement.Laws.{reading_begins}
use Rattle.php_grammar_laws.proofs.laws.statement_reading_begins.Goals as goal

pub returns : goal.returns
returns c = reading_begins
