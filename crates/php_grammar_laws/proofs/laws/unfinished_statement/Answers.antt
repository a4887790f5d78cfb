use Rattle.php_grammar_laws.proofs.statement.Laws.{unfinished}
use Rattle.php_grammar_laws.proofs.laws.unfinished_statement.Goals as goal

pub returns : goal.returns
returns c = unfinished
