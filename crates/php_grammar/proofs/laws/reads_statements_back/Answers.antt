use Rattle.php_grammar.proofs.statement.LawProofs.{statements_read_back}
use Rattle.php_grammar.proofs.laws.reads_statements_back.Goals as goal

pub returns : goal.returns
returns c = statements_read_back
