use Rattle.php_grammar.proofs.statement.LawProofs.{one_statement}
use Rattle.php_grammar.proofs.laws.one_statement.Goals as goal

pub returns : goal.returns
returns c = one_statement
