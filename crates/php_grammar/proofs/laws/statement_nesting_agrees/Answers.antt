use Rattle.php_grammar.proofs.statement.TraceBack.{statement_nesting}
use Rattle.php_grammar.proofs.laws.statement_nesting_agrees.Goals as goal

pub returns : goal.returns
returns c = statement_nesting
