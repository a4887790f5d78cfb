use Rattle.php_grammar_laws.proofs.Knowns.{statement_walk_ends}
use Rattle.php_grammar_laws.proofs.laws.statement_walk_ends.Goals as goal

pub returns : goal.returns
returns c = statement_walk_ends
