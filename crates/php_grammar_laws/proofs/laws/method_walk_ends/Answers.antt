use Rattle.php_grammar_laws.proofs.Knowns.{method_walk_ends}
use Rattle.php_grammar_laws.proofs.laws.method_walk_ends.Goals as goal

pub returns : goal.returns
returns c = method_walk_ends
