use Rattle.php_grammar_laws.proofs.Knowns.{function_walk_ends}
use Rattle.php_grammar_laws.proofs.laws.function_walk_ends.Goals as goal

pub returns : goal.returns
returns c = function_walk_ends
