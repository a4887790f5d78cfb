use Rattle.php_grammar_laws.proofs.Knowns.{script_walk_ends}
use Rattle.php_grammar_laws.proofs.laws.script_walk_ends.Goals as goal

pub returns : goal.returns
returns c = script_walk_ends
