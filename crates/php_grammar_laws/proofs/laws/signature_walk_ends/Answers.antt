use Rattle.php_grammar_laws.proofs.Knowns.{signature_walk_ends}
use Rattle.php_grammar_laws.proofs.laws.signature_walk_ends.Goals as goal

pub returns : goal.returns
returns c = signature_walk_ends
