use Rattle.php_grammar_laws.proofs.Knowns.{member_walk_ends}
use Rattle.php_grammar_laws.proofs.laws.member_walk_ends.Goals as goal

pub returns : goal.returns
returns c = member_walk_ends
