use Rattle.php_grammar_laws.proofs.Instances.{members_lend_constants}
use Rattle.php_grammar_laws.proofs.laws.members_lend_constants.Goals as goal

pub returns : goal.returns
returns c = members_lend_constants
