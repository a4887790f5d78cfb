use Rattle.php_grammar_laws.proofs.Instances.{scripts_lend_members}
use Rattle.php_grammar_laws.proofs.laws.scripts_lend_members.Goals as goal

pub returns : goal.returns
returns c = scripts_lend_members
