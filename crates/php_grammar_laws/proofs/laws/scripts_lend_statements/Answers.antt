use Rattle.php_grammar_laws.proofs.Instances.{scripts_lend_statements}
use Rattle.php_grammar_laws.proofs.laws.scripts_lend_statements.Goals as goal

pub returns : goal.returns
returns c = scripts_lend_statements
