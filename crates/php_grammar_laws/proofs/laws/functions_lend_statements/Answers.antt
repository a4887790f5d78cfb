use Rattle.php_grammar_laws.proofs.Instances.{functions_lend_blocks}
use Rattle.php_grammar_laws.proofs.laws.functions_lend_statements.Goals as goal

pub returns : goal.returns
returns c = functions_lend_blocks
