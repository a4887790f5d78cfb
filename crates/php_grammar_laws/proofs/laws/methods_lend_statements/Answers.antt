use Rattle.php_grammar_laws.proofs.Instances.{methods_lend_blocks}
use Rattle.php_grammar_laws.proofs.laws.methods_lend_statements.Goals as goal

pub returns : goal.returns
returns c = methods_lend_blocks
