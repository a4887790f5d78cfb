use Rattle.php_grammar_laws.proofs.Instances.{statements_lend}
use Rattle.php_grammar_laws.proofs.laws.statements_lend.Goals as goal

pub returns : goal.returns
returns c = statements_lend
