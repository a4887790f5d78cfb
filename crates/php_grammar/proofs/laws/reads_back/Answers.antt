use Rattle.php_grammar.proofs.expression.LawProofs.{reads_back}
use Rattle.php_grammar.proofs.laws.reads_back.Goals as goal

pub returns : goal.returns
returns c = reads_back
