use Rattle.php_grammar.proofs.expression.LawProofs.{unfinished}
use Rattle.php_grammar.proofs.laws.unfinished.Goals as goal

pub returns : goal.returns
returns c = unfinished
