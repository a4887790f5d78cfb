use Rattle.php_grammar.proofs.expression.LawProofs.{nesting_agrees}
use Rattle.php_grammar.proofs.laws.nesting_agrees.Goals as goal

pub returns : goal.returns
returns c = nesting_agrees
