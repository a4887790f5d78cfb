use Rattle.php_grammar.proofs.expression.Walks.{walks_agree}
use Rattle.php_grammar.proofs.laws.walks_agree.Goals as goal

pub returns : goal.returns
returns c = walks_agree
