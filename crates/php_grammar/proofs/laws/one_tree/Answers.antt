use Rattle.php_grammar.proofs.expression.LawProofs.{one_tree}
use Rattle.php_grammar.proofs.laws.one_tree.Goals as goal

pub returns : goal.returns
returns c = one_tree
