use Rattle.php_grammar.proofs.declaration.NotedLaws.{one_signature_tree}
use Rattle.php_grammar.proofs.laws.one_signature_tree.Goals as goal

pub returns : goal.returns
returns c = one_signature_tree
