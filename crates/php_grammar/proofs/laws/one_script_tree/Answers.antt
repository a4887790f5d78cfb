use Rattle.php_grammar.proofs.declaration.NotedLaws.{one_script_tree}
use Rattle.php_grammar.proofs.laws.one_script_tree.Goals as goal

pub returns : goal.returns
returns c = one_script_tree
