use Rattle.php_grammar.proofs.declaration.NotedLaws.{one_statement_tree}
use Rattle.php_grammar.proofs.laws.one_statement_tree.Goals as goal

pub returns : goal.returns
returns c = one_statement_tree
