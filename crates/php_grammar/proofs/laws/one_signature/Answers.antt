use Rattle.php_grammar.proofs.declaration.NotedLaws.{one_signature}
use Rattle.php_grammar.proofs.laws.one_signature.Goals as goal

pub returns : goal.returns
returns c = one_signature
