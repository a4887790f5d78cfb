use Rattle.php_grammar_laws.proofs.declaration.Members.{unfinished}
use Rattle.php_grammar_laws.proofs.laws.unfinished_member.Goals as goal

pub returns : goal.returns
returns c = unfinished
