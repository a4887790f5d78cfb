use Rattle.php_grammar_laws.proofs.declaration.Members.{one_member}
use Rattle.php_grammar_laws.proofs.laws.one_member.Goals as goal

pub returns : goal.returns
returns c = one_member
