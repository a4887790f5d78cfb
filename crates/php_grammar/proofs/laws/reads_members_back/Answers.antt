use Rattle.php_grammar.proofs.declaration.MemberBack.{members_read_back}
use Rattle.php_grammar.proofs.laws.reads_members_back.Goals as goal

pub returns : goal.returns
returns c = members_read_back
