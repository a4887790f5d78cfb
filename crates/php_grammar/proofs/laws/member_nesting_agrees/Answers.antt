use Rattle.php_grammar.proofs.declaration.MemberTrace.{member_nesting}
use Rattle.php_grammar.proofs.laws.member_nesting_agrees.Goals as goal

pub returns : goal.returns
returns c = member_nesting
