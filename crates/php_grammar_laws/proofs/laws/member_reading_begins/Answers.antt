use Rattle.php_grammar_laws.proofs.declaration.Members.{reading_begins}
use Rattle.php_grammar_laws.proofs.laws.member_reading_begins.Goals as goal

pub returns : goal.returns
returns c = reading_begins
