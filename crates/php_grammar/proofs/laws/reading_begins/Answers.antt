use Rattle.php_grammar.proofs.expression.LawProofs.{reading_begins}
use Rattle.php_grammar.proofs.laws.reading_begins.Goals as goal

pub returns : goal.returns
returns c = reading_begins
