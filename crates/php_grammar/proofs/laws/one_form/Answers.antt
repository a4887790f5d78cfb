use Rattle.php_grammar.proofs.expression.LawProofs.{one_form}
use Rattle.php_grammar.proofs.laws.one_form.Goals as goal

pub returns : goal.returns
returns c = one_form
