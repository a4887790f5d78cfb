use Rattle.php_grammar.proofs.statement.Sizes.{statement_length}
use Rattle.php_grammar.proofs.laws.statement_sizes_agree.Goals as goal

pub returns : goal.returns
returns c = λ a w. statement_length a w
