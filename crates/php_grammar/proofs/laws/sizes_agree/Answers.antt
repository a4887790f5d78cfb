use Rattle.php_grammar.proofs.expression.Sizes.{spell_length}
use Rattle.php_grammar.proofs.laws.sizes_agree.Goals as goal

pub returns : goal.returns
returns c = λ e w. spell_length e w
