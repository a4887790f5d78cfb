use Rattle.php_grammar.proofs.declaration.Sizes.{script_length}
use Rattle.php_grammar.proofs.laws.script_sizes_agree.Goals as goal

pub returns : goal.returns
returns c = λ items. script_length items
