use Rattle.php_grammar_laws.proofs.declaration.Scripts.{unfinished}
use Rattle.php_grammar_laws.proofs.laws.unfinished_script.Goals as goal

pub returns : goal.returns
returns c = unfinished
