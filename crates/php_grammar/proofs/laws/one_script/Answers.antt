use Rattle.php_grammar.proofs.declaration.ScriptBack.{one_script}
use Rattle.php_grammar.proofs.laws.one_script.Goals as goal

pub returns : goal.returns
returns c = one_script
