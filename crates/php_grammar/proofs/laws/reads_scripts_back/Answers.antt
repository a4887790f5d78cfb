use Rattle.php_grammar.proofs.declaration.ScriptBack.{scripts_read_back}
use Rattle.php_grammar.proofs.laws.reads_scripts_back.Goals as goal

pub returns : goal.returns
returns c = scripts_read_back
