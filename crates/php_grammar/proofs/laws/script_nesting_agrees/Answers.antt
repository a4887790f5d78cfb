use Rattle.php_grammar.proofs.declaration.ScriptTrace.{script_nesting}
use Rattle.php_grammar.proofs.laws.script_nesting_agrees.Goals as goal

pub returns : goal.returns
returns c = script_nesting
