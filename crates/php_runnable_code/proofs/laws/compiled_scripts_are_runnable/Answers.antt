use Rattle.php_runnable_code.proofs.CodeLemmas.{code-runnable}
use Rattle.php_runnable_code.proofs.laws.compiled_scripts_are_runnable.Goals as goal

pub returns : goal.returns
returns c script told = code-runnable script told
