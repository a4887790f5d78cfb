use Rattle.php_runnable_code.proofs.CodeLemmas.{code-never-stuck}
use Rattle.php_runnable_code.proofs.laws.compiled_scripts_are_never_stuck.Goals as goal

pub returns : goal.returns
returns c script f d told begins at = code-never-stuck script d f told begins at
