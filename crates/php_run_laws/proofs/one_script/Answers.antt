use Rattle.php_run_laws.proofs.Scripts.{one_script}
use Rattle.php_run_laws.proofs.one_script.Goals as goal

pub returns : goal.returns
returns c = one_script
