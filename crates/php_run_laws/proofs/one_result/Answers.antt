use Rattle.php_run_laws.proofs.Owings.{one_result}
use Rattle.php_run_laws.proofs.one_result.Goals as goal

pub returns : goal.returns
returns c = one_result
