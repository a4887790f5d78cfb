use Rattle.php_run_laws.proofs.Narrowings.{one_narrowing}
use Rattle.php_run_laws.proofs.one_narrowing.Goals as goal

pub returns : goal.returns
returns c = one_narrowing
