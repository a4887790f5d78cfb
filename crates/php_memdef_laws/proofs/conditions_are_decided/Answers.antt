use Rattle.php_memdef_laws.proofs.DecidedOperations.{can-decides}
use Rattle.php_memdef_laws.proofs.conditions_are_decided.Goals as goal

pub returns : goal.returns
returns c o m = can-decides m o
