use Rattle.php_memdef_laws.proofs.Alike.Operations.{run-alike, Can-alike, cost-alike}
use Rattle.php_memdef_laws.proofs.operations_respect_alike.Goals as goal

pub returns-clause-effect : goal.returns-clause-effect
returns-clause-effect c = run-alike

pub returns-clause-condition : goal.returns-clause-condition
returns-clause-condition c = Can-alike

pub returns-clause-cost : goal.returns-clause-cost
returns-clause-cost c = cost-alike
