use Rattle.php_memdef_laws.proofs.ObjectLemmas as objects
use Rattle.php_memdef_laws.proofs.objects_after.Goals as goal

pub returns-clause-made : goal.returns-clause-made
returns-clause-made c = objects.objects_after

pub returns-clause-released : goal.returns-clause-released
returns-clause-released c = objects.fall_fewer
