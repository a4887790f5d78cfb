use Rattle.php_memdef_laws.proofs.Shapes.Operations.{shapes}
use Rattle.php_memdef_laws.proofs.shapes_after.Goals as goal

pub returns : goal.returns
returns c = shapes
