use Rattle.php_memdef_laws.proofs.FallingLemmas as falling
use Rattle.php_memdef_laws.proofs.falling_stays.Goals as goal

pub returns : goal.returns
returns c = falling.falling_stays
