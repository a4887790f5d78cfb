use Rattle.php_memdef_laws.proofs.EndLemmas.{fall_ends}
use Rattle.php_memdef_laws.proofs.releases_end.Goals as goal

pub returns : goal.returns
returns c = fall_ends
