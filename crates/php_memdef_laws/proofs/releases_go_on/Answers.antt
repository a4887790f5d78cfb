use Rattle.php_memdef_laws.proofs.EndLemmas.{fall_unfolds}
use Rattle.php_memdef_laws.proofs.releases_go_on.Goals as goal

pub returns : goal.returns
returns c = fall_unfolds
