use Rattle.php_memdef_laws.proofs.StopLemmas.{fall_stops}
use Rattle.php_memdef_laws.proofs.releases_stop.Goals as goal

pub returns : goal.returns
returns c = fall_stops
