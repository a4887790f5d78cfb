use Rattle.php_told_laws.proofs.ToldLemmas.{ends}
use Rattle.php_told_laws.proofs.laws.told_scripts_end.Goals as goal

pub returns : goal.returns
returns c = ends
