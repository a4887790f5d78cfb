use Rattle.php_told_laws.proofs.ToldLemmas.{ends-from}
use Rattle.php_told_laws.proofs.laws.told_scripts_end_from.Goals as goal

pub returns : goal.returns
returns c = ends-from
