use Rattle.php_told_laws.proofs.ToldLemmas.{ends-once}
use Rattle.php_told_laws.proofs.laws.told_scripts_end_in_one_way.Goals as goal

pub returns : goal.returns
returns c = ends-once
