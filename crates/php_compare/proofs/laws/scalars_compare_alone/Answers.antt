use Rattle.php_compare.proofs.ScalarLemmas.{scalars}
use Rattle.php_compare.proofs.laws.scalars_compare_alone.Goals as goal

pub returns : goal.returns
returns c = scalars
