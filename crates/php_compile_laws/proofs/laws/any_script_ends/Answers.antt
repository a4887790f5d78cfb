use Rattle.php_compile_laws.proofs.RunLemmas.{tree_ends}
use Rattle.php_compile_laws.proofs.laws.any_script_ends.Goals as goal

pub returns : goal.returns
returns c = tree_ends
