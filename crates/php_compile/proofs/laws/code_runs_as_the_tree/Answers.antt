use Rattle.php_compile.proofs.Agreement.{same_runs_of}
use Rattle.php_compile.proofs.laws.code_runs_as_the_tree.Goals as goal

pub returns : goal.returns
returns c = same_runs_of
