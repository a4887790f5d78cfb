use Rattle.php_compile_laws.proofs.RunLemmas.{never_stuck_too}
use Rattle.php_compile_laws.proofs.laws.code_is_stuck_only_as_the_tree.Goals as goal

pub returns : goal.returns
returns c = never_stuck_too
