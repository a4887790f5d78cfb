use Rattle.php_runnable.proofs.Never.{never-stuck}
use Rattle.php_runnable.proofs.laws.told_scripts_are_never_stuck.Goals as goal

pub returns : goal.returns
returns c script f d told begins n ns = never-stuck script f d told begins n ns
