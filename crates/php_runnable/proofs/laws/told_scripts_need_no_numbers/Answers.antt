use Rattle.php_runnable.proofs.Never.{never-unnumbered}
use Rattle.php_runnable.proofs.laws.told_scripts_need_no_numbers.Goals as goal

pub returns : goal.returns
returns c script f d told begins n ns = never-unnumbered script f d told begins n ns
