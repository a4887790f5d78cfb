use Rattle.php_runnable.proofs.Starts.{first-begins}
use Rattle.php_runnable.proofs.laws.first_data_can_begin.Goals as goal

pub returns : goal.returns
returns c = first-begins
