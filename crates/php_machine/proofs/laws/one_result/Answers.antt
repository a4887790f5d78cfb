use Rattle.php_machine.proofs.LongerLemmas.{one_result_lem}
use Rattle.php_machine.proofs.laws.one_result.Goals as goal

pub returns : goal.returns
returns g c = one_result_lem g.L.Machine.rules g.L.Machine.control
