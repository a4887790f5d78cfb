use Rattle.php_machine.proofs.EndLemmas.{runs_end_lem}
use Rattle.php_machine.proofs.laws.runs_end.Goals as goal

pub returns : goal.returns
returns g c = let l = g.L.Falling in runs_end_lem l.rules l.control l.invariant l.weight l.falls
