use Rattle.php_machine.proofs.AgreeLemmas.{same_runs_lem}
use Rattle.php_machine.proofs.laws.same_runs.Goals as goal

pub returns : goal.returns
returns g c = let l = g.L.TwoControls in same_runs_lem l.first l.second l.related l.agree l.rules
