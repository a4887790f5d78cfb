use Rattle.php_machine.proofs.EndLemmas.{never_stuck_lem}
use Rattle.php_machine.proofs.laws.never_stuck.Goals as goal

pub returns : goal.returns
returns g c = let l = g.L.Keeping in never_stuck_lem l.rules l.control l.invariant l.keeps
