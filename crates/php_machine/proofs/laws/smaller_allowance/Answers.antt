use Rattle.php_machine.proofs.AllowanceLemmas.{smaller_allowance_lem}
use Rattle.php_machine.proofs.laws.smaller_allowance.Goals as goal

pub returns : goal.returns
returns g c = let l = g.L.Allowing in smaller_allowance_lem l.rules l.control l.out l.cut l.more l.only_writes l.allows
