use Rattle.std.proofs.Common.{◌-◌, length}
use Rattle.php_memplain_blocks.proofs.ForgetLemmas.{Passed}
use Rattle.php_memplain_blocks.proofs.names.variable_place.Given as goal

abbrev pub invariant-loop-at : goal.invariant-loop-at
invariant-loop-at l = Passed l.name l.variables.items l.at

abbrev pub decreases-loop-at : goal.decreases-loop-at
decreases-loop-at l = length l.variables.items - l.at
