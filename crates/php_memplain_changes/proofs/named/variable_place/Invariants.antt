use Rattle.std.proofs.Common.{◌-◌, length}
use Rattle.php_memplain_changes.specs.Named.{has_name, NoneBefore}
use Rattle.php_memplain_changes.proofs.named.variable_place.Given as goal

-- none so far has the name
abbrev pub invariant-loop-at : goal.invariant-loop-at
invariant-loop-at l = NoneBefore (has_name l.name) l.variables.items l.at

abbrev pub decreases-loop-at : goal.decreases-loop-at
decreases-loop-at l = length l.variables.items - l.at
