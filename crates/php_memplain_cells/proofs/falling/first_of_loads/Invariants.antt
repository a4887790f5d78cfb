use Rattle.std.proofs.Common.{◌≡◌, length}
use Rattle.php_memplain_cells.specs.Seen.{loads_items}
use Rattle.php_memplain_cells.proofs.falling.first_of_loads.Given as goal

abbrev pub invariant-loop-load : goal.invariant-loop-load
invariant-loop-load l = loads_items l.loads ≡ loads_items l.fn.loads

abbrev pub decreases-loop-load : goal.decreases-loop-load
decreases-loop-load l = length l.loads
