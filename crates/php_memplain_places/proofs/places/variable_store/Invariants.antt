use Rattle.std.proofs.Common.{◌≡◌, drop, map}
use Rattle.php_memdef.specs.Places.{variable_store}
use Rattle.php_memplain_cells.specs.Seen.{variable_seen}
use Rattle.php_memplain_places.proofs.places.variable_store.Given as goal

-- none so far has the name
abbrev pub invariant-loop-variable : goal.invariant-loop-variable
invariant-loop-variable l = variable_store (map variable_seen (drop l.variable-index l.variables)) l.name ≡ variable_store (map variable_seen l.variables) l.name
