use Rattle.std.proofs.Common.{◌≡◌, ◌+◌, drop}
use Rattle.std.specs.Prelude.{Some}
use Rattle.php_memdef.specs.Places.{base_spot}
use Rattle.php_memdef.specs.Views.{steps_along, end_along}
use Rattle.php_memplain_cells.specs.Memory.{memory_seen}
use Rattle.php_memplain_places.specs.Spots.{spot_seen}
use Rattle.php_memplain_places.proofs.way.go_along.Given as goal

-- all steps so far lead somewhere, and the rest of the path leads from here as far as the whole
abbrev pub invariant-loop-at : goal.invariant-loop-at
invariant-loop-at l = record {
  steps : l.at + steps_along (memory_seen l.cells) (Some (spot_seen l.spot)) (drop l.at l.place.path) ≡ steps_along (memory_seen l.cells) (base_spot (memory_seen l.cells) l.place.base) l.place.path;
  end : end_along (memory_seen l.cells) (Some (spot_seen l.spot)) (drop l.at l.place.path) ≡ end_along (memory_seen l.cells) (base_spot (memory_seen l.cells) l.place.base) l.place.path;
}
