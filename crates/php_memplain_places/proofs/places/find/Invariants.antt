use Rattle.std.proofs.Common.{◌≡◌, drop}
use Rattle.std.specs.Prelude.{Some}
use Rattle.php_memdef.specs.Places.{spot_along, find_place}
use Rattle.php_memplain_cells.specs.Memory.{memory_seen}
use Rattle.php_memplain_places.specs.Spots.{spot_seen}
use Rattle.php_memplain_places.proofs.places.find.Given as goal

-- the rest of the path leads from here to where the place is
abbrev pub invariant-loop-at : goal.invariant-loop-at
invariant-loop-at l = spot_along (memory_seen l.cells) (Some (spot_seen l.spot)) (drop l.at l.place.path) ≡ find_place (memory_seen l.cells) l.place
