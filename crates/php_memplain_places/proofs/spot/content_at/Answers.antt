use Rattle.std.proofs.Common.{sym, ◌∙◌, ap}
use Rattle.php_memdef.specs.Places.{content_at}
use Rattle.php_memplain_cells.specs.Memory.{memory_seen}
use Rattle.php_memplain_places.specs.Spots.{spot_seen}
use Rattle.php_memplain_places.specs.declared.spot.Spot.{Spot}
use Rattle.php_memplain_places.proofs.spot.content_at.Goals as goal

pub returns-in-Stored : goal.returns-in-Stored
returns-in-Stored c = c.content_of.ensures ∙ ap (λ (s : Spot). content_at (memory_seen c.args.cells.now) (spot_seen s)) (sym c.in-Stored.is)

pub returns-in-Standing : goal.returns-in-Standing
returns-in-Standing c = c.content_standing.ensures ∙ ap (λ (s : Spot). content_at (memory_seen c.args.cells.now) (spot_seen s)) (sym c.in-Standing.is)
