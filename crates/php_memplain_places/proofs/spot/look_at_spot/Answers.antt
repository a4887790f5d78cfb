use Rattle.std.proofs.Common.{sym, ap, subst}
use Rattle.std.specs.Prelude.{Option, option_map}
use Rattle.php_memdef.specs.Views.{Shows, content_if_found}
use Rattle.php_memplain_cells.specs.Memory.{memory_seen}
use Rattle.php_memplain_places.specs.Spots.{spot_seen}
use Rattle.php_memplain_places.specs.declared.spot.Spot.{Spot}
use Rattle.php_memplain_places.proofs.spot.look_at_spot.Goals as goal

pub returns-in-Some : goal.returns-in-Some
returns-in-Some c = subst (λ (o : Option Spot). Shows c.look_there.result (content_if_found (memory_seen c.args.cells.now) (option_map spot_seen o))) (sym c.in-Some.is) c.look_there.ensures

pub returns-in-None : goal.returns-in-None
returns-in-None c = ap (λ (o : Option Spot). content_if_found (memory_seen c.args.cells.now) (option_map spot_seen o)) c.in-None.is
