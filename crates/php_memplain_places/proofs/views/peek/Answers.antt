use Rattle.std.proofs.Common.{subst}
use Rattle.std.specs.Prelude.{Option}
use Rattle.php_memdef.specs.Places.{Spot}
use Rattle.php_memdef.specs.Views.{Shows, content_if_found}
use Rattle.php_memplain_cells.specs.Memory.{memory_seen}
use Rattle.php_memplain_places.proofs.views.peek.Goals as goal

pub returns : goal.returns
returns c = subst (λ (o : Option Spot). Shows c.look_at_spot.result (content_if_found (memory_seen c.args.cells.now) o)) c.find-spot.ensures c.look_at_spot.ensures
