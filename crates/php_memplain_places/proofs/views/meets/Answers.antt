use Rattle.std.proofs.Common.{subst}
use Rattle.std.specs.Prelude.{Option}
use Rattle.php_memdef.specs.Places.{Spot}
use Rattle.php_memdef.specs.Views.{Shows, content_if_found}
use Rattle.php_memplain_cells.specs.Memory.{memory_seen}
use Rattle.php_memplain_places.proofs.views.meets.Goals as goal

pub returns-clause-steps : goal.returns-clause-steps
returns-clause-steps c = c.go_along-way.ensures.steps

pub returns-clause-end : goal.returns-clause-end
returns-clause-end c = subst (λ (o : Option Spot). Shows c.look_at_spot-end.result (content_if_found (memory_seen c.args.cells.now) o)) c.go_along-way.ensures.end c.look_at_spot-end.ensures
