use Rattle.std.proofs.Common.{◌∙◌, ap}
use Rattle.php_memdef.specs.Views.{is_spot_shared}
use Rattle.php_memplain_cells.specs.Memory.{memory_seen}
use Rattle.php_memplain_places.proofs.views.is_aliased.Goals as goal

pub returns-in-Some-Stored : goal.returns-in-Some-Stored
returns-in-Some-Stored c = c.is_shared.ensures ∙ ap (is_spot_shared (memory_seen c.args.cells.now)) (rw c.in-Some-Stored.field-0-is at c.in-Some-Stored.ensures)
