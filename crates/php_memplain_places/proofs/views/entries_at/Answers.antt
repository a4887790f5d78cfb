use Rattle.std.proofs.Common.{◌∙◌, ap}
use Rattle.php_memdef.specs.Views.{elements_if_found, content_if_found}
use Rattle.php_memplain_cells.specs.Memory.{memory_seen}
use Rattle.php_memplain_places.proofs.views.entries_at.Goals as goal

pub returns-in-Some : goal.returns-in-Some
returns-in-Some c = c.entries_in.ensures ∙ ap (λ o. elements_if_found (content_if_found (memory_seen c.args.cells.now) o)) c.in-Some.ensures

pub returns-in-None : goal.returns-in-None
returns-in-None c = ap (λ o. elements_if_found (content_if_found (memory_seen c.args.cells.now) o)) c.in-None.ensures
