use Rattle.std.proofs.Common.{◌∙◌}
use Rattle.php_memplain_places.proofs.SlotsLemmas.{store_there, store_none}
use Rattle.php_memplain_places.proofs.spot.content_of.Goals as goal

pub returns-in-Some : goal.returns-in-Some
returns-in-Some c = c.content_in.ensures ∙ store_there c.args.cells.now c.args.store c.in-Some.cell.now c.in-Some.ensures

pub returns-in-None : goal.returns-in-None
returns-in-None c = store_none c.args.cells.now c.args.store c.in-None.ensures
