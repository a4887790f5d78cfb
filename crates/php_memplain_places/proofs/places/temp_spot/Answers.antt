use Rattle.std.proofs.Common.{◌∙◌, ap}
use Rattle.php_memdef.specs.Places.{temp_spot}
use Rattle.php_memplain_places.proofs.places.temp_spot.Goals as goal

pub returns-in-Some : goal.returns-in-Some
returns-in-Some c = c.item_spot.ensures ∙ ap (temp_spot c.args.number c.args.depth) c.in-Some.ensures

pub returns-in-None : goal.returns-in-None
returns-in-None c = ap (temp_spot c.args.number c.args.depth) c.in-None.ensures
