use Rattle.std.proofs.Common.{◌∙◌, ap}
use Rattle.php_memdef.specs.Places.{elements_of}
use Rattle.php_memplain_places.proofs.spot.entries_in.Goals as goal

pub returns-in-Some : goal.returns-in-Some
returns-in-Some c = c.entries_of.ensures ∙ ap elements_of c.in-Some.ensures

pub returns-in-None : goal.returns-in-None
returns-in-None c = ap elements_of c.in-None.ensures
