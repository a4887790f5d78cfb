use Rattle.std.proofs.Common.{◌∙◌, ap}
use Rattle.php_memdef.specs.Places.{content_if}
use Rattle.php_memplain_places.proofs.spot.content_standing.Goals as goal

pub returns-in-Some : goal.returns-in-Some
returns-in-Some c = c.value_of.ensures ∙ ap content_if c.in-Some.ensures

pub returns-in-None : goal.returns-in-None
returns-in-None c = ap content_if c.in-None.ensures
