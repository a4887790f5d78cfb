use Rattle.std.proofs.Common.{◌∙◌, ap}
use Rattle.php_memdef.specs.Views.{is_link_item}
use Rattle.php_memplain_places.proofs.views.is_link.Goals as goal

pub returns-in-Some : goal.returns-in-Some
returns-in-Some c = c.is_link_item.ensures ∙ ap is_link_item c.in-Some.ensures

pub returns-in-None : goal.returns-in-None
returns-in-None c = ap is_link_item c.in-None.ensures
