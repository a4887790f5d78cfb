use Rattle.std.proofs.Common.{◌∙◌, ap}
use Rattle.php_memplain_places.specs.Counted.{entries_if}
use Rattle.php_memplain_places.proofs.counting.entries_at.Goals as goal

pub returns-in-Some : goal.returns-in-Some
returns-in-Some c = c.entries_of_item.ensures ∙ ap entries_if c.in-Some.ensures

pub returns-in-None : goal.returns-in-None
returns-in-None c = ap entries_if c.in-None.ensures
