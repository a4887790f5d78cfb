use Rattle.std.proofs.Common.{◌∙◌, ap, map}
use Rattle.std.specs.Prelude.{option_map}
use Rattle.php_memdef.specs.Objects.{first_due}
use Rattle.php_memplain_cells.specs.Seen.{box_seen}
use Rattle.php_memplain_places.proofs.objects.eldest.Goals as goal

pub returns : goal.returns
returns c = c.first_due.ensures ∙ ap (λ os. first_due (map (option_map box_seen) os) 1) c.as_slice.ensures.value
