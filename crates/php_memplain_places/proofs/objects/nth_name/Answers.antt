use Rattle.std.proofs.Common.{◌∙◌, ap, arith}
use Rattle.std.specs.Prelude.{Some}
use Rattle.php_memplain_places.proofs.SlotsLemmas.{property_there, property_past}
use Rattle.php_memplain_places.proofs.objects.nth_name.Goals as goal

pub returns-then-place-properties : goal.returns-then-place-properties
returns-then-place-properties c = ap Some c.name_of.ensures ∙ property_there c.args.properties.now c.args.place c.index-properties-place.result (omega arith) c.index-properties-place.is

pub returns-else-place-properties : goal.returns-else-place-properties
returns-else-place-properties c = property_past c.args.properties.now c.args.place (omega arith)
