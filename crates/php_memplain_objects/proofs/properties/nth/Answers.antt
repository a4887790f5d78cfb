use Rattle.std.proofs.Common.{arith}
use Rattle.php_memplain_objects.proofs.PropertyLemmas.{nth_there, nth_past}
use Rattle.php_memplain_objects.proofs.properties.nth.Goals as goal

pub returns-then-place-properties : goal.returns-then-place-properties
returns-then-place-properties c = nth_there c.args.properties.now c.args.place c.index-properties-place.result (omega arith) c.index-properties-place.is

pub returns-else-place-properties : goal.returns-else-place-properties
returns-else-place-properties c = nth_past c.args.properties.now c.args.place (omega arith)
