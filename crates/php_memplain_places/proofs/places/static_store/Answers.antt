use Rattle.std.proofs.Common.{arith}
use Rattle.php_memplain_places.proofs.SlotsLemmas.{numbered_there, numbered_past}
use Rattle.php_memplain_places.proofs.places.static_store.Goals as goal

pub returns-then-number-statics : goal.returns-then-number-statics
returns-then-number-statics c = numbered_there c.args.statics.now c.args.number (omega arith)

pub returns-else-number-statics : goal.returns-else-number-statics
returns-else-number-statics c = numbered_past c.args.statics.now c.args.number (omega arith)
