use Rattle.std.proofs.Common.{arith}
use Rattle.php_memplain_places.proofs.SlotsLemmas.{temp_there, temp_none}
use Rattle.php_memplain_places.proofs.spot.nth_temp.Goals as goal

pub returns-then-depth-count : goal.returns-then-depth-count
returns-then-depth-count c = temp_there c.args.temps.now c.args.depth _ c.index-temps-place.result c.index-temps-place.is (omega arith) (omega arith)

pub returns-else-depth-count : goal.returns-else-depth-count
returns-else-depth-count c = temp_none c.args.temps.now c.args.depth (omega arith)
