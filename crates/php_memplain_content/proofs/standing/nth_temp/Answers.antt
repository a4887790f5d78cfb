use Rattle.std.proofs.Common.{arith}
use Rattle.php_memplain_content.proofs.TempLemmas.{temp_is, temp_gone}
use Rattle.php_memplain_content.proofs.standing.nth_temp.Goals as goal

pub returns-then-depth-count : goal.returns-then-depth-count
returns-then-depth-count c = temp_is c.args.temps.now.items c.args.depth c.len-count.result c.index.result.now (let ok = c.args.temps.now.ok in omega (arith, c.len-count.ensures)) c.if-depth-count.true c.index.ensures

pub returns-else-depth-count : goal.returns-else-depth-count
returns-else-depth-count c = temp_gone c.args.temps.now.items c.args.depth c.len-count.result (let ok = c.args.temps.now.ok in omega (arith, c.len-count.ensures)) (omega (arith, c.if-depth-count.false))
