use Rattle.std.proofs.Common.{arith}
use Rattle.php_memplain_places.proofs.SlotsLemmas.{numbered_past}
use Rattle.php_memplain_writes.proofs.PointLemmas.{number_at}
use Rattle.php_memplain_writes.proofs.pointing.static_store.Goals as goal

pub returns-then-number-len : goal.returns-then-number-len
returns-then-number-len c = let ok = c.args.statics.now.ok in number_at c.args.statics.now.items c.args.number c.index.result.now c.index.ensures (omega (arith, c.if-number-len.true, c.len.ensures))

pub returns-else-number-len : goal.returns-else-number-len
returns-else-number-len c = let ok = c.args.statics.now.ok in numbered_past c.args.statics.now.items c.args.number (omega (arith, c.if-number-len.false, c.len.ensures))
