use Rattle.std.proofs.Common.{◌∙◌, length, sym, ap, arith}
use Rattle.php_array.proofs.HeadLemmas.{length-slots_of}
use Rattle.php_array.proofs.slots.Slots.reserve.Goals as goal

pub returns-clause-ok : goal.returns-clause-ok
returns-clause-ok g c =
    let values = c.in_ok-reserve.ensures in
    let heads = c.in_ok-reserve-2.ensures in
    let ok_values = c.reserve.new.self.ok in
    let ok_heads = c.reserve-2.new.self.ok in
    let same = c.self.invariant ∙ ap length (sym c.reserve.ensures.items) in
    let len = length-slots_of c.reserve-2.new.self.items c.reserve.new.self.items (ap length c.reserve-2.ensures.items ∙ same) in
    omega arith
