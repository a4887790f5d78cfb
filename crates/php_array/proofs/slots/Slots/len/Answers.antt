use Rattle.std.proofs.Common.{length, ap, arith}
use Rattle.php_array.specs.Slot.{SlotList}
use Rattle.php_array.proofs.HeadLemmas.{length-slots_of}
use Rattle.php_array.proofs.slots.Slots.len.Goals as goal

pub returns : goal.returns
returns g c =
    let i = c.self.inside in
    let ok = i.values.ok in
    let shown = ap (λ (l : SlotList _). length l.items) c.self.view_is in
    let len = length-slots_of i.heads.items i.values.items c.self.invariant in
    omega arith
