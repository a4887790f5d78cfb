use Rattle.std.proofs.Common.{◌<◌, ◌∙◌, length, sym, ap, arith}
use Rattle.php_array.specs.Slot.{SlotList}
use Rattle.php_array.specs.Slots.{serial_at}
use Rattle.php_array.specs.Heads.{slots_of}
use Rattle.php_array.proofs.HeadLemmas.{length-slots_of, serial-part}
use Rattle.php_array.proofs.slots.Slots.serial.Goals as goal

pub index-requires : goal.index-requires
index-requires g c =
    let i = c.self.inside in
    let ok = i.heads.ok in
    let shown = ap (λ (l : SlotList _). length l.items) c.self.view_is in
    let len = length-slots_of i.heads.items i.values.items c.self.invariant in
    let same = c.self.invariant in
    omega arith

pub returns : goal.returns
returns g c =
    let i = c.self.inside in
    let within : c.args.place < length (slots_of i.heads.items i.values.items) = (let shown = ap (λ (l : SlotList _). length l.items) c.self.view_is in omega arith) in
    sym (serial-part c.args.place i.heads.items i.values.items c.index.result.now c.self.invariant within c.index.ensures)
    ∙ ap (λ (l : SlotList _). serial_at c.args.place l.items) c.self.view_is
