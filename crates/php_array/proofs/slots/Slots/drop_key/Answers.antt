use Rattle.std.proofs.Common.{◌∙◌, length, refl, ap, arith}
use Rattle.php_array.specs.Slot.{SlotList}
use Rattle.php_array.specs.Slots.{stored_at}
use Rattle.php_array.proofs.HeadLemmas.{length-slots_of, slots_of-key}
use Rattle.php_array.proofs.slots.Slots.drop_key.Goals as goal

pub index_mut-requires : goal.index_mut-requires
index_mut-requires g c =
    let i = c.self.inside in
    let ok = i.heads.ok in
    let shown = ap (λ (l : SlotList _). length l.items) c.self.view_is in
    let len = length-slots_of i.heads.items i.values.items c.self.invariant in
    let same = c.self.invariant in
    omega arith

pub returns : goal.returns
returns g c =
    let i = c.self.inside in
    let d = c.index_mut.result.now in
    slots_of-key c.args.place i.heads.items i.values.items _ d c.index_mut.ensures.value refl (ap (λ (l : SlotList _). stored_at c.args.place l.items) c.self.view_is ∙ c.requires.hole)
    ∙ ap (λ (l : SlotList _). l.items) c.self.view_is
