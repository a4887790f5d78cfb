use Rattle.std.proofs.Common.{◌∙◌, List, [], ◌∷◌, ◌++◌, length, ap, arith, Some}
use Rattle.std.specs.Prelude.{Option}
use Rattle.php_array.specs.Slot.{SlotList, Live}
use Rattle.php_array.specs.declared.slots.Head.{Head}
use Rattle.php_array.specs.Heads.{slots_of}
use Rattle.php_array.proofs.HeadLemmas.{length-slots_of, slots_of-push}
use Rattle.php_array.proofs.slots.Slots.push_reserved.Goals as goal

pub push_reserved-requires : goal.push_reserved-requires
push_reserved-requires g c =
    let i = c.self.inside in
    let ok = i.heads.ok in
    let same = c.self.invariant in
    let shown = ap (λ (l : SlotList _). length l.items) c.self.view_is in
    let room = ap (λ (l : SlotList _). l.room) c.self.view_is in
    let len = length-slots_of i.heads.items i.values.items c.self.invariant in
    omega arith

pub push_reserved-requires-2 : goal.push_reserved-requires-2
push_reserved-requires-2 g c =
    let i = c.self.inside in
    let ok = i.values.ok in
    let shown = ap (λ (l : SlotList _). length l.items) c.self.view_is in
    let room = ap (λ (l : SlotList _). l.room) c.self.view_is in
    let len = length-slots_of i.heads.items i.values.items c.self.invariant in
    omega arith

pub returns : goal.returns
returns g c =
    let i = c.self.inside in
    let h : Head = record { serial = c.args.serial; key = c.args.key } in
    ap (λ (hs : List Head). slots_of hs c.push_reserved-2.new.self.items) c.push_reserved.ensures.items
    ∙ ap (λ (vs : List (Option _)). slots_of (i.heads.items ++ h ∷ []) vs) c.push_reserved-2.ensures.items
    ∙ slots_of-push i.heads.items i.values.items h (Some c.args.value) c.self.invariant
    ∙ ap (λ (l : SlotList _). l.items ++ Live (record { serial = c.args.serial; key = c.args.key; value = c.args.value }) ∷ []) c.self.view_is
