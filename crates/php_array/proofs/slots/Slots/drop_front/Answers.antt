use Rattle.std.proofs.Common.{◌∙◌, List, length, drop, ap, arith}
use Rattle.std.specs.Prelude.{Option}
use Rattle.php_array.specs.Slot.{SlotList}
use Rattle.php_array.specs.Heads.{slots_of}
use Rattle.php_array.specs.declared.slots.Head.{Head}
use Rattle.php_array.proofs.HeadLemmas.{length-slots_of, slots_of-drop}
use Rattle.php_array.proofs.slots.Slots.drop_front.Goals as goal

pub drop_first-requires : goal.drop_first-requires
drop_first-requires g c =
    let i = c.self.inside in
    let ok = i.heads.ok in
    let same = c.self.invariant in
    let shown = ap (λ (l : SlotList _). length l.items) c.self.view_is in
    let len = length-slots_of i.heads.items i.values.items c.self.invariant in
    omega arith

pub drop_first-requires-2 : goal.drop_first-requires-2
drop_first-requires-2 g c =
    let i = c.self.inside in
    let ok = i.values.ok in
    let same = c.self.invariant in
    let shown = ap (λ (l : SlotList _). length l.items) c.self.view_is in
    let len = length-slots_of i.heads.items i.values.items c.self.invariant in
    omega arith

pub returns : goal.returns
returns g c =
    let i = c.self.inside in
    ap (λ (hs : List Head). slots_of hs c.drop_first-2.new.items.items) c.drop_first.ensures
    ∙ ap (λ (vs : List (Option _)). slots_of (drop c.args.first i.heads.items) vs) c.drop_first-2.ensures
    ∙ slots_of-drop c.args.first i.heads.items i.values.items
    ∙ ap (λ (l : SlotList _). drop c.args.first l.items) c.self.view_is
