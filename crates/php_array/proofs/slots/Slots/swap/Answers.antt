use Rattle.std.proofs.Common.{◌∙◌, List, length, ap, arith}
use Rattle.std.specs.Prelude.{Option}
use Rattle.std.specs.List.{swap}
use Rattle.php_array.specs.Slot.{SlotList}
use Rattle.php_array.specs.Heads.{slots_of}
use Rattle.php_array.specs.declared.slots.Head.{Head}
use Rattle.php_array.proofs.HeadLemmas.{length-slots_of, slots_of-swap}
use Rattle.php_array.proofs.slots.Slots.swap.Goals as goal

pub swap_items-requires-clause-one : goal.swap_items-requires-clause-one
swap_items-requires-clause-one g c =
    let i = c.self.inside in
    let ok = i.heads.ok in
    let same = c.self.invariant in
    let shown = ap (λ (l : SlotList _). length l.items) c.self.view_is in
    let len = length-slots_of i.heads.items i.values.items c.self.invariant in
    omega arith

pub swap_items-requires-clause-other : goal.swap_items-requires-clause-other
swap_items-requires-clause-other g c =
    let i = c.self.inside in
    let ok = i.heads.ok in
    let same = c.self.invariant in
    let shown = ap (λ (l : SlotList _). length l.items) c.self.view_is in
    let len = length-slots_of i.heads.items i.values.items c.self.invariant in
    omega arith

pub swap_items-requires-2-clause-one : goal.swap_items-requires-2-clause-one
swap_items-requires-2-clause-one g c =
    let i = c.self.inside in
    let ok = i.values.ok in
    let same = c.self.invariant in
    let shown = ap (λ (l : SlotList _). length l.items) c.self.view_is in
    let len = length-slots_of i.heads.items i.values.items c.self.invariant in
    omega arith

pub swap_items-requires-2-clause-other : goal.swap_items-requires-2-clause-other
swap_items-requires-2-clause-other g c =
    let i = c.self.inside in
    let ok = i.values.ok in
    let same = c.self.invariant in
    let shown = ap (λ (l : SlotList _). length l.items) c.self.view_is in
    let len = length-slots_of i.heads.items i.values.items c.self.invariant in
    omega arith

pub returns : goal.returns
returns g c =
    let i = c.self.inside in
    ap (λ (hs : List Head). slots_of hs c.swap_items-2.new.items.items) c.swap_items.ensures
    ∙ ap (λ (vs : List (Option _)). slots_of (swap i.heads.items c.args.one c.args.other) vs) c.swap_items-2.ensures
    ∙ slots_of-swap i.heads.items i.values.items c.args.one c.args.other c.self.invariant
    ∙ ap (λ (l : SlotList _). swap l.items c.args.one c.args.other) c.self.view_is
