use Rattle.std.proofs.Common.{◌∙◌, length, sym, ap, arith}
use Rattle.std.specs.Prelude.{option_map}
use Rattle.php_entries.specs.Listing.{Entry}
use Rattle.php_array.specs.Slot.{SlotList}
use Rattle.php_array.specs.Slots.{stored_at}
use Rattle.php_array.proofs.PlaceLemmas.{stored-within}
use Rattle.php_array.proofs.HeadLemmas.{length-slots_of, stored-of_value, none-of_value, entry-parts}
use Rattle.php_array.proofs.slots.Slots.entry.Goals as goal

pub index-head-requires : goal.index-head-requires
index-head-requires g c =
    let i = c.self.inside in
    let ok = i.heads.ok in
    let shown = ap (λ (l : SlotList _). length l.items) c.self.view_is in
    let len = length-slots_of i.heads.items i.values.items c.self.invariant in
    let same = c.self.invariant in
    let within = stored-within c.args.place c.args.self.now.items (stored-of_value (stored_at c.args.place c.args.self.now.items) c.in-Some.value.now c.in-Some.ensures) in
    omega arith

pub returns-in-Some : goal.returns-in-Some
returns-in-Some g c =
    let i = c.self.inside in
    entry-parts c.args.place i.heads.items i.values.items c.index-head.result.now c.in-Some.value.now c.index-head.ensures
    (c.in-Some.ensures ∙ ap (λ (l : SlotList _). option_map (λ (e : Entry _). e.value) (stored_at c.args.place l.items)) (sym c.self.view_is))
    ∙ ap (λ (l : SlotList _). stored_at c.args.place l.items) c.self.view_is

pub returns-in-None : goal.returns-in-None
returns-in-None g c = none-of_value (stored_at c.args.place c.args.self.now.items) c.in-None.ensures
