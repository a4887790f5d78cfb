use Rattle.std.proofs.Common.{◌<◌, ◌∙◌, List, length, refl, sym, ap, arith}
use Rattle.std.specs.Prelude.{option_map, is_some, min, vec_capacity}
use Rattle.php_entries.specs.Listing.{Entry}
use Rattle.php_array.specs.Slot.{Slot, SlotList}
use Rattle.php_array.specs.Slots.{stored_at, with_value_in}
use Rattle.php_array.proofs.PlaceLemmas.{stored-within}
use Rattle.php_array.proofs.HeadLemmas.{length-slots_of, live-part, value-part, slots_of-value}
use Rattle.php_array.proofs.slots.Slots.value_mut.Goals as goal

pub index_mut-requires : goal.index_mut-requires
index_mut-requires g c =
    let i = c.self.inside in
    let ok = i.values.ok in
    let shown = ap (λ (l : SlotList _). length l.items) c.self.view_is in
    let len = length-slots_of i.heads.items i.values.items c.self.invariant in
    let within = stored-within c.args.place c.args.self.now.items c.requires in
    omega arith

pub full_mut-requires : goal.full_mut-requires
full_mut-requires g c =
    let i = c.self.inside in
    let shown = ap (λ (l : SlotList _). length l.items) c.self.view_is in
    let len = length-slots_of i.heads.items i.values.items c.self.invariant in
    let inside = stored-within c.args.place c.args.self.now.items c.requires in
    let within : c.args.place < length i.values.items = omega arith in
    let w = c.index_mut.result.now in
    sym (live-part c.args.place i.heads.items i.values.items w c.self.invariant within c.index_mut.ensures.value)
    ∙ ap (λ (l : SlotList _). is_some (stored_at c.args.place l.items)) c.self.view_is
    ∙ c.requires

pub returns : goal.returns
returns g c =
    let i = c.self.inside in
    let shown = ap (λ (l : SlotList _). length l.items) c.self.view_is in
    let len = length-slots_of i.heads.items i.values.items c.self.invariant in
    let inside = stored-within c.args.place c.args.self.now.items c.requires in
    let within : c.args.place < length i.values.items = omega arith in
    let room = min (vec_capacity i.heads) (vec_capacity i.values) in
    let there = ap (λ (l : SlotList _). is_some (stored_at c.args.place l.items)) c.self.view_is ∙ c.requires in (
      (
        refl,
        λ (v : g.row.T.Denot).
            ap (λ (ss : List (Slot g.row.T.Denot)). record { items = ss; room = room }) (slots_of-value c.args.place i.heads.items i.values.items v there)
            ∙ ap (λ (l : SlotList g.row.T.Denot). with_value_in c.args.place v l) c.self.view_is,
      ),
      record {
        writes_back = tt;
        value =
            ap (λ (l : SlotList _). option_map (λ (e : Entry _). e.value) (stored_at c.args.place l.items)) (sym c.self.view_is)
            ∙ value-part c.args.place i.heads.items i.values.items c.index_mut.result.now c.self.invariant within c.index_mut.ensures.value
            ∙ c.full_mut.ensures.value;
      },
    )
