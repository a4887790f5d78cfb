use Rattle.std.proofs.Common.{◌≡◌, ◌<◌, ◌∙◌, length, true≢false, sym, ap, arith}
use Rattle.std.specs.Prelude.{Option, option_map, is_some, slice_set, true}
use Rattle.php_entries.specs.Listing.{Entry}
use Rattle.php_array.specs.Slot.{SlotList}
use Rattle.php_array.specs.Slots.{stored_at, vacated}
use Rattle.php_array.specs.Heads.{slots_of}
use Rattle.php_array.proofs.PlaceLemmas.{stored-within}
use Rattle.php_array.proofs.HeadLemmas.{length-slots_of, live-part, value-part, slots_of-vacated}
use Rattle.php_array.proofs.slots.Slots.take.Goals as goal

pub index_mut-requires : goal.index_mut-requires
index_mut-requires g c =
    let i = c.self.inside in
    let ok = i.values.ok in
    let shown = ap (λ (l : SlotList _). length l.items) c.self.view_is in
    let len = length-slots_of i.heads.items i.values.items c.self.invariant in
    let within = stored-within c.args.place c.args.self.now.items c.requires in
    omega arith

pub unreachable-requires : goal.unreachable-requires
unreachable-requires g c =
    let i = c.self.inside in
    let shown = ap (λ (l : SlotList _). length l.items) c.self.view_is in
    let len = length-slots_of i.heads.items i.values.items c.self.invariant in
    let inside = stored-within c.args.place c.args.self.now.items c.requires in
    let within : c.args.place < length i.values.items = omega arith in
    let w = c.index_mut.result.now in
    let live = live-part c.args.place i.heads.items i.values.items w c.self.invariant within c.index_mut.ensures.value in
    let some : is_some w ≡ true = sym live ∙ ap (λ (l : SlotList _). is_some (stored_at c.args.place l.items)) c.self.view_is ∙ c.requires in
    true≢false (sym some ∙ ap is_some (sym c.take.ensures.value ∙ c.in-None.is))

pub returns-clause-value : goal.returns-clause-value
returns-clause-value g c =
    let i = c.self.inside in
    let shown = ap (λ (l : SlotList _). length l.items) c.self.view_is in
    let len = length-slots_of i.heads.items i.values.items c.self.invariant in
    let inside = stored-within c.args.place c.args.self.now.items c.requires in
    let within : c.args.place < length i.values.items = omega arith in
    let w = c.index_mut.result.now in
    ap (λ (l : SlotList _). option_map (λ (e : Entry _). e.value) (stored_at c.args.place l.items)) (sym c.self.view_is)
    ∙ value-part c.args.place i.heads.items i.values.items w c.self.invariant within c.index_mut.ensures.value
    ∙ sym c.take.ensures.value
    ∙ c.in-Some.is

pub returns-clause-after : goal.returns-clause-after
returns-clause-after g c =
    let i = c.self.inside in
    ap (λ (w : Option _). slots_of i.heads.items (slice_set i.values.items c.args.place w)) c.take.ensures.after
    ∙ slots_of-vacated c.args.place i.heads.items i.values.items
    ∙ ap (λ (l : SlotList _). vacated c.args.place l.items) c.self.view_is
