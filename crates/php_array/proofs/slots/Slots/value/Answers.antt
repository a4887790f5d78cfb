use Rattle.std.proofs.Common.{◌<◌, ◌≤◌, ◌∙◌, length, sym, ap, arith}
use Rattle.std.specs.Prelude.{option_map}
use Rattle.php_entries.specs.Listing.{Entry}
use Rattle.php_array.specs.Slot.{SlotList}
use Rattle.php_array.specs.Slots.{stored_at}
use Rattle.php_array.proofs.HeadLemmas.{value-part, value-past}
use Rattle.php_array.proofs.slots.Slots.value.Goals as goal

pub returns-then-place-len : goal.returns-then-place-len
returns-then-place-len g c =
    let i = c.self.inside in
    let ok = i.values.ok in
    let within : c.args.place < length i.values.items = omega arith in
    c.as_ref.ensures.value
    ∙ sym (value-part c.args.place i.heads.items i.values.items c.index.result.now c.self.invariant within c.index.ensures)
    ∙ ap (λ (l : SlotList _). option_map (λ (e : Entry _). e.value) (stored_at c.args.place l.items)) c.self.view_is

pub returns-else-place-len : goal.returns-else-place-len
returns-else-place-len g c =
    let i = c.self.inside in
    let ok = i.values.ok in
    let past : length i.values.items ≤ c.args.place = omega arith in
    sym (ap (option_map (λ (e : Entry _). e.value)) (value-past c.args.place i.heads.items i.values.items past))
    ∙ ap (λ (l : SlotList _). option_map (λ (e : Entry _). e.value) (stored_at c.args.place l.items)) c.self.view_is
