use Rattle.std.proofs.Common.{◌∙◌, arith, ap, List, Some}
use Rattle.php_entries.specs.Listing.{Entry}
use Rattle.php_entries.specs.Changes.{pop_entry}
use Rattle.php_array.specs.Kept.{listing_of}
use Rattle.php_array.proofs.KeptLemmas.{popped-distinct, popped-indexed, popped-front, popped-count, popped-kept, popped-after, popped-entry, pop_entry-empty}
use Rattle.php_array.proofs.entries.Entries.pop.Goals as goal

pub returns-in_default-clause-after : goal.returns-in_default-clause-after
returns-in_default-clause-after g c =
    let i = c.self.inside in
    ap (λ (es : List (Entry _)). record { entries = es; next_key = i.next_key; next_serial = i.next_serial }) c.in_default.ensures.none_left.entries
    ∙ pop_entry-empty (listing_of i.slots.items i.next_key i.next_serial) c.in_default.ensures.none
    ∙ ap pop_entry c.self.view_is

pub overflow_sub-self : goal.overflow_sub-self
overflow_sub-self g c =
    let i = c.self.inside in
    let e : Entry _ = record { serial = c.in-Some.field-0-0; key = c.in-Some.key; value = c.in-Some.value } in
    let some = popped-count i.index c.forget.new.self i.slots.items c.pop_stored.new.slots.items e i.first i.count i.next_key i.next_serial c.self.invariant c.in-Some.ensures.some in omega arith

pub settle-self-inside-requires-clause-distinct : goal.settle-self-inside-requires-clause-distinct
settle-self-inside-requires-clause-distinct g c =
    let i = c.self.inside in
    let e : Entry _ = record { serial = c.in-Some.field-0-0; key = c.in-Some.key; value = c.in-Some.value } in
    popped-distinct i.index c.forget.new.self i.slots.items c.pop_stored.new.slots.items e i.first i.count i.next_key i.next_serial c.self.invariant c.in-Some.ensures.some

pub settle-self-inside-requires-clause-indexed : goal.settle-self-inside-requires-clause-indexed
settle-self-inside-requires-clause-indexed g c =
    let i = c.self.inside in
    let e : Entry _ = record { serial = c.in-Some.field-0-0; key = c.in-Some.key; value = c.in-Some.value } in
    popped-indexed i.index c.forget.new.self i.slots.items c.pop_stored.new.slots.items e i.first i.count i.next_key i.next_serial c.self.invariant c.in-Some.ensures.some c.forget.ensures

pub settle-self-inside-requires-clause-holes : goal.settle-self-inside-requires-clause-holes
settle-self-inside-requires-clause-holes g c =
    let i = c.self.inside in
    let e : Entry _ = record { serial = c.in-Some.field-0-0; key = c.in-Some.key; value = c.in-Some.value } in
    popped-front i.index c.forget.new.self i.slots.items c.pop_stored.new.slots.items e i.first i.count i.next_key i.next_serial c.self.invariant c.in-Some.ensures.some

pub invariant_of-self-2 : goal.invariant_of-self-2
invariant_of-self-2 g c =
    let i = c.self.inside in
    let e : Entry _ = record { serial = c.in-Some.field-0-0; key = c.in-Some.key; value = c.in-Some.value } in
    popped-kept i.index c.forget.new.self i.slots.items c.pop_stored.new.slots.items e i.first i.count i.next_key i.next_serial c.self.invariant c.in-Some.ensures.some c.settle-self-inside.new.slots.items c.settle-self-inside.new.index c.settle-self-inside.result c.settle-self-inside.ensures c.key_without-self-inside.result c.key_without-self-inside.ensures.value

pub returns-clause-entry : goal.returns-clause-entry
returns-clause-entry g c =
    let i = c.self.inside in
    let e : Entry _ = record { serial = c.in-Some.field-0-0; key = c.in-Some.key; value = c.in-Some.value } in
    popped-entry i.index c.forget.new.self i.slots.items c.pop_stored.new.slots.items e i.first i.count i.next_key i.next_serial c.self.invariant c.in-Some.ensures.some c.args.self.now c.self.view_is

pub returns-clause-after : goal.returns-clause-after
returns-clause-after g c =
    let i = c.self.inside in
    let e : Entry _ = record { serial = c.in-Some.field-0-0; key = c.in-Some.key; value = c.in-Some.value } in
    popped-after i.index c.forget.new.self i.slots.items c.pop_stored.new.slots.items e i.first i.count i.next_key i.next_serial c.self.invariant c.in-Some.ensures.some c.settle-self-inside.new.slots.items c.settle-self-inside.new.index c.settle-self-inside.result c.settle-self-inside.ensures c.key_without-self-inside.result c.key_without-self-inside.ensures.value c.args.self.now c.self.view_is
