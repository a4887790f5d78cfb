use Rattle.std.proofs.Common.{◌∙◌, arith, sym, ap, subst, List, Some}
use Rattle.std.specs.Prelude.{option_map}
use Rattle.php_array.specs.Index.{IsIndexed}
use Rattle.php_array.specs.Kept.{IsRepacked}
use Rattle.php_array.specs.Slots.{entries_in, AreHoles}
use Rattle.php_array.specs.Slot.{Slot}
use Rattle.php_entries.specs.Soundness.{AreKeysDistinct}
use Rattle.php_array.proofs.KeptLemmas.{entry_at-missing, value_at-missing, value_at-place, is_some-place, remove_key-missing, removed-distinct, removed-indexed, removed-front, removed-count, removed-kept, removed-after}
use Rattle.php_array.proofs.entries.Entries.remove.Goals as goal

pub returns-in_default-clause-value : goal.returns-in_default-clause-value
returns-in_default-clause-value g c =
    let i = c.self.inside in
    sym (value_at-missing c.args.self.now i.slots.items i.next_key i.next_serial c.self.view_is c.args.key.now (sym c.find_live.ensures ∙ c.in_default.is))

pub returns-in_default-clause-after : goal.returns-in_default-clause-after
returns-in_default-clause-after g c =
    let i = c.self.inside in
    remove_key-missing c.args.self.now c.args.key.now (entry_at-missing c.args.self.now i.slots.items i.next_key i.next_serial c.self.view_is c.args.key.now (sym c.find_live.ensures ∙ c.in_default.is))

pub vacate-value-requires : goal.vacate-value-requires
vacate-value-requires g c = is_some-place c.args.key.now c.self.inside.slots.items c.in-Some.place (sym c.in-Some.ensures)

pub overflow_sub-self : goal.overflow_sub-self
overflow_sub-self g c =
    let i = c.self.inside in
    let some = removed-count i.index c.forget.new.self i.slots.items i.first i.count i.next_key i.next_serial c.self.invariant c.args.key.now c.in-Some.place (sym c.in-Some.ensures) c.forget.ensures in
    omega arith

pub settle-self-inside-requires-clause-distinct : goal.settle-self-inside-requires-clause-distinct
settle-self-inside-requires-clause-distinct g c =
    let i = c.self.inside in
    subst (λ (ss : List (Slot _)). AreKeysDistinct (entries_in ss)) (sym c.vacate-value.ensures.after)
    (removed-distinct i.index c.forget.new.self i.slots.items i.first i.count i.next_key i.next_serial c.self.invariant c.args.key.now c.in-Some.place (sym c.in-Some.ensures) c.forget.ensures)

pub settle-self-inside-requires-clause-indexed : goal.settle-self-inside-requires-clause-indexed
settle-self-inside-requires-clause-indexed g c =
    let i = c.self.inside in
    subst (λ (ss : List (Slot _)). IsIndexed c.forget.new.self ss) (sym c.vacate-value.ensures.after)
    (removed-indexed i.index c.forget.new.self i.slots.items i.first i.count i.next_key i.next_serial c.self.invariant c.args.key.now c.in-Some.place (sym c.in-Some.ensures) c.forget.ensures)

pub settle-self-inside-requires-clause-holes : goal.settle-self-inside-requires-clause-holes
settle-self-inside-requires-clause-holes g c =
    let i = c.self.inside in
    subst (λ (ss : List (Slot _)). AreHoles i.first ss) (sym c.vacate-value.ensures.after)
    (removed-front i.index c.forget.new.self i.slots.items i.first i.count i.next_key i.next_serial c.self.invariant c.args.key.now c.in-Some.place (sym c.in-Some.ensures) c.forget.ensures)

pub invariant_of-self : goal.invariant_of-self
invariant_of-self g c =
    let i = c.self.inside in
    removed-kept i.index c.forget.new.self i.slots.items i.first i.count i.next_key i.next_serial c.self.invariant c.args.key.now c.in-Some.place (sym c.in-Some.ensures) c.forget.ensures
    c.settle-self-inside.new.slots.items c.settle-self-inside.new.index c.settle-self-inside.result
    (subst (λ (ss : List (Slot _)). IsRepacked ss c.settle-self-inside.new.slots.items c.settle-self-inside.new.index c.settle-self-inside.result) c.vacate-value.ensures.after c.settle-self-inside.ensures)

pub returns-clause-value : goal.returns-clause-value
returns-clause-value g c =
    let i = c.self.inside in
    sym (value_at-place c.args.self.now i.slots.items i.next_key i.next_serial c.self.view_is c.args.key.now c.in-Some.place c.vacate-value.result (sym c.in-Some.ensures) c.vacate-value.ensures.value)

pub returns-clause-after : goal.returns-clause-after
returns-clause-after g c =
    let i = c.self.inside in
    removed-after i.index c.forget.new.self i.slots.items i.first i.count i.next_key i.next_serial c.self.invariant c.args.key.now c.in-Some.place (sym c.in-Some.ensures) c.forget.ensures
    c.settle-self-inside.new.slots.items c.settle-self-inside.new.index c.settle-self-inside.result
    (subst (λ (ss : List (Slot _)). IsRepacked ss c.settle-self-inside.new.slots.items c.settle-self-inside.new.index c.settle-self-inside.result) c.vacate-value.ensures.after c.settle-self-inside.ensures)
    c.args.self.now c.self.view_is
