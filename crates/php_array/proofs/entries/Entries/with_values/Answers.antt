use Rattle.std.proofs.Common.{rules, ◌≡◌, ◌∙◌, ◌≤◌, ◌+◌, ◌++◌, [], ◌∷◌, length, drop, arith, refl, sym, ap, subst, List}
use Rattle.std.specs.Prelude.{is_some}
use Rattle.php_value.specs.declared.key.Key.{Key}
use Rattle.php_entries.specs.Listing.{Entry, Listing}
use Rattle.php_entries.specs.Changes.{entries_with, with_values}
use Rattle.php_entries.specs.Soundness.{HasNoKey}
use Rattle.php_entries.proofs.ListLemmas.{find-HasNoKey}
use Rattle.php_array.specs.Kept.{listing_of}
use Rattle.php_array.specs.Answers.{shown_entry}
use Rattle.php_array.specs.Slots.{entries_in}
use Rattle.php_array.proofs.CopyLemmas.{drop-next, entries_with-push, length-entries_with, copied-absent, copied-kept, copied-after, length-drop_none, length-taken, push-taken, all-taken, rise-next, drop-push, entries_with-no_values}
use Rattle.php_array.proofs.RepackLemmas.{drop-entries}
use Rattle.php_array.proofs.entries.Entries.with_values.Goals as goal

pub loop-value-init : goal.loop-value-init
loop-value-init g c =
    let i = c.self.inside in
    let es = entries_in i.slots.items in
    let sound = c.self.invariant.sound in
    record {
      values = c.into_iter-value-iterator.ensures.into_iter_gives.0;
      rest = drop-entries c.self.inside.first c.self.inside.slots.items c.self.invariant.front;
      copied = ap (λ (m : Listing _). m.entries) c.new-copy.ensures ∙ entries_with-no_values es;
      last = (0, (ap (λ (m : Listing _). m.next_serial) c.new-copy.ensures, ((let some = sound.some_serial in omega arith), sound.serials_rise)));
    }

pub unreachable-requires : goal.unreachable-requires
unreachable-requires g c =
    let es = entries_in c.self.inside.slots.items in
    let left = length-taken c.loop-value.yielded c.loop-value.value-iterator.rest.items c.next.new.self.rest.items c.args.values.items c.in-Some.value c.loop-value.invariant.values c.in-Some.ensures.steps.0 in
    let all = length-drop_none (length c.loop-value.yielded) es (sym c.loop-value.invariant.rest ∙ c.in_default.ensures.none) in
    let same = ap (λ (m : Listing _). length m.entries) c.self.view_is in
    let ok = c.args.values.ok in
    omega arith

pub add-requires-clause-absent : goal.add-requires-clause-absent
add-requires-clause-absent g c =
    let es = entries_in c.self.inside.slots.items in
    let e = shown_entry c.in-Some-next_stored.entry in
    let is = sym c.loop-value.invariant.rest ∙ c.in-Some-next_stored.ensures.entries in
    let missing = copied-absent es c.loop-value.yielded e (entries_in (drop (c.in-Some-next_stored.at + 1) c.self.inside.slots.items)) c.self.invariant.sound.keys_distinct is in
    find-HasNoKey c.in_ok-key.key c.loop-value.copy.entries
    (subst (λ (xs : List (Entry _)). HasNoKey c.in_ok-key.key xs) (sym c.loop-value.invariant.copied)
    (subst (λ (k : Key). HasNoKey k (entries_with es c.loop-value.yielded)) (sym c.in_ok-key.ensures) missing))

pub add-requires-clause-room : goal.add-requires-clause-room
add-requires-clause-room g c =
    let es = entries_in c.self.inside.slots.items in
    let e = shown_entry c.in-Some-next_stored.entry in
    let is = sym c.loop-value.invariant.rest ∙ c.in-Some-next_stored.ensures.entries in
    let below = (drop-next (length c.loop-value.yielded) es e (entries_in (drop (c.in-Some-next_stored.at + 1) c.self.inside.slots.items)) is).1 in
    let few = c.self.invariant.sound.count_within in
    let copied = ap length c.loop-value.invariant.copied in
    let taken = length-entries_with es c.loop-value.yielded (omega arith) in
    omega arith

pub overflow_add-place : goal.overflow_add-place
overflow_add-place g c = let fits = c.in-Some-next_stored.ensures.fits in omega arith

pub loop-value-preserved : goal.loop-value-preserved
loop-value-preserved g c =
    let es = entries_in c.self.inside.slots.items in
    let e = shown_entry c.in-Some-next_stored.entry in
    let y = c.loop-value.yielded in
    let v = c.in-Some.value in
    let behind = entries_in (drop (c.in-Some-next_stored.at + 1) c.self.inside.slots.items) in
    let is = sym c.loop-value.invariant.rest ∙ c.in-Some-next_stored.ensures.entries in
    let before = c.loop-value.invariant.last in
    let next = rise-next before.0 c.self.inside.next_serial es y v e behind is before.1.1.1 in
    record {
      values = push-taken y c.loop-value.value-iterator.rest.items c.next.new.self.rest.items c.args.values.items v c.loop-value.invariant.values c.in-Some.ensures.steps.0;
      rest = drop-push es y v e behind is;
      copied =
          ap (λ (m : Listing _). m.entries) c.in-Ok.ensures.ok
          ∙ ap (λ (xs : List (Entry _)). xs ++ record { serial = e.serial; key = c.in_ok-key.key; value = v } ∷ []) c.loop-value.invariant.copied
          ∙ ap (λ (k : Key). entries_with es y ++ record { serial = e.serial; key = k; value = v } ∷ []) c.in_ok-key.ensures
          ∙ sym (entries_with-push es y v e behind is);
      last = (e.serial, (ap (λ (m : Listing _). m.next_serial) c.in-Ok.ensures.ok, next));
    }

pub invariant_of-copy : goal.invariant_of-copy
invariant_of-copy g c =
    let i = c.self.inside in
    let k = c.copy-2.inside in
    let l = listing_of i.slots.items i.next_key i.next_serial in
    let last = c.loop-value.invariant.last in
    let up : k.next_serial ≤ i.next_serial = (let serial = ap (λ (m : Listing _). m.next_serial) c.copy-2.view_is in let from = last.1.0 in let below = last.1.1.0 in omega arith) in
    copied-kept k.index k.slots.items k.first k.count k.next_key k.next_serial i.next_key i.next_serial l c.loop-value.yielded c.copy-2.invariant c.self.invariant.sound (ap (λ (m : Listing _). m.entries) c.copy-2.view_is ∙ c.loop-value.invariant.copied) up refl refl

pub returns-clause-ok : goal.returns-clause-ok
returns-clause-ok g c =
    let i = c.self.inside in
    let k = c.copy-2.inside in
    let l = listing_of i.slots.items i.next_key i.next_serial in
    let none : length c.loop-value.value-iterator.rest.items ≡ 0 = (let ok = c.loop-value.value-iterator.rest.ok in let len = c.in-None.ensures.steps.0 in omega arith) in
    let all = all-taken c.loop-value.yielded c.loop-value.value-iterator.rest.items c.args.values.items c.loop-value.invariant.values none in
    copied-after k.slots.items i.next_key i.next_serial l c.loop-value.yielded (ap (λ (m : Listing _). m.entries) c.copy-2.view_is ∙ c.loop-value.invariant.copied) refl refl
    ∙ ap (λ (m : Listing _). with_values m c.loop-value.yielded) c.self.view_is
    ∙ ap (with_values c.args.self.now) all
