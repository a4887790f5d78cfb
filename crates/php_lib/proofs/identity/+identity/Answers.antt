use Rattle.std.proofs.Common.{ℕ, ◌-◌, ◌^◌, ◌<◌, Ok, sym, ◌∙◌, ap, rules, arith, length}
use Rattle.php_entries.specs.Listing.{Entry}
use Rattle.php_memdef.specs.declared.place.Place.{Place}
use Rattle.php_memdef.specs.Views.{found}
use Rattle.php_compare.specs.Identity.{same_nested, same_entries}
use Rattle.php_compare.specs.Places.{content_there}
use Rattle.php_lib.specs.Comparing.{under}
use Rattle.php_lib.proofs.PlaceLemmas.{can_go_on, key_of_later}
use Rattle.php_lib.proofs.OutcomeLemmas.{comes_along, residual, identity_too_deep, one_level_of_identity}
use Rattle.php_lib.proofs.ElementLemmas.{all_later, other_key, as_many_left, value_differs, value_stops, value_same, none_to_match, none_left}
use Rattle.php_lib.proofs.identity.+identity.Goals as goal

pub same_elements-loop-next-init : goal.same_elements-loop-next-init
same_elements-loop-next-init g t c = record {
  left_back = c.in_ok-left.ensures;
  right_back = c.in_ok-right.ensures;
  left_over = λ m k sound x y e f. (let l = all_later m c.args.a.now x sound e in let r = all_later m c.args.b.now y sound f in sym (λ i. same_entries (same_nested m c.args.levels) m (l i) (r i)));
  as_many = λ m k sound x y e f many. ap (length {A = Entry ℕ}) (all_later m c.args.a.now x sound e) ∙ many ∙ sym (ap (length {A = Entry ℕ}) (all_later m c.args.b.now y sound f));
}

pub same_elements-returns-in_default-entry_after_near : goal.same_elements-returns-in_default-entry_after_near
same_elements-returns-in_default-entry_after_near g t c = λ m k sound x y e f many.
    absurd (none_to_match m c.args.a.now c.args.b.now x y c.loop-next.left_serial c.loop-next.right_serial c.in-Some.next c.in-Some.key.now sound e f (c.in-Some.ensures m k) (c.in_default-entry_after_near.ensures m k) (c.loop-next.invariant.as_many m k sound x y e f many))

pub same_elements-returns-then-not-is_same_key : goal.same_elements-returns-then-not-is_same_key
same_elements-returns-then-not-is_same_key g t c = λ m k sound x y e f many.
    other_key m c.args.levels c.args.a.now c.args.b.now x y c.loop-next.left_serial c.loop-next.right_serial c.in-Some.next c.in-Some-entry_after_near.right_next c.in-Some.key.now c.in-Some-entry_after_near.right_key.now sound e f (c.in-Some.ensures m k) (c.in-Some-entry_after_near.ensures m k) (sym c.is_same_key.ensures ∙ c.if-not-is_same_key.true) (c.loop-next.invariant.left_over m k sound x y e f)

pub same_elements-same_places-requires : goal.same_elements-same_places-requires
same_elements-same_places-requires g t c κs within = (
  search rules,
  (
    within,
    can_go_on (g.M.Memory.means c.args.memory.now) c.args.a.now c.args.b.now c.step_to.new.place c.step_to-in-Some.new.place c.loop-next.left_serial c.in-Some.next c.in-Some.key.now c.requires
        (λ m k. sym (c.in-Some.ensures m k))
        (c.in_ok-step_to.ensures ∙ ap (λ (p : Place). under p c.in-Some.key.now) c.loop-next.invariant.left_back)
        (c.in_ok-step_to-2.ensures ∙ ap (λ (p : Place). under p c.in-Some.key.now) c.loop-next.invariant.right_back),
  ),
)

pub same_elements-returns-in_err-is_same : goal.same_elements-returns-in_err-is_same
same_elements-returns-in_err-is_same g t c = λ m k sound x y e f many.
    rw (residual c.from_residual-in_err-is_same.result c.in_err-is_same.field-0.0 c.from_residual-in_err-is_same.ensures)
    (value_stops m c.args.levels c.args.a.now c.args.b.now x y c.loop-next.left_serial c.loop-next.right_serial c.in-Some.next c.in-Some-entry_after_near.right_next c.in-Some.key.now c.in-Some-entry_after_near.right_key.now sound e f (c.in-Some.ensures m k) (c.in-Some-entry_after_near.ensures m k) c.loop-next.left c.loop-next.right c.step_to.new.place c.step_to-in-Some.new.place c.loop-next.invariant.left_back c.loop-next.invariant.right_back c.in_ok-step_to.ensures c.in_ok-step_to-2.ensures (sym c.is_same_key.ensures ∙ c.if-not-is_same_key.false) (c.loop-next.invariant.left_over m k sound x y e f) c.in_err-is_same.field-0.0 (c.in_err-is_same.ensures m k sound))

pub same_elements-returns-then-not-is_same : goal.same_elements-returns-then-not-is_same
same_elements-returns-then-not-is_same g t c = λ m k sound x y e f many.
    value_differs m c.args.levels c.args.a.now c.args.b.now x y c.loop-next.left_serial c.loop-next.right_serial c.in-Some.next c.in-Some-entry_after_near.right_next c.in-Some.key.now c.in-Some-entry_after_near.right_key.now sound e f (c.in-Some.ensures m k) (c.in-Some-entry_after_near.ensures m k) c.loop-next.left c.loop-next.right c.step_to.new.place c.step_to-in-Some.new.place c.loop-next.invariant.left_back c.loop-next.invariant.right_back c.in_ok-step_to.ensures c.in_ok-step_to-2.ensures (sym c.is_same_key.ensures ∙ c.if-not-is_same_key.false) (c.loop-next.invariant.left_over m k sound x y e f) (ap Ok (sym c.if-not-is_same.true) ∙ c.in_ok-is_same.ensures m k sound)

pub same_elements-loop-next-smaller : goal.same_elements-loop-next-smaller
same_elements-loop-next-smaller g t c =
    let found = key_of_later c.requires.0 c.args.a.now c.loop-next.left_serial c.in-Some.next c.in-Some.key.now c.requires.2.sound (sym (c.in-Some.ensures c.requires.0 c.requires.1)) in
    let above : c.loop-next.left_serial < c.in-Some.next = found.1 in
    let below : c.in-Some.next < 2 ^ 64 = found.2 in
    omega (arith, above, below)

pub same_elements-loop-next-preserved : goal.same_elements-loop-next-preserved
same_elements-loop-next-preserved g t c = record {
  left_back = c.step_back.ensures c.args.a.now c.in-Some.key.now (c.in_ok-step_to.ensures ∙ ap (λ (p : Place). under p c.in-Some.key.now) c.loop-next.invariant.left_back);
  right_back = c.step_back-in-Some.ensures c.args.b.now c.in-Some.key.now (c.in_ok-step_to-2.ensures ∙ ap (λ (p : Place). under p c.in-Some.key.now) c.loop-next.invariant.right_back);
  left_over = λ m k sound x y e f.
      value_same m c.args.levels c.args.a.now c.args.b.now x y c.loop-next.left_serial c.loop-next.right_serial c.in-Some.next c.in-Some-entry_after_near.right_next c.in-Some.key.now c.in-Some-entry_after_near.right_key.now sound e f (c.in-Some.ensures m k) (c.in-Some-entry_after_near.ensures m k) c.loop-next.left c.loop-next.right c.step_to.new.place c.step_to-in-Some.new.place c.loop-next.invariant.left_back c.loop-next.invariant.right_back c.in_ok-step_to.ensures c.in_ok-step_to-2.ensures (sym c.is_same_key.ensures ∙ c.if-not-is_same_key.false) (c.loop-next.invariant.left_over m k sound x y e f) (ap Ok (sym c.if-not-is_same.false) ∙ c.in_ok-is_same.ensures m k sound);
  as_many = λ m k sound x y e f many.
      as_many_left m c.args.levels c.args.a.now c.args.b.now x y c.loop-next.left_serial c.loop-next.right_serial c.in-Some.next c.in-Some-entry_after_near.right_next c.in-Some.key.now c.in-Some-entry_after_near.right_key.now sound e f (c.in-Some.ensures m k) (c.in-Some-entry_after_near.ensures m k) (c.loop-next.invariant.as_many m k sound x y e f many);
}

pub same_elements-returns : goal.same_elements-returns
same_elements-returns g t c = λ m k sound x y e f many.
    none_left m c.args.levels c.args.a.now c.args.b.now x y c.loop-next.left_serial c.loop-next.right_serial e (c.in_default.ensures m k) (c.loop-next.invariant.as_many m k sound x y e f many) (c.loop-next.invariant.left_over m k sound x y e f)

pub same_places-returns-then-levels-eq0 : goal.same_places-returns-then-levels-eq0
same_places-returns-then-levels-eq0 g t c = λ m k sound. identity_too_deep m c.args.levels (content_there m c.args.a.now) (content_there m c.args.b.now) c.if-levels-eq0.true

pub same_places-same_by_glance-requires : goal.same_places-same_by_glance-requires
same_places-same_by_glance-requires g t c κs within = (
  search rules,
  (
    within,
    (
      c.requires,
      λ m k.
          c.identity_at_a_glance.ensures (same_nested m (c.args.levels - 1)) m (found m c.args.a.now) (found m c.args.b.now) (c.peek-left.ensures m k) (c.peek-right.ensures m k),
    ),
  ),
)

pub same_places-returns : goal.same_places-returns
same_places-returns g t c = λ m k sound.
    comes_along c.same_by_glance.result _ _ (c.same_by_glance.ensures.value m k sound) (sym (one_level_of_identity m c.args.levels (content_there m c.args.a.now) (content_there m c.args.b.now) (omega arith)))
