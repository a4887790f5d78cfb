use Rattle.std.proofs.Common.{ℕ, ◌-◌, ◌^◌, ◌<◌, sym, ◌∙◌, ap, subst, rules, arith, List}
use Rattle.php_entries.specs.Listing.{Entry}
use Rattle.php_memdef.specs.declared.place.Place.{Place}
use Rattle.php_memdef.specs.Contents.{Property, object_of}
use Rattle.php_memdef.specs.Views.{found}
use Rattle.php_compare.specs.Ordering.{order_nested, order_of_pairs, element_pairs, property_pairs}
use Rattle.php_compare.specs.Places.{content_there}
use Rattle.php_glance.specs.declared.glance.Glance.{Glance}
use Rattle.php_glance.specs.Glances.{Tells}
use Rattle.php_lib.specs.Comparing.{under}
use Rattle.php_lib.proofs.PlaceLemmas.{can_go_on, key_of_later, objects_can}
use Rattle.php_lib.proofs.ObjectLemmas.{can_look_at, no_more_properties, property_decides, property_stops, property_same}
use Rattle.php_lib.proofs.OutcomeLemmas.{comes_along, residual, too_deep, level_below}
use Rattle.php_lib.proofs.ElementLemmas.{all_later, over_at, element_decides, element_stops, element_same}
use Rattle.php_lib.proofs.ordering.+ordering.Goals as goal

pub order_by_glance-order_of_objects-requires : goal.order_by_glance-order_of_objects-requires
order_by_glance-order_of_objects-requires g t c κs within = (
  search rules,
  (
    within,
    objects_can (g.M.Memory.means c.args.memory.now) c.args.a.now c.args.b.now c.in-Objects.g.0 c.in-Objects.h.0 c.requires.can
        (λ m k. let are = subst (λ (x : Glance). Tells (order_nested m c.args.levels) m (content_there m c.args.a.now) (content_there m c.args.b.now) x) c.in-Objects.is (c.requires.tells m k) in (are.0, are.1)),
  ),
)

pub order_of_elements-loop-next-init : goal.order_of_elements-loop-next-init
order_of_elements-loop-next-init g t c = record {
  left_back = c.in_ok-left.ensures;
  right_back = c.in_ok-right.ensures;
  left_over = λ m k sound x y e f. ap (λ (es : List (Entry ℕ)). order_of_pairs (order_nested m c.args.levels) m (element_pairs es y)) (sym (all_later m c.args.a.now x sound e));
}

pub order_of_elements-order_of_places-requires : goal.order_of_elements-order_of_places-requires
order_of_elements-order_of_places-requires g t c κs within = (
  search rules,
  (
    within,
    can_go_on (g.M.Memory.means c.args.memory.now) c.args.a.now c.args.b.now c.step_to.new.place c.step_to-in-Some.new.place c.loop-next.serial c.in-Some.next c.in-Some.key.now c.requires
        (λ m k. sym (c.in-Some.ensures m k))
        (c.in_ok-step_to.ensures ∙ ap (λ (p : Place). under p c.in-Some.key.now) c.loop-next.invariant.left_back)
        (c.in_ok-step_to-2.ensures ∙ ap (λ (p : Place). under p c.in-Some.key.now) c.loop-next.invariant.right_back),
  ),
)

pub order_of_elements-returns-in_err-order : goal.order_of_elements-returns-in_err-order
order_of_elements-returns-in_err-order g t c = λ m k sound x y e f.
    rw (residual c.from_residual-in_err-order.result c.in_err-order.field-0.0 c.from_residual-in_err-order.ensures)
    (element_stops m c.args.levels c.args.a.now c.args.b.now x y c.loop-next.serial c.in-Some.next c.in-Some.key.now sound e f (c.in-Some.ensures m k) c.loop-next.left c.loop-next.right c.step_to.new.place c.step_to-in-Some.new.place c.loop-next.invariant.left_back c.loop-next.invariant.right_back c.in_ok-step_to.ensures c.in_ok-step_to-2.ensures (c.loop-next.invariant.left_over m k sound x y e f) c.in_err-order.field-0.0 (c.in_err-order.ensures m k sound))

pub order_of_elements-returns-then-not-is_same : goal.order_of_elements-returns-then-not-is_same
order_of_elements-returns-then-not-is_same g t c = λ m k sound x y e f.
    element_decides m c.args.levels c.args.a.now c.args.b.now x y c.loop-next.serial c.in-Some.next c.in-Some.key.now sound e f (c.in-Some.ensures m k) c.loop-next.left c.loop-next.right c.step_to.new.place c.step_to-in-Some.new.place c.loop-next.invariant.left_back c.loop-next.invariant.right_back c.in_ok-step_to.ensures c.in_ok-step_to-2.ensures (c.loop-next.invariant.left_over m k sound x y e f) c.in_ok-order.order (c.in_ok-order.ensures m k sound) (sym c.is_same.ensures ∙ c.if-not-is_same.true)

pub order_of_elements-loop-next-smaller : goal.order_of_elements-loop-next-smaller
order_of_elements-loop-next-smaller g t c =
    let found = key_of_later c.requires.0 c.args.a.now c.loop-next.serial c.in-Some.next c.in-Some.key.now c.requires.2.sound (sym (c.in-Some.ensures c.requires.0 c.requires.1)) in
    let above : c.loop-next.serial < c.in-Some.next = found.1 in
    let below : c.in-Some.next < 2 ^ 64 = found.2 in
    omega (arith, above, below)

pub order_of_elements-loop-next-preserved : goal.order_of_elements-loop-next-preserved
order_of_elements-loop-next-preserved g t c = record {
  left_back = c.step_back.ensures c.args.a.now c.in-Some.key.now (c.in_ok-step_to.ensures ∙ ap (λ (p : Place). under p c.in-Some.key.now) c.loop-next.invariant.left_back);
  right_back = c.step_back-in-Some.ensures c.args.b.now c.in-Some.key.now (c.in_ok-step_to-2.ensures ∙ ap (λ (p : Place). under p c.in-Some.key.now) c.loop-next.invariant.right_back);
  left_over = λ m k sound x y e f.
      element_same m c.args.levels c.args.a.now c.args.b.now x y c.loop-next.serial c.in-Some.next c.in-Some.key.now sound e f (c.in-Some.ensures m k) c.loop-next.left c.loop-next.right c.step_to.new.place c.step_to-in-Some.new.place c.loop-next.invariant.left_back c.loop-next.invariant.right_back c.in_ok-step_to.ensures c.in_ok-step_to-2.ensures (c.loop-next.invariant.left_over m k sound x y e f) c.in_ok-order.order (c.in_ok-order.ensures m k sound) (sym c.is_same.ensures ∙ c.if-not-is_same.false);
}

pub order_of_elements-returns : goal.order_of_elements-returns
order_of_elements-returns g t c = λ m k sound x y e f.
    sym (c.loop-next.invariant.left_over m k sound x y e f ∙ ap (λ (es : List (Entry ℕ)). order_of_pairs (order_nested m c.args.levels) m (element_pairs es y)) (over_at m c.args.a.now x c.loop-next.serial e (c.in_default.ensures m k)))

pub order_of_places-returns-then-levels-eq0 : goal.order_of_places-returns-then-levels-eq0
order_of_places-returns-then-levels-eq0 g t c = λ m k sound.
    too_deep m c.args.levels (found m c.args.a.now) (found m c.args.b.now) _ c.if-levels-eq0.true (c.is_missing.ensures.there c.if-is_missing.false (found m c.args.b.now) (c.peek-right.ensures m k))

pub order_of_places-order_by_glance-requires : goal.order_of_places-order_by_glance-requires
order_of_places-order_by_glance-requires g t c κs within = (
  search rules,
  (
    within,
    (
      c.requires,
      λ m k.
          c.at_a_glance.ensures (order_nested m (c.args.levels - 1)) m (found m c.args.a.now) (found m c.args.b.now) (c.peek-left.ensures m k) (c.peek-right.ensures m k),
    ),
  ),
)

pub order_of_places-returns : goal.order_of_places-returns
order_of_places-returns g t c = λ m k sound.
    comes_along c.order_by_glance.result _ _ (c.order_by_glance.ensures.value m k sound) (level_below m c.args.levels (found m c.args.a.now) (found m c.args.b.now) (omega arith) (c.is_missing.ensures.there c.if-is_missing.false (found m c.args.b.now) (c.peek-right.ensures m k)))

pub order_of_properties-returns-in_default : goal.order_of_properties-returns-in_default
order_of_properties-returns-in_default g t c = λ m k sound.
    sym (c.loop-place.invariant m k sound ∙ ap (λ (ps : List Property). order_of_pairs (order_nested m c.args.levels) m (property_pairs ps (object_of m c.args.h.0).properties)) (no_more_properties (object_of m c.args.g.0).properties c.loop-place.place (sym (c.in_default.ensures m k))))

pub order_of_properties-order_of_places-requires : goal.order_of_properties-order_of_places-requires
order_of_properties-order_of_places-requires g t c κs within = (search rules, (within, can_look_at (g.M.Memory.means c.args.memory.now) c.args.g c.args.h c.loop-place.place c.in-Some.name.now c.in_ok-left.left c.in_ok-right.right c.requires c.in-Some.ensures c.in_ok-left.ensures c.in_ok-right.ensures))

pub order_of_properties-returns-in_err-order : goal.order_of_properties-returns-in_err-order
order_of_properties-returns-in_err-order g t c = λ m k sound.
    rw (residual c.from_residual-in_err-order.result c.in_err-order.field-0.0 c.from_residual-in_err-order.ensures)
    (property_stops m c.args.levels c.args.g c.args.h c.loop-place.place c.in-Some.name.now sound (c.in-Some.ensures m k) c.in_ok-left.left c.in_ok-right.right c.in_ok-left.ensures c.in_ok-right.ensures (c.loop-place.invariant m k sound) c.in_err-order.field-0.0 (c.in_err-order.ensures m k sound))

pub order_of_properties-returns-then-not-is_same : goal.order_of_properties-returns-then-not-is_same
order_of_properties-returns-then-not-is_same g t c = λ m k sound.
    property_decides m c.args.levels c.args.g c.args.h c.loop-place.place c.in-Some.name.now sound (c.in-Some.ensures m k) c.in_ok-left.left c.in_ok-right.right c.in_ok-left.ensures c.in_ok-right.ensures (c.loop-place.invariant m k sound) c.in_ok-order.order (c.in_ok-order.ensures m k sound) (sym c.is_same.ensures ∙ c.if-not-is_same.true)

pub order_of_properties-loop-place-preserved : goal.order_of_properties-loop-place-preserved
order_of_properties-loop-place-preserved g t c = λ m k sound.
    property_same m c.args.levels c.args.g c.args.h c.loop-place.place c.in-Some.name.now sound (c.in-Some.ensures m k) c.in_ok-left.left c.in_ok-right.right c.in_ok-left.ensures c.in_ok-right.ensures (c.loop-place.invariant m k sound) c.in_ok-order.order (c.in_ok-order.ensures m k sound) (sym c.is_same.ensures ∙ c.if-not-is_same.false)
