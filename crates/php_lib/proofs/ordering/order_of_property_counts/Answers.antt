use Rattle.std.proofs.Common.{sym, ◌∙◌, arith}
use Rattle.php_memdef.specs.Contents.{object_of}
use Rattle.php_memdef.specs.Objects.{property_name}
use Rattle.php_lib.proofs.ObjectLemmas.{copied_is_some, left_has_none, right_has_none, there_is_one}
use Rattle.php_lib.proofs.ordering.order_of_property_counts.Goals as goal

pub returns-then-not-left : goal.returns-then-not-left
returns-then-not-left g c = λ m k.
    let left = copied_is_some c.prop_at.result (property_name m c.args.g.0 c.loop-place.place) c.is_some-left.result (c.prop_at.ensures m k) c.is_some-left.ensures in
    let right = copied_is_some c.prop_at-in-loop-place.result (property_name m c.args.h.0 c.loop-place.place) c.is_some-right.result (c.prop_at-in-loop-place.ensures m k) c.is_some-right.ensures in
    c.order_of_bools.ensures ∙ left_has_none (object_of m c.args.g.0).properties (object_of m c.args.h.0).properties c.loop-place.place c.is_some-right.result (c.loop-place.invariant m k).0 (c.loop-place.invariant m k).1 (sym left ∙ c.if-not-left.true) (sym right)

pub returns-then-not-right : goal.returns-then-not-right
returns-then-not-right g c = λ m k.
    let left = copied_is_some c.prop_at.result (property_name m c.args.g.0 c.loop-place.place) c.is_some-left.result (c.prop_at.ensures m k) c.is_some-left.ensures in
    let right = copied_is_some c.prop_at-in-loop-place.result (property_name m c.args.h.0 c.loop-place.place) c.is_some-right.result (c.prop_at-in-loop-place.ensures m k) c.is_some-right.ensures in
    right_has_none (object_of m c.args.g.0).properties (object_of m c.args.h.0).properties c.loop-place.place (c.loop-place.invariant m k).1 (sym left ∙ c.if-not-left.false) (sym right ∙ c.if-not-right.true)

pub loop-place-preserved : goal.loop-place-preserved
loop-place-preserved g c = λ m k.
    let left = copied_is_some c.prop_at.result (property_name m c.args.g.0 c.loop-place.place) c.is_some-left.result (c.prop_at.ensures m k) c.is_some-left.ensures in
    let right = copied_is_some c.prop_at-in-loop-place.result (property_name m c.args.h.0 c.loop-place.place) c.is_some-right.result (c.prop_at-in-loop-place.ensures m k) c.is_some-right.ensures in
    let one = there_is_one (object_of m c.args.g.0).properties c.loop-place.place (sym left ∙ c.if-not-left.false) in
    let other = there_is_one (object_of m c.args.h.0).properties c.loop-place.place (sym right ∙ c.if-not-right.false) in
    (omega (arith, one), omega (arith, other))
