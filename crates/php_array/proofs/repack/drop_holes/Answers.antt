use Rattle.std.proofs.Common.{◌≡◌, ◌<◌, ◌≤◌, ◌+◌, ◌∙◌, length, sym, ap, subst, ℕ, arith}
use Rattle.php_array.specs.Slot.{SlotList}
use Rattle.php_array.proofs.PackLemmas.{IsPackedTo, packed-start, packed-live, packed-hole, packed-end}
use Rattle.php_array.proofs.repack.drop_holes.Goals as goal
use Rattle.php_array.proofs.repack.drop_holes.Goals.{then-is_live, else-is_live}

pub loop-place-init : goal.loop-place-init
loop-place-init g c = packed-start c.args.slots.now.items

pub loop-place-preserved : goal.loop-place-preserved
loop-place-preserved g c =
    let old = c.args.slots.now.items in
    let now = c.loop-place.slots.items in
    let kept = c.loop-place.kept in
    let place = c.loop-place.place in
    let within : place < length old = omega arith in
    elim c.if-is_live.branch [
      | then-is_live w ↦
          subst (λ (slots : SlotList _). IsPackedTo old slots.items c.if-is_live.kept (place + 1)) (sym w.slots-is)
          (subst (λ (n : ℕ). IsPackedTo old w.swap.new.self.items n (place + 1)) (sym w.kept-is)
          (packed-live old now kept place c.loop-place.invariant within w.swap.new.self.items (sym c.is_live.ensures ∙ w.if-is_live.true) w.swap.ensures))
      | else-is_live w ↦
          subst (λ (slots : SlotList _). IsPackedTo old slots.items c.if-is_live.kept (place + 1)) (sym w.slots-is)
          (subst (λ (n : ℕ). IsPackedTo old now n (place + 1)) (sym w.kept-is)
          (packed-hole old now kept place c.loop-place.invariant within (sym c.is_live.ensures ∙ w.if-is_live.false)))
    ]

pub returns : goal.returns
returns g c =
    let old = c.args.slots.now.items in
    let all : length old ≤ c.loop-place.place = omega arith in
    c.truncate.ensures ∙ packed-end old c.loop-place.slots.items c.loop-place.kept c.loop-place.place c.loop-place.invariant all
