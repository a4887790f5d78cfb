use Rattle.std.proofs.Common.{◌≡◌, ℕ, sym, ◌∙◌, ap, subst, add-one, arith, None}
use Rattle.std.specs.Prelude.{not}
use Rattle.php_array.specs.Slots.{AreHoles, stored_at}
use Rattle.php_array.proofs.SlotLemmas.{AreHoles-more}
use Rattle.php_array.proofs.PlaceLemmas.{not_some}
use Rattle.php_array.proofs.places.skip_holes.Goals as goal

pub loop-place-preserved : goal.loop-place-preserved
loop-place-preserved g c =
    let ss = c.args.slots.now.items in
    let none : stored_at c.loop-place.place ss ≡ None = not_some (stored_at c.loop-place.place ss) (sym c.is_live.ensures ∙ c.if-not-is_live.true) in
    record {
      holes = subst (λ (n : ℕ). AreHoles n ss) (sym (add-one c.loop-place.place)) (AreHoles-more c.loop-place.place ss c.loop-place.invariant.holes none);
      within = omega arith;
    }
