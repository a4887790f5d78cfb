-- What the end of a way says of the model's walk.
use Rattle.std.proofs.Common.{◌≡◌, ℕ, ◌≤◌, List, [], ◌∷◌, length, drop, refl, sym, ◌∙◌, ap}
use Rattle.std.specs.Prelude.{Option, Some, None, option_map}
use Rattle.std.proofs.lemmas.List.{at_drop_all}
use Rattle.php_memdef.specs.declared.place.Place.{Place}
use Rattle.php_memdef.specs.declared.place.Step.{Step}
use Rattle.php_memdef.specs.Contents.{Mem}
use Rattle.php_memdef.specs.Places.{Spot, base_spot, next_spot, reached, walk_along, walk}
use Rattle.php_memdef.specs.Views.{steps_along, spot_or, end_along}
use Rattle.php_memdef.specs.Sound.{IsClosed}
use Rattle.php_memdef.specs.Conditions.{IsBelowTop}
use Rattle.php_memplain_writes.specs.declared.way.Way.{Way}
use Rattle.php_memplain_places.specs.Spots.{spot_seen}
use Rattle.php_memplain_writes.specs.Ways.{WayIs}
use Rattle.php_memplain_writes.specs.Moving.{IsSpotBelow}
use Rattle.php_memplain_writes.specs.Reaching.{StopsAt, IsFound}
use Rattle.php_memplain_writes.proofs.WayLemmas.{none_some, no_end, base_reached, leads}
use Rattle.php_memplain_writes.proofs.SpotLemmas.{end_good, end_below}

-- a way from a spot has an end
some_end : (m : Mem) (path : List Step) (from : Spot) → end_along m (Some from) path ≡ None → ⊥
some_end m [] from e = none_some (sym e)
some_end m (step ∷ path) from e = never (end_along m (next_spot m (Some from) step) path) e
  where
    never : (o : Option Spot) → spot_or o (Some from) ≡ None → ⊥
    never None e = none_some (sym e)
    never (Some x) e = none_some (sym e)

-- the base of a way with an end is there
record HasBase (m : Mem) (p : Place) (last : Spot) : Type 0 where
  from : Spot
  base : base_spot m p.base ≡ Some from
  end : end_along m (Some from) p.path ≡ Some last

module _ (m : Mem) (p : Place) (w : Way) (is : WayIs w m p) where
  pub base_missing : None ≡ option_map spot_seen w.end → base_spot m p.base ≡ None
  base_missing e = by_base (base_spot m p.base) refl
    where
      by_base : (o : Option Spot) → base_spot m p.base ≡ o → o ≡ None
      by_base None f = refl
      by_base (Some from) f = absurd (some_end m p.path from (ap (λ o. end_along m o p.path) (sym f) ∙ sym is.end ∙ sym e))

  has_base : (last : Spot) → Some last ≡ option_map spot_seen w.end → HasBase m p last
  has_base last e = by_base (base_spot m p.base) refl
    where
      by_base : (o : Option Spot) → base_spot m p.base ≡ o → HasBase m p last
      by_base None f = absurd (none_some (sym (no_end m p.path) ∙ ap (λ o. end_along m o p.path) (sym f) ∙ sym is.end ∙ sym e))
      by_base (Some from) f = record { from = from; base = f; end = ap (λ o. end_along m o p.path) (sym f) ∙ sym is.end ∙ sym e }

  module _ (closed : IsClosed m) (last : Spot) (e : Some last ≡ option_map spot_seen w.end) where
    -- the write goes so far
    pub way_stops : StopsAt m p last w.steps
    unfolding walk
    way_stops =
        let b = has_base last e in
        let l = leads m p.path b.from last b.end in
        let steps : steps_along m (Some b.from) p.path ≡ w.steps = ap (λ o. steps_along m o p.path) (sym b.base) ∙ sym is.steps in
        record {
          goes = ap (λ x. walk_along x p.path) (base_reached m p.base b.from b.base) ∙ l.goes ∙ ap (λ n. walk_along (reached m last) (drop n p.path)) steps;
          stops = λ step later f. l.stops step later (ap (λ n. drop n p.path) steps ∙ f);
          there = end_good m closed p.base p.path last b.from b.base b.end;
        }

    pub way_below : (b : ℕ) → IsBelowTop b p.base → IsSpotBelow b last
    way_below b h = let f = has_base last e in end_below m b p.base p.path last f.from h f.base f.end

    -- the whole path is there
    pub way_found : length p.path ≤ w.steps → IsFound m p last
    way_found past =
        let s = way_stops in
        record {
          walks = s.goes ∙ at_drop_all (walk_along (reached m last)) p.path w.steps past;
          there = s.there;
          below = way_below;
        }
