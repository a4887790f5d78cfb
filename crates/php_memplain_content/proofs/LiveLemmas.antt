-- The store of a place that is found is there.
use Rattle.std.proofs.Common.{◌≡◌, ℕ, List, [], ◌∷◌, refl, sym, ◌∙◌, ap, subst}
use Rattle.std.specs.Prelude.{Option, Some, None}
use Rattle.php_memdef.specs.declared.place.Base.{Base}
use Rattle.php_memdef.specs.declared.place.Base.TheVariants.{Var, Property as OfObject, Static, Temp}
use Rattle.php_memdef.specs.declared.place.Step.{Step}
use Rattle.php_memdef.specs.declared.place.Place.{Place}
use Rattle.php_memdef.specs.Numbered.{numbered}
use Rattle.php_memdef.specs.Contents.{Content, null, truth, int, text, array, object, Item, value, link, Mem, scope_of, object_of}
use Rattle.php_memdef.specs.Holders.{stores_of_content, stores_of_items}
use Rattle.php_memdef.specs.Places.{Spot, stored, standing, nth_item, content_at, elements_of, variable_store, property_store, stored_if, temp_spot, base_spot, step_store_if, next_spot, spot_along, find_place}
use Rattle.php_memdef.specs.Sound.{Every, IsLive, IsClosed}
use Rattle.php_memdef_laws.proofs.Closed.Parts.{IfFound, variable-found, property-found, step-found, nth_link-found, variables-closed, object-closed, temps-closed, content_at-closed}
use Rattle.php_memplain_content.specs.Copies.{IsSpotThere}

none_some : {X : Type 0} {x : X} → None ≡ Some x → ⊥
none_some e = cc

same_some : {x y : Spot} → Some x ≡ Some y → x ≡ y
same_some e = cc

elements_found : (P : ℕ → Type 0) (c : Content) (step : Step) → Every P (stores_of_content c) → IfFound P (step_store_if (elements_of c) step)
elements_found P null step h = tt
elements_found P (truth b) step h = tt
elements_found P (int i) step h = tt
elements_found P (text bytes) step h = tt
elements_found P (array t) step h = step-found P t step h
elements_found P (object n) step h = tt

module _ (m : Mem) (closed : IsClosed m) where
  stored_there : (o : Option ℕ) → IfFound (IsLive m) o → (spot : Spot) → stored_if o ≡ Some spot → IsSpotThere m spot
  stored_there None h spot e = absurd (none_some e)
  stored_there (Some s) h spot e = subst (IsSpotThere m) (same_some e) h

  temp_there : (b k : ℕ) (i : Option Item) → nth_item (scope_of m b).temps k ≡ i → (spot : Spot) → temp_spot b k i ≡ Some spot → IsSpotThere m spot
  temp_there b k None e spot h = absurd (none_some h)
  temp_there b k (Some (value c)) e spot h = subst (IsSpotThere m) (same_some h) tt
  temp_there b k (Some (link s)) e spot h = subst (IsSpotThere m) (same_some h) (nth_link-found (IsLive m) (scope_of m b).temps k s (temps-closed m closed b) e)

  static_found : (i : ℕ) (o : Option ℕ) → numbered m.statics i ≡ o → IfFound (IsLive m) o
  static_found i None e = tt
  static_found i (Some s) e = closed.statics i s e

  base_there : (base : Base) (spot : Spot) → base_spot m base ≡ Some spot → IsSpotThere m spot
  base_there (Var b n) spot e = stored_there (variable_store (scope_of m b.0).variables n.0) (variable-found (IsLive m) (scope_of m b.0).variables n.0 (variables-closed m closed b.0)) spot e
  base_there (OfObject h p) spot e = stored_there (property_store (object_of m h.0).properties p) (property-found (IsLive m) (object_of m h.0).properties p (object-closed m closed h.0)) spot e
  base_there (Static i) spot e = stored_there (numbered m.statics i.0) (static_found i.0 (numbered m.statics i.0) refl) spot e
  base_there (Temp b n) spot e = temp_there b.0 n (nth_item (scope_of m b.0).temps n) refl spot e

  next_there : (from : Option Spot) (step : Step) (spot : Spot) → next_spot m from step ≡ Some spot → IsSpotThere m spot
  next_there None step spot e = absurd (none_some e)
  next_there (Some from) step spot e = stored_there (step_store_if (elements_of (content_at m from)) step) (elements_found (IsLive m) (content_at m from) step (content_at-closed m closed from)) spot e

  along_there : (from : Option Spot) → ((spot : Spot) → from ≡ Some spot → IsSpotThere m spot) → (path : List Step) (spot : Spot) → spot_along m from path ≡ Some spot → IsSpotThere m spot
  along_there from there [] spot e = there spot e
  along_there from there (step ∷ path) spot e = along_there (next_spot m from step) (next_there from step) path spot e

  pub found_there : (p : Place) (spot : Spot) → find_place m p ≡ Some spot → IsSpotThere m spot
  unfolding find_place
  found_there p spot e = along_there (base_spot m p.base) (base_there p.base) p.path spot e
