-- A text is joined on top before it is assigned: the memory in between.
use Rattle.std.proofs.Common.{◌≡◌, ℕ, zero, suc, ◌<◌, List, [], ◌∷◌, ◌++◌, length, refl, sym, ◌∙◌, ap, arith, inl, inr}
use Rattle.std.specs.Prelude.{Option, Some, None, unwrap_or}
use Rattle.std.proofs.lemmas.Bool.Decides.{eqb_tells}
use Rattle.php_memdef.specs.declared.place.Base.{Base}
use Rattle.php_memdef.specs.declared.place.Base.TheVariants.{Var, Property as OfObject, Static, Temp}
use Rattle.php_memdef.specs.declared.place.Place.{Place}
use Rattle.php_entries.specs.Listing.{Listing}
use Rattle.php_memdef.specs.declared.place.Step.{Step}
use Rattle.php_memdef.specs.declared.answer.Wrote.TheVariants.{Done}
use Rattle.php_memdef.specs.Numbered.{numbered}
use Rattle.php_memdef.specs.Contents.{Content, null, truth, int, text, array, object, Item, value, link, Scope, Mem, no_scope, content_of, scope_of, object_of}
use Rattle.php_memdef.specs.Places.{Spot, stored, nth_item, content_if, content_at, variable_store, property_store, stored_if, temp_spot, base_spot, elements_of, step_store, step_store_if, next_spot, spot_along, find_place, reached, elements_to_write, element_to_write, step_in_elements, walk_step, walk_along, variable_to_write, property_to_write, static_to_write, temp_to_write, base_to_write, walk}
use Rattle.php_memdef.specs.Temporaries.{rest_of, top_of, top, with_top}
use Rattle.php_memdef.specs.Writes.{text_found, text_of_item, assigned, assign}
use Rattle.php_memdef.specs.Views.{content_if_found, found}
use Rattle.php_memdef.specs.Conditions.{IsBase, IsBelowTop, CanAssign, CanAppend}
use Rattle.php_memdef_laws.proofs.NumberedLemmas.{numbered-with_same, numbered-with_other, live-with}

some_or_none : {X : Type 0} {x : X} → None ≡ Some x → ⊥
some_or_none e = cc

same_spot : {x y : Spot} → Some x ≡ Some y → x ≡ y
same_spot e = cc

pub same_length : (is : List Item) (i j : Item) → nth_item is 0 ≡ Some i → length (j ∷ rest_of is) ≡ length is
same_length [] i j e = absurd (no e)
  where
    no : None ≡ Some i → ⊥
    no e = cc
same_length (x ∷ is) i j e = refl

pub first_on_top : (is : List Item) (i : Item) → nth_item is 0 ≡ Some i → top_of is ≡ i
first_on_top [] i e = absurd (no e)
  where
    no : None ≡ Some i → ⊥
    no e = cc
first_on_top (x ∷ is) i e = cc

module _ (m : Mem) (b : ℕ) (i j : Item) (e : nth_item (scope_of m b).temps 0 ≡ Some i) where
  scope_there : scope_of (with_top m b j) b ≡ record (scope_of m b) { temps = j ∷ rest_of (scope_of m b).temps }
  scope_there = ap (λ o. unwrap_or o no_scope) (numbered-with_same m.blocks b (Some (record (scope_of m b) { temps = j ∷ rest_of (scope_of m b).temps })))

  temps_kept : (c : ℕ) → length (scope_of (with_top m b j) c).temps ≡ length (scope_of m c).temps
  temps_kept c = elim (eqb_tells c b) [
    | inl d ↦ ap (λ k. length (scope_of (with_top m b j) k).temps) d.1 ∙ ap (λ (f : Scope). length f.temps) scope_there ∙ same_length (scope_of m b).temps i j e ∙ ap (λ k. length (scope_of m k).temps) (sym d.1)
    | inr d ↦ ap (λ o. length (unwrap_or o no_scope).temps) (numbered-with_other m.blocks b c (Some (record (scope_of m b) { temps = j ∷ rest_of (scope_of m b).temps })) d.1)
  ]

  base_kept : (base : Base) → IsBase m base → IsBase (with_top m b j) base
  base_kept (Var c k) h = live-with m.blocks b (record (scope_of m b) { temps = j ∷ rest_of (scope_of m b).temps }) c.0 h
  base_kept (OfObject k p) h = h
  base_kept (Static s) h = h
  base_kept (Temp c k) h = (
    live-with m.blocks b (record (scope_of m b) { temps = j ∷ rest_of (scope_of m b).temps }) c.0 h.0,
    let below : k < length (scope_of m c.0).temps = h.1 in omega (arith, below, temps_kept c.0),
  )

module _ (m : Mem) (b : ℕ) (p : Place) (can : CanAppend b p m) where
  pub joined_is : text_found (found m p) ++ text_of_item (top m b) ≡ can.before ++ can.behind
  joined_is = ap (λ o. text_found o ++ text_of_item (top m b)) can.there ∙ ap (λ i. can.before ++ text_of_item i) (first_on_top (scope_of m b).temps (value (text can.behind)) can.top)

  pub can_assign_joined : (bytes : List ℕ) → CanAssign b p (with_top m b (value (text bytes)))
  can_assign_joined bytes = record {
    block = live-with m.blocks b (record (scope_of m b) { temps = value (text bytes) ∷ rest_of (scope_of m b).temps }) b can.block;
    top = (text bytes, ap (λ (f : Scope). nth_item f.temps 0) (scope_there m b (value (text can.behind)) (value (text bytes)) can.top));
    place = (base_kept m b (value (text can.behind)) (value (text bytes)) can.top p.base can.place.0, can.place.1);
    below_top = can.below_top;
  }

-- where a place is found, the way of a write leads there and makes nothing

module _ (m : Mem) where
  base_found : (base : Base) (spot : Spot) → base_spot m base ≡ Some spot → base_to_write m base ≡ reached m spot
  base_found (Var b n) spot e = variable (variable_store (scope_of m b.0).variables n.0) e
    where
      variable : (o : Option ℕ) → stored_if o ≡ Some spot → variable_to_write o m b.0 n.0 ≡ reached m spot
      variable None e = absurd (some_or_none e)
      variable (Some s) e = ap (reached m) (same_spot e)
  base_found (OfObject h p) spot e = property (property_store (object_of m h.0).properties p) e
    where
      property : (o : Option ℕ) → stored_if o ≡ Some spot → property_to_write o m h.0 p ≡ reached m spot
      property None e = absurd (some_or_none e)
      property (Some s) e = ap (reached m) (same_spot e)
  base_found (Static i) spot e = of_static (numbered m.statics i.0) e
    where
      of_static : (o : Option ℕ) → stored_if o ≡ Some spot → static_to_write o m i.0 ≡ reached m spot
      of_static None e = absurd (some_or_none e)
      of_static (Some s) e = ap (reached m) (same_spot e)
  base_found (Temp b n) spot e = ap (λ o. temp_to_write o m b.0 n) e

  missing_stays : (path : List Step) (spot : Spot) → spot_along m None path ≡ Some spot → ⊥
  missing_stays [] spot e = some_or_none e
  missing_stays (step ∷ path) spot e = missing_stays path spot e

  -- what is found behind the store that a step leads to
  abbrev OnFrom : List Step → Spot → Type 0
  OnFrom path spot = (s : ℕ) → spot_along m (Some (stored s)) path ≡ Some spot → walk_along (reached m (stored s)) path ≡ reached m spot

  module _ (path : List Step) (from spot : Spot) (step : Step) (e : spot_along m (next_spot m (Some from) step) path ≡ Some spot) (go_on : OnFrom path spot) where
    step_on : (o : Option ℕ) (t : Listing ℕ) → elements_of (content_at m from) ≡ Some t → elements_to_write (content_at m from) ≡ Some t → step_store t step ≡ o → walk_along (walk_step (reached m from) step) path ≡ reached m spot
    step_on None t there writes none = absurd (missing_stays path spot (ap (λ x. spot_along m (stored_if x) path) (sym (ap (λ x. step_store_if x step) there ∙ none)) ∙ e))
    step_on (Some s) t there writes some =
        ap (λ w. walk_along w path) (ap (λ x. step_in_elements x m from step) writes ∙ ap (λ x. element_to_write x t m from step) some)
        ∙ go_on s (ap (λ x. spot_along m (stored_if x) path) (sym (ap (λ x. step_store_if x step) there ∙ some)) ∙ e)

    no_array : (c : Content) → content_at m from ≡ c → elements_of c ≡ None → walk_along (walk_step (reached m from) step) path ≡ reached m spot
    no_array c h none = absurd (missing_stays path spot (ap (λ x. spot_along m (stored_if (step_store_if x step)) path) (sym (ap elements_of h ∙ none)) ∙ e))

    step_found : (c : Content) → content_at m from ≡ c → walk_along (walk_step (reached m from) step) path ≡ reached m spot
    step_found null h = no_array null h refl
    step_found (truth b) h = no_array (truth b) h refl
    step_found (int i) h = no_array (int i) h refl
    step_found (text bytes) h = no_array (text bytes) h refl
    step_found (array t) h = step_on (step_store t step) t (ap elements_of h) (ap elements_to_write h) refl
    step_found (object k) h = no_array (object k) h refl

  along_found : (path : List Step) (from spot : Spot) → spot_along m (Some from) path ≡ Some spot → walk_along (reached m from) path ≡ reached m spot
  along_found [] from spot e = ap (reached m) (same_spot e)
  along_found (step ∷ path) from spot e = step_found path from spot step e (λ s. along_found path (stored s) spot) (content_at m from) refl

  walk_found : (base : Base) (path : List Step) (spot : Spot) → spot_along m (base_spot m base) path ≡ Some spot → walk m base path ≡ reached m spot
  unfolding walk
  walk_found base path spot e = from (base_spot m base) refl
    where
      from : (o : Option Spot) → base_spot m base ≡ o → walk_along (base_to_write m base) path ≡ reached m spot
      from None h = absurd (missing_stays path spot (ap (λ x. spot_along m x path) (sym h) ∙ e))
      from (Some first) h = ap (λ w. walk_along w path) (base_found base first h) ∙ along_found path first spot (ap (λ x. spot_along m x path) (sym h) ∙ e)

-- a place whose base isn't the top temporary is found whatever is on top

module _ (m : Mem) (b : ℕ) (j : Item) (some : (i : Item) × (nth_item (scope_of m b).temps 0 ≡ Some i)) where
  items_below : (is : List Item) (n : ℕ) → 0 < n → nth_item (j ∷ rest_of is) n ≡ nth_item is n
  items_below is zero h = absurd (omega (arith, h))
  items_below [] (suc n) h = refl
  items_below (i ∷ is) (suc n) h = refl

  temp_kept : (c n : ℕ) → (c ≡ b → 0 < n) → nth_item (scope_of (with_top m b j) c).temps n ≡ nth_item (scope_of m c).temps n
  temp_kept c n below = elim (eqb_tells c b) [
    | inl d ↦ ap (λ k. nth_item (scope_of (with_top m b j) k).temps n) d.1 ∙ ap (λ (f : Scope). nth_item f.temps n) (scope_there m b some.0 j some.1) ∙ items_below (scope_of m b).temps n (below d.1) ∙ ap (λ k. nth_item (scope_of m k).temps n) (sym d.1)
    | inr d ↦ ap (λ o. nth_item (unwrap_or o no_scope).temps n) (numbered-with_other m.blocks b c (Some (record (scope_of m b) { temps = j ∷ rest_of (scope_of m b).temps })) d.1)
  ]

  variables_kept : (c : ℕ) → (scope_of (with_top m b j) c).variables ≡ (scope_of m c).variables
  variables_kept c = elim (eqb_tells c b) [
    | inl d ↦ ap (λ k. (scope_of (with_top m b j) k).variables) d.1 ∙ ap (λ (f : Scope). f.variables) (scope_there m b some.0 j some.1) ∙ ap (λ k. (scope_of m k).variables) (sym d.1)
    | inr d ↦ ap (λ o. (unwrap_or o no_scope).variables) (numbered-with_other m.blocks b c (Some (record (scope_of m b) { temps = j ∷ rest_of (scope_of m b).temps })) d.1)
  ]

  base_same : (base : Base) → IsBelowTop b base → base_spot (with_top m b j) base ≡ base_spot m base
  base_same (Var c n) below = ap (λ vs. stored_if (variable_store vs n.0)) (variables_kept c.0)
  base_same (OfObject h p) below = refl
  base_same (Static i) below = refl
  base_same (Temp c n) below = ap (temp_spot c.0 n) (temp_kept c.0 n below)

  along_same : (o : Option ℕ) (path : List Step) → spot_along (with_top m b j) (stored_if o) path ≡ spot_along m (stored_if o) path
  along_same o [] = refl
  along_same None (step ∷ path) = along_same None path
  along_same (Some s) (step ∷ path) = along_same (step_store_if (elements_of (content_of m s)) step) path

  place_same : (base : Base) (path : List Step) → IsBelowTop b base → spot_along (with_top m b j) (base_spot m base) path ≡ spot_along m (base_spot m base) path
  place_same (Var c n) path below = along_same (variable_store (scope_of m c.0).variables n.0) path
  place_same (OfObject h p) path below = along_same (property_store (object_of m h.0).properties p) path
  place_same (Static i) path below = along_same (numbered m.statics i.0) path
  place_same (Temp c n) path below = standing_same (nth_item (scope_of m c.0).temps n) path
    where
      standing_same : (o : Option Item) (path : List Step) → spot_along (with_top m b j) (temp_spot c.0 n o) path ≡ spot_along m (temp_spot c.0 n o) path
      standing_same None path = along_same None path
      standing_same (Some (link s)) path = along_same (Some s) path
      standing_same (Some (value x)) [] = refl
      standing_same (Some (value x)) (step ∷ path) =
          ap (λ o. spot_along (with_top m b j) (stored_if (step_store_if (elements_of (content_if o)) step)) path) (temp_kept c.0 n below)
          ∙ along_same (step_store_if (elements_of (content_if (nth_item (scope_of m c.0).temps n))) step) path

module _ (m : Mem) (b : ℕ) (p : Place) (can : CanAppend b p m) where
  -- the assignment that an append is comes to its end
  pub append_is_done : (bytes : List ℕ) → (assign (with_top m b (value (text bytes))) b p).1 ≡ Done
  unfolding assign find_place
  append_is_done bytes = from (find_place m p) refl
    where
      n : Mem
      n = with_top m b (value (text bytes))

      from : (o : Option Spot) → find_place m p ≡ o → (assigned (walk n p.base p.path) n b).1 ≡ Done
      from None e = absurd (some_or_none (sym (ap (content_if_found m) e) ∙ can.there))
      from (Some spot) e =
          ap (λ w. (assigned w n b).1) (walk_found n p.base p.path spot
          (ap (λ o. spot_along n o p.path) (base_same m b (value (text bytes)) (value (text can.behind), can.top) p.base can.below_top)
          ∙ place_same m b (value (text bytes)) (value (text can.behind), can.top) p.base p.path can.below_top ∙ e))
