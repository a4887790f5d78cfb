-- A text that grows at a place, against the assignment of both texts.
use Rattle.std.proofs.Common.{◌≡◌, ◌≢◌, ℕ, zero, suc, ◌<◌, List, [], ◌∷◌, ◌++◌, refl, sym, ◌∙◌, ap, subst, arith, inl, inr}
use Rattle.std.specs.Prelude.{Option, Some, None, unwrap_or}
use Rattle.std.proofs.lemmas.Bool.Decides.{eqb_tells}
use Rattle.php_memdef.specs.declared.place.Base.{Base}
use Rattle.php_memdef.specs.declared.place.Base.TheVariants.{Var, Property as OfObject, Static, Temp}
use Rattle.php_memdef.specs.declared.place.Place.{Place}
use Rattle.php_entries.specs.Listing.{Listing}
use Rattle.php_memdef.specs.declared.place.Step.{Step}
use Rattle.php_memdef.specs.Numbered.{Numbered, numbered, with_numbered}
use Rattle.php_memdef.specs.Contents.{Content, null, truth, int, text, array, object, Item, value, link, Scope, Mem, no_scope, content_of, scope_of, object_of}
use Rattle.php_memdef.specs.Holders.{times, stores_of_content, stores_of_item, handles_of_content}
use Rattle.php_memdef.specs.Places.{Spot, stored, standing, nth_item, with_nth_item, content_if, content_at, with_content, with_scope, variable_store, property_store, stored_if, temp_spot, base_spot, elements_of, step_store, step_store_if, next_spot, spot_along, find_place, reached, elements_to_write, element_to_write, step_in_elements, walk_step, walk_along, variable_to_write, property_to_write, static_to_write, temp_to_write, base_to_write, walk}
use Rattle.php_memdef.specs.Temporaries.{rest_of, top_of, top, with_top, popped, let_fall}
use Rattle.php_memdef.specs.Writes.{text_found, text_of_item, assigned, moved_in, assign, append}
use Rattle.php_memdef.specs.Views.{content_if_found, found}
use Rattle.php_memdef.specs.Conditions.{IsBelowTop, CanAppend}
use Rattle.php_memdef_laws.proofs.NumberedLemmas.{numbered-with_same, numbered-with_other}
use Rattle.php_memdef_laws.proofs.AppendLemmas.{first_on_top}
use Rattle.php_memdef_laws.proofs.Held.Parts.{handles_of_item, holders-popped, handles-popped}
use Rattle.php_memdef_laws.proofs.Held.Writes.{holders-with_content, handles-with_content}
use Rattle.php_memplain_cells.specs.declared.cells.Cells.{Cells}
use Rattle.php_memplain_cells.specs.Counts.{count_of_store, count_of_object}
use Rattle.php_memplain_cells.specs.Memory.{memory_seen, IsCounted}
use Rattle.php_memplain_cells.proofs.FallingLemmas.{scope_again, scope_twice, falling_same}
use Rattle.php_memplain_cells.proofs.MemoryLemmas.{counted_by}
use Rattle.php_memplain_changes.specs.Standing.{HasContent}
use Rattle.php_memplain_changes.specs.Taken.{Becomes}
use Rattle.php_memplain_changes.specs.Joined.{IsBelowTopOf, joined_at}
use Rattle.php_memplain_changes.proofs.SwapLemmas.{none_some, same_some}
use Rattle.php_memplain_changes.proofs.TakeLemmas.{real_of, put_same, changed_seen}

scope_on_top : (m : Mem) (b : ℕ) (j : Item) → scope_of (with_top m b j) b ≡ record (scope_of m b) { temps = j ∷ rest_of (scope_of m b).temps }
scope_on_top m b j = scope_again m b (record (scope_of m b) { temps = j ∷ rest_of (scope_of m b).temps })

-- where a place is found, the way of a write leads there and makes nothing

module _ (m : Mem) where
  base_found : (base : Base) (spot : Spot) → base_spot m base ≡ Some spot → base_to_write m base ≡ reached m spot
  base_found (Var b n) spot e = variable (variable_store (scope_of m b.0).variables n.0) e
    where
      variable : (o : Option ℕ) → stored_if o ≡ Some spot → variable_to_write o m b.0 n.0 ≡ reached m spot
      variable None e = absurd (none_some e)
      variable (Some s) e = ap (reached m) (same_some e)
  base_found (OfObject h p) spot e = property (property_store (object_of m h.0).properties p) e
    where
      property : (o : Option ℕ) → stored_if o ≡ Some spot → property_to_write o m h.0 p ≡ reached m spot
      property None e = absurd (none_some e)
      property (Some s) e = ap (reached m) (same_some e)
  base_found (Static i) spot e = of_static (numbered m.statics i.0) e
    where
      of_static : (o : Option ℕ) → stored_if o ≡ Some spot → static_to_write o m i.0 ≡ reached m spot
      of_static None e = absurd (none_some e)
      of_static (Some s) e = ap (reached m) (same_some e)
  base_found (Temp b n) spot e = ap (λ o. temp_to_write o m b.0 n) e

  missing_stays : (path : List Step) (spot : Spot) → spot_along m None path ≡ Some spot → ⊥
  missing_stays [] spot e = none_some e
  missing_stays (step ∷ path) spot e = missing_stays path spot e

  -- what is found behind the store that a step leads to
  abbrev OnFrom : List Step → Spot → Type 0
  OnFrom path spot = (s : ℕ) → spot_along m (Some (stored s)) path ≡ Some spot → walk_along (reached m (stored s)) path ≡ reached m spot

  module _ (path : List Step) (from spot : Spot) (step : Step) (e : spot_along m (next_spot m (Some from) step) path ≡ Some spot) (go_on : OnFrom path spot) where
    step_on : (o : Option ℕ) (t : Listing ℕ) → elements_of (content_at m from) ≡ Some t → elements_to_write (content_at m from) ≡ Some t → step_store t step ≡ o → walk_along (walk_step (reached m from) step) path ≡ reached m spot
    step_on None t there writes none = absurd (missing_stays path spot (ap (λ x. spot_along m (stored_if x) path) (sym (ap (λ x. step_store_if x step) there ∙ none)) ∙ e))
    step_on (Some s) t there writes some =
        ap (λ w. walk_along w path) (ap (λ x. step_in_elements x m from step) writes ∙ ap (λ x. element_to_write x t m from step) some)
        ∙ go_on s (ap (λ x. spot_along m (stored_if x) path) (sym (ap (λ x. step_store_if x step) there ∙ some)) ∙ e)

    no_array : (c : Content) → content_at m from ≡ c → elements_of c ≡ None → walk_along (walk_step (reached m from) step) path ≡ reached m spot
    no_array c h none = absurd (missing_stays path spot (ap (λ x. spot_along m (stored_if (step_store_if x step)) path) (sym (ap elements_of h ∙ none)) ∙ e))

    step_found : (c : Content) → content_at m from ≡ c → walk_along (walk_step (reached m from) step) path ≡ reached m spot
    step_found null h = no_array null h refl
    step_found (truth b) h = no_array (truth b) h refl
    step_found (int i) h = no_array (int i) h refl
    step_found (text bytes) h = no_array (text bytes) h refl
    step_found (array t) h = step_on (step_store t step) t (ap elements_of h) (ap elements_to_write h) refl
    step_found (object k) h = no_array (object k) h refl

  along_found : (path : List Step) (from spot : Spot) → spot_along m (Some from) path ≡ Some spot → walk_along (reached m from) path ≡ reached m spot
  along_found [] from spot e = ap (reached m) (same_some e)
  along_found (step ∷ path) from spot e = step_found path from spot step e (λ s. along_found path (stored s) spot) (content_at m from) refl

  walk_found : (base : Base) (path : List Step) (spot : Spot) → spot_along m (base_spot m base) path ≡ Some spot → walk m base path ≡ reached m spot
  unfolding walk
  walk_found base path spot e = from (base_spot m base) refl
    where
      from : (o : Option Spot) → base_spot m base ≡ o → walk_along (base_to_write m base) path ≡ reached m spot
      from None h = absurd (missing_stays path spot (ap (λ x. spot_along m x path) (sym h) ∙ e))
      from (Some first) h = ap (λ w. walk_along w path) (base_found base first h) ∙ along_found path first spot (ap (λ x. spot_along m x path) (sym h) ∙ e)

-- a place whose base isn't the top temporary is found whatever is on top

module _ (m : Mem) (b : ℕ) (j : Item) where
  items_below : (is : List Item) (n : ℕ) → 0 < n → nth_item (j ∷ rest_of is) n ≡ nth_item is n
  items_below is zero h = absurd (omega (arith, h))
  items_below [] (suc n) h = refl
  items_below (i ∷ is) (suc n) h = refl

  temp_kept : (c n : ℕ) → (c ≡ b → 0 < n) → nth_item (scope_of (with_top m b j) c).temps n ≡ nth_item (scope_of m c).temps n
  temp_kept c n below = elim (eqb_tells c b) [
    | inl d ↦ ap (λ k. nth_item (scope_of (with_top m b j) k).temps n) d.1 ∙ ap (λ (f : Scope). nth_item f.temps n) (scope_on_top m b j) ∙ items_below (scope_of m b).temps n (below d.1) ∙ ap (λ k. nth_item (scope_of m k).temps n) (sym d.1)
    | inr d ↦ ap (λ o. nth_item (unwrap_or o no_scope).temps n) (numbered-with_other m.blocks b c (Some (record (scope_of m b) { temps = j ∷ rest_of (scope_of m b).temps })) d.1)
  ]

  variables_kept : (c : ℕ) → (scope_of (with_top m b j) c).variables ≡ (scope_of m c).variables
  variables_kept c = elim (eqb_tells c b) [
    | inl d ↦ ap (λ k. (scope_of (with_top m b j) k).variables) d.1 ∙ ap (λ (f : Scope). f.variables) (scope_on_top m b j) ∙ ap (λ k. (scope_of m k).variables) (sym d.1)
    | inr d ↦ ap (λ o. (unwrap_or o no_scope).variables) (numbered-with_other m.blocks b c (Some (record (scope_of m b) { temps = j ∷ rest_of (scope_of m b).temps })) d.1)
  ]

  base_same : (base : Base) → IsBelowTop b base → base_spot (with_top m b j) base ≡ base_spot m base
  base_same (Var c n) below = ap (λ vs. stored_if (variable_store vs n.0)) (variables_kept c.0)
  base_same (OfObject h p) below = refl
  base_same (Static i) below = refl
  base_same (Temp c n) below = ap (temp_spot c.0 n) (temp_kept c.0 n below)

  along_same : (o : Option ℕ) (path : List Step) → spot_along (with_top m b j) (stored_if o) path ≡ spot_along m (stored_if o) path
  along_same o [] = refl
  along_same None (step ∷ path) = along_same None path
  along_same (Some s) (step ∷ path) = along_same (step_store_if (elements_of (content_of m s)) step) path

  place_same : (base : Base) (path : List Step) → IsBelowTop b base → spot_along (with_top m b j) (base_spot m base) path ≡ spot_along m (base_spot m base) path
  place_same (Var c n) path below = along_same (variable_store (scope_of m c.0).variables n.0) path
  place_same (OfObject h p) path below = along_same (property_store (object_of m h.0).properties p) path
  place_same (Static i) path below = along_same (numbered m.statics i.0) path
  place_same (Temp c n) path below = standing_same (nth_item (scope_of m c.0).temps n) path
    where
      standing_same : (o : Option Item) (path : List Step) → spot_along (with_top m b j) (temp_spot c.0 n o) path ≡ spot_along m (temp_spot c.0 n o) path
      standing_same None path = along_same None path
      standing_same (Some (link s)) path = along_same (Some s) path
      standing_same (Some (value x)) [] = refl
      standing_same (Some (value x)) (step ∷ path) =
          ap (λ o. spot_along (with_top m b j) (stored_if (step_store_if (elements_of (content_if o)) step)) path) (temp_kept c.0 n below)
          ∙ along_same (step_store_if (elements_of (content_if (nth_item (scope_of m c.0).temps n))) step) path

-- the spot isn't the top temporary of the block

stored_below : (b : ℕ) (o : Option ℕ) (spot : Spot) → stored_if o ≡ Some spot → IsBelowTopOf b spot
stored_below b None spot e = absurd (none_some e)
stored_below b (Some s) spot e = subst (IsBelowTopOf b) (same_some e) tt

temp_below : (b c k : ℕ) (i : Option Item) → (c ≡ b → 0 < k) → (spot : Spot) → temp_spot c k i ≡ Some spot → IsBelowTopOf b spot
temp_below b c k None h spot e = absurd (none_some e)
temp_below b c k (Some (value d)) h spot e = subst (IsBelowTopOf b) (same_some e) h
temp_below b c k (Some (link s)) h spot e = subst (IsBelowTopOf b) (same_some e) tt

module _ (m : Mem) (b : ℕ) where
  base_below : (base : Base) → IsBelowTop b base → (spot : Spot) → base_spot m base ≡ Some spot → IsBelowTopOf b spot
  base_below (Var c n) h spot e = stored_below b (variable_store (scope_of m c.0).variables n.0) spot e
  base_below (OfObject k p) h spot e = stored_below b (property_store (object_of m k.0).properties p) spot e
  base_below (Static i) h spot e = stored_below b (numbered m.statics i.0) spot e
  base_below (Temp c n) h spot e = temp_below b c.0 n (nth_item (scope_of m c.0).temps n) h spot e

  next_below : (from : Option Spot) (step : Step) (spot : Spot) → next_spot m from step ≡ Some spot → IsBelowTopOf b spot
  next_below None step spot e = absurd (none_some e)
  next_below (Some from) step spot e = stored_below b (step_store_if (elements_of (content_at m from)) step) spot e

  along_below : (from : Option Spot) → ((spot : Spot) → from ≡ Some spot → IsBelowTopOf b spot) → (path : List Step) (spot : Spot) → spot_along m from path ≡ Some spot → IsBelowTopOf b spot
  along_below from there [] spot e = there spot e
  along_below from there (step ∷ path) spot e = along_below (next_spot m from step) (next_below from step) path spot e

  pub found_below : (p : Place) → IsBelowTop b p.base → (spot : Spot) → find_place m p ≡ Some spot → IsBelowTopOf b spot
  unfolding find_place
  found_below p h spot e = along_below (base_spot m p.base) (base_below p.base h) p.path spot e

-- changes under two numbers
with_either : {X : Type 0} (xs : Numbered X) (b c : ℕ) (x y : Option X) → c ≢ b → with_numbered (with_numbered xs b x) c y ≡ with_numbered (with_numbered xs c y) b x
with_either [] zero zero x y ne = absurd (ne refl)
with_either [] zero (suc c) x y ne = refl
with_either [] (suc b) zero x y ne = refl
with_either [] (suc b) (suc c) x y ne = ap (λ ys. None ∷ ys) (with_either [] b c x y (λ e. ne (ap suc e)))
with_either (z ∷ xs) zero zero x y ne = absurd (ne refl)
with_either (z ∷ xs) zero (suc c) x y ne = refl
with_either (z ∷ xs) (suc b) zero x y ne = refl
with_either (z ∷ xs) (suc b) (suc c) x y ne = ap (λ ys. z ∷ ys) (with_either xs b c x y (λ e. ne (ap suc e)))

set_below : (is : List Item) (k : ℕ) (i j : Item) → 0 < k → with_nth_item (i ∷ rest_of is) k j ≡ i ∷ rest_of (with_nth_item is k j)
set_below is zero i j h = absurd (omega (arith, h))
set_below [] (suc k) i j h = refl
set_below (x ∷ is) (suc k) i j h = refl

top_below : (is : List Item) (k : ℕ) (j : Item) → 0 < k → top_of (with_nth_item is k j) ≡ top_of is
top_below is zero j h = absurd (omega (arith, h))
top_below [] (suc k) j h = refl
top_below (x ∷ is) (suc k) j h = refl

module _ (m : Mem) (b : ℕ) where
  other_scope : (c : ℕ) → c ≢ b → (f : Scope) → scope_of (with_scope m b f) c ≡ scope_of m c
  other_scope c ne f = ap (λ o. unwrap_or o no_scope) (numbered-with_other m.blocks b c (Some f) ne)

-- another item on top, and another content at a spot below it
module _ (m : Mem) (b : ℕ) (c : Content) where
  over_here : (i : Item) (k : ℕ) → 0 < k → with_content (with_top m b i) (standing b k) c ≡ with_top (with_content m (standing b k) c) b i
  over_here i k some =
      let f = scope_of m b in
      let g : Scope = record f { temps = i ∷ rest_of f.temps } in
      let h : Scope = record f { temps = with_nth_item f.temps k (value c) } in
      ap (λ (x : Scope). with_scope (with_scope m b g) b (record x { temps = with_nth_item x.temps k (value c) })) (scope_again m b g)
      ∙ scope_twice m b g (record g { temps = with_nth_item g.temps k (value c) })
      ∙ ap (λ (is : List Item). with_scope m b (record f { temps = is })) (set_below f.temps k i (value c) some)
      ∙ sym (ap (λ (x : Scope). with_scope (with_scope m b h) b (record x { temps = i ∷ rest_of x.temps })) (scope_again m b h) ∙ scope_twice m b h (record f { temps = i ∷ rest_of h.temps }))

  over_there : (i : Item) (d k : ℕ) → d ≢ b → with_content (with_top m b i) (standing d k) c ≡ with_top (with_content m (standing d k) c) b i
  over_there i d k ne =
      let f = scope_of m b in
      let g : Scope = record f { temps = i ∷ rest_of f.temps } in
      let o = scope_of m d in
      let h : Scope = record o { temps = with_nth_item o.temps k (value c) } in
      ap (λ (x : Scope). with_scope (with_scope m b g) d (record x { temps = with_nth_item x.temps k (value c) })) (other_scope m b d ne g)
      ∙ ap (λ bs. record m { blocks = bs }) (with_either m.blocks b d (Some g) (Some h) ne)
      ∙ sym (ap (λ (x : Scope). with_scope (with_scope m d h) b (record x { temps = i ∷ rest_of x.temps })) (other_scope m d b (λ e. ne (sym e)) h))

  put_over : (i : Item) (spot : Spot) → IsBelowTopOf b spot → with_content (with_top m b i) spot c ≡ with_top (with_content m spot c) b i
  put_over i (stored s) h = refl
  put_over i (standing d k) h = elim (eqb_tells d b) [
    | inl e ↦
        ap (λ x. with_content (with_top m b i) (standing x k) c) e.1
        ∙ over_here i k (h e.1)
        ∙ ap (λ x. with_top (with_content m (standing x k) c) b i) (sym e.1)
    | inr e ↦ over_there i d k e.1
  ]

  top_kept : (spot : Spot) → IsBelowTopOf b spot → top (with_content m spot c) b ≡ top m b
  top_kept (stored s) h = refl
  top_kept (standing d k) h = elim (eqb_tells d b) [
    | inl e ↦
        ap (λ x. top (with_content m (standing x k) c) b) e.1
        ∙ ap (λ (x : Scope). top_of x.temps) (scope_again m b (record (scope_of m b) { temps = with_nth_item (scope_of m b).temps k (value c) }))
        ∙ top_below (scope_of m b).temps k (value c) (h e.1)
    | inr e ↦ ap (λ (x : Scope). top_of x.temps) (other_scope m d b (λ g. e.1 (sym g)) (record (scope_of m d) { temps = with_nth_item (scope_of m d).temps k (value c) }))
  ]

content_kept : (m : Mem) (b : ℕ) (i : Item) (spot : Spot) → IsBelowTopOf b spot → content_at (with_top m b i) spot ≡ content_at m spot
content_kept m b i (stored s) h = refl
content_kept m b i (standing d k) h = ap content_if (temp_kept m b i d k h)

popped_over : (m : Mem) (b : ℕ) (i : Item) → popped (with_top m b i) b ≡ popped m b
popped_over m b i =
    let f = scope_of m b in
    let g : Scope = record f { temps = i ∷ rest_of f.temps } in
    ap (λ (x : Scope). with_scope (with_scope m b g) b (record x { temps = rest_of x.temps })) (scope_again m b g)
    ∙ scope_twice m b g (record f { temps = rest_of f.temps })

nothing_more : (is : List Item) → is ≡ is ++ []
nothing_more [] = refl
nothing_more (i ∷ is) = ap (λ js. i ∷ js) (nothing_more is)

-- a text is dropped at once
text_dropped : (m : Mem) (b : ℕ) (bytes : List ℕ) → let_fall (popped m b) b (value (text bytes)) ≡ popped m b
text_dropped m b bytes =
    let g : Scope = record (scope_of m b) { temps = rest_of (scope_of m b).temps } in
    falling_same (popped m b) b g (numbered-with_same m.blocks b (Some g)) ((scope_of (popped m b) b).falling ++ []) (nothing_more (scope_of (popped m b) b).falling)

module _ (m : Mem) (b : ℕ) (p : Place) (can : CanAppend b p m) (spot : Spot) (e : find_place m p ≡ Some spot) where
  pub text_there : content_at m spot ≡ text can.before
  text_there = same_some (sym (ap (content_if_found m) e) ∙ can.there)

  pub text_on_top : content_at m (standing b 0) ≡ text can.behind
  text_on_top = ap content_if can.top

  pub bytes_joined : text_found (Some (content_at m spot)) ++ text_found (Some (content_at m (standing b 0))) ≡ text_found (found m p) ++ text_of_item (top m b)
  bytes_joined =
      ap (λ o. text_found o ++ text_found (Some (content_at m (standing b 0)))) (sym (ap (content_if_found m) e))
      ∙ ap (λ c. text_found (found m p) ++ text_found (Some c)) text_on_top
      ∙ ap (λ i. text_found (found m p) ++ text_of_item i) (sym (first_on_top (scope_of m b).temps (value (text can.behind)) can.top))

  walks : (i : Item) → walk (with_top m b i) p.base p.path ≡ reached (with_top m b i) spot
  unfolding find_place
  walks i = walk_found (with_top m b i) p.base p.path spot (ap (λ o. spot_along (with_top m b i) o p.path) (base_same m b i p.base can.below_top) ∙ place_same m b i p.base p.path can.below_top ∙ e)

  below : IsBelowTopOf b spot
  below = found_below m b p can.below_top spot e

  assigned_is : (c : Content) → (assign (with_top m b (value c)) b p).0 ≡ popped (with_content m spot c) b
  unfolding assign
  assigned_is c =
      let n = with_top m b (value c) in
      ap (λ w. (assigned w n b).0) (walks (value c))
      ∙ ap (λ (x : Scope). moved_in (top_of x.temps) n b spot) (scope_on_top m b (value c))
      ∙ ap (λ d. let_fall (popped (with_content n spot c) b) b (value d)) (content_kept m b (value c) spot below ∙ text_there)
      ∙ text_dropped (with_content n spot c) b can.before
      ∙ ap (λ x. popped x b) (put_over m b c (value c) spot below)
      ∙ popped_over (with_content m spot c) b (value c)

  pub append_is : (bytes : List ℕ) → bytes ≡ text_found (found m p) ++ text_of_item (top m b) → popped (with_content m spot (text bytes)) b ≡ append m b p
  unfolding append
  append_is bytes is = sym (assigned_is (text bytes)) ∙ ap (λ x. (assign (with_top m b (value (text x))) b p).0) is

pub appended : (s t : Cells) (b : ℕ) (p : Place) → (can : CanAppend b p (memory_seen s)) → (spot : Spot) → find_place (memory_seen s) p ≡ Some spot → HasContent (memory_seen s) spot → IsCounted s → (bytes : List ℕ) → bytes ≡ text_found (Some (content_at (memory_seen s) spot)) ++ text_found (Some (content_at (memory_seen s) (standing b 0))) → memory_seen t ≡ popped (with_content (memory_seen s) spot (text bytes)) b → ((k : ℕ) → count_of_store t.stores k ≡ count_of_store s.stores k) → t.objects ≡ s.objects → Becomes t (append (memory_seen s) b p)
appended s t b p can spot e there counted bytes is seen stores objects =
    let m = memory_seen s in
    let n = with_content m spot (text bytes) in
    let on_top : top n b ≡ value (text can.behind) = top_kept m b (text bytes) spot (found_below m b p can.below_top spot e) ∙ first_on_top (scope_of m b).temps (value (text can.behind)) can.top in
    let before : content_at m spot ≡ text can.before = text_there m b p can spot e in
    record {
      seen = seen ∙ append_is m b p can spot e bytes (is ∙ bytes_joined m b p can spot e);
      counted =
          counted_by t (popped n b) [] [] seen
          (λ k. (
          let one : times k (stores_of_content (content_at m spot)) ≡ 0 = ap (λ c. times k (stores_of_content c)) before in
          let two : times k (stores_of_item (top n b)) ≡ 0 = ap (λ i. times k (stores_of_item i)) on_top in
          omega (arith, stores k, counted.stores k, one, two, holders-with_content k m spot (real_of m spot there) (text bytes), holders-popped n k b)))
          (λ h. (
          let same : count_of_object t.objects.items h ≡ count_of_object s.objects.items h = ap (λ x. count_of_object x.items h) objects in
          let one : times h (handles_of_content (content_at m spot)) ≡ 0 = ap (λ c. times h (handles_of_content c)) before in
          let two : times h (handles_of_item (top n b)) ≡ 0 = ap (λ i. times h (handles_of_item i)) on_top in
          omega (arith, same, counted.objects h, one, two, handles-with_content h m spot (real_of m spot there) (text bytes), handles-popped n h b)));
    }

-- what is on top stays where another content is put below it

nth_below : (is : List Item) (k : ℕ) (j : Item) → 0 < k → nth_item (with_nth_item is k j) 0 ≡ nth_item is 0
nth_below is zero j h = absurd (omega (arith, h))
nth_below [] (suc k) j h = refl
nth_below (x ∷ is) (suc k) j h = refl

pub first_kept : (m : Mem) (b : ℕ) (c : Content) (spot : Spot) → IsBelowTopOf b spot → content_at (with_content m spot c) (standing b 0) ≡ content_at m (standing b 0)
first_kept m b c (stored s) h = refl
first_kept m b c (standing d k) h = elim (eqb_tells d b) [
  | inl e ↦
      ap (λ x. content_at (with_content m (standing x k) c) (standing b 0)) e.1
      ∙ ap (λ (x : Scope). content_if (nth_item x.temps 0)) (scope_again m b (record (scope_of m b) { temps = with_nth_item (scope_of m b).temps k (value c) }))
      ∙ ap content_if (nth_below (scope_of m b).temps k (value c) (h e.1))
  | inr e ↦ ap (λ (x : Scope). content_if (nth_item x.temps 0)) (other_scope m d b (λ g. e.1 (sym g)) (record (scope_of m d) { temps = with_nth_item (scope_of m d).temps k (value c) }))
]

-- the text is taken out, extended and put back

module _ (s mid now : Cells) (b : ℕ) (spot : Spot) (there : HasContent (memory_seen s) spot) (c d : Content) (is : c ≡ content_at (memory_seen s) spot) (out : memory_seen mid ≡ with_content (memory_seen s) spot null) (back : memory_seen now ≡ with_content (memory_seen mid) spot d) where
  pub longer_seen : IsBelowTopOf b spot → (behind : List ℕ) → behind ≡ text_found (Some (content_at (memory_seen mid) (standing b 0))) → d ≡ text (text_found (Some c) ++ behind) → memory_seen now ≡ with_content (memory_seen s) spot (text (joined_at (memory_seen s) b spot))
  longer_seen below behind read grown =
      let m = memory_seen s in
      let top : content_at (memory_seen mid) (standing b 0) ≡ content_at m (standing b 0) = ap (λ x. content_at x (standing b 0)) out ∙ first_kept m b null spot below in
      changed_seen s mid now spot there c d is out back
      ∙ ap (with_content m spot) (
      grown
      ∙ ap (λ x. text (text_found (Some x) ++ behind)) is
      ∙ ap (λ xs. text (text_found (Some (content_at m spot)) ++ xs)) (read ∙ ap (λ x. text_found (Some x)) top))

  pub kept_seen : d ≡ c → memory_seen now ≡ memory_seen s
  kept_seen same = changed_seen s mid now spot there c d is out back ∙ put_same (memory_seen s) spot there d (same ∙ is)

-- a memory that looks as before, with the counts of before
pub as_before : (s t : Cells) → IsCounted s → memory_seen t ≡ memory_seen s → ((k : ℕ) → count_of_store t.stores k ≡ count_of_store s.stores k) → t.objects ≡ s.objects → Becomes t (memory_seen s)
as_before s t counted seen stores objects = record {
  seen = seen;
  counted =
      counted_by t (memory_seen s) [] [] seen
      (λ k. omega (arith, stores k, counted.stores k))
      (λ h. (
      let same : count_of_object t.objects.items h ≡ count_of_object s.objects.items h = ap (λ x. count_of_object x.items h) objects in
      omega (arith, same, counted.objects h)));
}
