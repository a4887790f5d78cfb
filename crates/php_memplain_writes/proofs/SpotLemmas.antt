-- What stands where a way ends, and a content that is put there.
use Rattle.std.proofs.Common.{◌≡◌, ℕ, zero, suc, ◌+◌, ◌-◌, ◌<◌, List, [], ◌∷◌, ◌++◌, refl, sym, ◌∙◌, ap, subst, arith, inl, inr}
use Rattle.std.proofs.lemmas.Bool.Decides.{eqb_tells}
use Rattle.std.specs.Prelude.{Option, Some, None, unwrap_or, IsSome, is_some, cond}
use Rattle.php_entries.specs.Listing.{Listing}
use Rattle.php_entries.specs.Changes.{Grown}
use Rattle.php_memdef.specs.declared.place.Base.{Base}
use Rattle.php_memdef.specs.declared.place.Base.TheVariants.{Var, Property as OfObject, Static, Temp}
use Rattle.php_memdef.specs.declared.place.Step.{Step}
use Rattle.php_memdef.specs.Numbered.{Numbered, numbered, with_numbered, weight_if}
use Rattle.php_memdef.specs.Contents.{Content, null, truth, int, text, array, object, Item, value, link, Variable, Property, Scope, Object, Mem, no_scope, scope_of, object_of}
use Rattle.php_memdef.specs.Holders.{times, stores_of_content, stores_of_entries, stores_of_variables, stores_of_properties, handles_of_content, holders, object_holders}
use Rattle.php_memdef.specs.Places.{Spot, stored, standing, nth_item, with_nth_item, content_if, content_at, with_content, with_scope, elements_of, variable_store, property_store, stored_if, temp_spot, base_spot, elements_to_write, step_store, step_store_if, step_set, next_spot}
use Rattle.php_memdef.specs.Temporaries.{popped}
use Rattle.php_memdef.specs.Views.{spot_or, end_along}
use Rattle.php_memdef.specs.Sound.{Every, IsLive, IsClosed}
use Rattle.php_memdef.specs.Conditions.{IsBelowTop}
use Rattle.php_memdef_laws.proofs.NumberedLemmas.{numbered-with_same}
use Rattle.php_memdef_laws.proofs.Closed.Parts.{IfFound, variable-found, property-found, step-found, nth_link-found, variables-closed, object-closed, temps-closed, content_at-closed}
use Rattle.php_memdef_laws.proofs.Held.Parts.{holders-with_variables, handles-with_variables, holders-with_object, handles-with_object, holders-with_static, handles-with_static}
use Rattle.php_memdef_laws.proofs.Held.Writes.{listed, Grown-times, step_set-times, IsReal, holders-with_content, handles-with_content, ElementsOf, elements_written}
use Rattle.php_memplain_cells.proofs.SlotLemmas.{with_same, with_twice}
use Rattle.php_memplain_cells.proofs.FallingLemmas.{scope_again, scope_twice}
use Rattle.php_memplain_writes.specs.Standing.{HasContent}
use Rattle.php_memplain_writes.specs.Moving.{IsSpotBelow, spot_below}
use Rattle.php_memplain_writes.specs.Reached.{IsNoTemp, with_base}
use Rattle.php_memplain_writes.proofs.WayLemmas.{none_some, same_some, no_end, spot_or_some}
use Rattle.php_memplain_writes.proofs.MoveLemmas.{up_one, item_here, item_there}

pub real_of : (m : Mem) (spot : Spot) → HasContent m spot → IsReal m spot
real_of m (stored s) h = tt
real_of m (standing b k) h = h

-- what each spot has to which a step leads, the last has
pub end_has : (m : Mem) (P : Spot → Type 0) → ((from : Spot) (step : Step) (spot : Spot) → next_spot m (Some from) step ≡ Some spot → P spot) → (path : List Step) (from last : Spot) → P from → end_along m (Some from) path ≡ Some last → P last
end_has m P next [] from last h e = subst P (same_some e) h
end_has m P next (step ∷ path) from last h e = by_next (next_spot m (Some from) step) refl (end_has m P next path)
  where
    by_next : (o : Option Spot) → next_spot m (Some from) step ≡ o → ((from last : Spot) → P from → end_along m (Some from) path ≡ Some last → P last) → P last
    by_next None f below = subst P (same_some (sym (ap (λ o. spot_or o (Some from)) (no_end m path)) ∙ sym (ap (λ o. spot_or (end_along m o path) (Some from)) f) ∙ e)) h
    by_next (Some x) f below = below x last (next from step x f) (spot_or_some m path x from last (sym (ap (λ o. spot_or (end_along m o path) (Some from)) f) ∙ e))

elements_found : (P : ℕ → Type 0) (c : Content) (step : Step) → Every P (stores_of_content c) → IfFound P (step_store_if (elements_of c) step)
elements_found P null step h = tt
elements_found P (truth b) step h = tt
elements_found P (int i) step h = tt
elements_found P (text bytes) step h = tt
elements_found P (array t) step h = step-found P t step h
elements_found P (object n) step h = tt

module _ (m : Mem) (closed : IsClosed m) where
  stored_good : (o : Option ℕ) → IfFound (IsLive m) o → (spot : Spot) → stored_if o ≡ Some spot → HasContent m spot
  stored_good None h spot e = absurd (none_some e)
  stored_good (Some s) h spot e = subst (HasContent m) (same_some e) h

  temp_good : (b k : ℕ) (i : Option Item) → nth_item (scope_of m b).temps k ≡ i → (spot : Spot) → temp_spot b k i ≡ Some spot → HasContent m spot
  temp_good b k None e spot h = absurd (none_some h)
  temp_good b k (Some (value c)) e spot h = subst (HasContent m) (same_some h) (c, e)
  temp_good b k (Some (link s)) e spot h = subst (HasContent m) (same_some h) (nth_link-found (IsLive m) (scope_of m b).temps k s (temps-closed m closed b) e)

  static_found : (i : ℕ) (o : Option ℕ) → numbered m.statics i ≡ o → IfFound (IsLive m) o
  static_found i None e = tt
  static_found i (Some s) e = closed.statics i s e

  pub base_good : (base : Base) (spot : Spot) → base_spot m base ≡ Some spot → HasContent m spot
  base_good (Var b n) spot e = stored_good (variable_store (scope_of m b.0).variables n.0) (variable-found (IsLive m) (scope_of m b.0).variables n.0 (variables-closed m closed b.0)) spot e
  base_good (OfObject h p) spot e = stored_good (property_store (object_of m h.0).properties p) (property-found (IsLive m) (object_of m h.0).properties p (object-closed m closed h.0)) spot e
  base_good (Static i) spot e = stored_good (numbered m.statics i.0) (static_found i.0 (numbered m.statics i.0) refl) spot e
  base_good (Temp b n) spot e = temp_good b.0 n (nth_item (scope_of m b.0).temps n) refl spot e

  next_good : (from : Spot) (step : Step) (spot : Spot) → next_spot m (Some from) step ≡ Some spot → HasContent m spot
  next_good from step spot e = stored_good (step_store_if (elements_of (content_at m from)) step) (elements_found (IsLive m) (content_at m from) step (content_at-closed m closed from)) spot e

  -- at the end of a way from a base that is there something stands
  pub end_good : (base : Base) (path : List Step) (last : Spot) → (from : Spot) → base_spot m base ≡ Some from → end_along m (Some from) path ≡ Some last → HasContent m last
  end_good base path last from e f = end_has m (HasContent m) next_good path from last (base_good base from e) f

-- the end of a way isn't the top temporary where its base isn't

stored_below : (b : ℕ) (o : Option ℕ) (spot : Spot) → stored_if o ≡ Some spot → IsSpotBelow b spot
stored_below b None spot e = absurd (none_some e)
stored_below b (Some s) spot e = subst (IsSpotBelow b) (same_some e) tt

temp_below : (b c k : ℕ) (i : Option Item) → (c ≡ b → 0 < k) → (spot : Spot) → temp_spot c k i ≡ Some spot → IsSpotBelow b spot
temp_below b c k None h spot e = absurd (none_some e)
temp_below b c k (Some (value d)) h spot e = subst (IsSpotBelow b) (same_some e) h
temp_below b c k (Some (link s)) h spot e = subst (IsSpotBelow b) (same_some e) tt

base_below : (m : Mem) (b : ℕ) (base : Base) → IsBelowTop b base → (spot : Spot) → base_spot m base ≡ Some spot → IsSpotBelow b spot
base_below m b (Var c n) h spot e = stored_below b (variable_store (scope_of m c.0).variables n.0) spot e
base_below m b (OfObject k p) h spot e = stored_below b (property_store (object_of m k.0).properties p) spot e
base_below m b (Static i) h spot e = stored_below b (numbered m.statics i.0) spot e
base_below m b (Temp c n) h spot e = temp_below b c.0 n (nth_item (scope_of m c.0).temps n) h spot e

pub end_below : (m : Mem) (b : ℕ) (base : Base) (path : List Step) (last from : Spot) → IsBelowTop b base → base_spot m base ≡ Some from → end_along m (Some from) path ≡ Some last → IsSpotBelow b last
end_below m b base path last from h e f = end_has m (IsSpotBelow b) (λ x step spot g. stored_below b (step_store_if (elements_of (content_at m x)) step) spot g) path from last (base_below m b base h from e) f

-- a content is put at a spot

nth_same : (is : List Item) (k : ℕ) (c : Content) → nth_item is k ≡ Some (value c) → with_nth_item is k (value c) ≡ is
nth_same [] k c e = refl
nth_same (i ∷ is) zero c e = ap (λ j. j ∷ is) (sym (same_some e))
nth_same (i ∷ is) (suc k) c e = ap (λ js. i ∷ js) (nth_same is k c e)

nth_twice : (is : List Item) (k : ℕ) (i j : Item) → with_nth_item (with_nth_item is k i) k j ≡ with_nth_item is k j
nth_twice [] k i j = refl
nth_twice (x ∷ is) zero i j = refl
nth_twice (x ∷ is) (suc k) i j = ap (λ js. x ∷ js) (nth_twice is k i j)

pub put_twice : (m : Mem) (spot : Spot) (c d : Content) → with_content (with_content m spot c) spot d ≡ with_content m spot d
put_twice m (stored s) c d = ap (λ xs. record m { stores = xs }) (with_twice m.stores s (Some c) (Some d))
put_twice m (standing b k) c d =
    let f = scope_of m b in
    let g : Scope = record f { temps = with_nth_item f.temps k (value c) } in
    ap (λ (x : Scope). with_scope (with_scope m b g) b (record x { temps = with_nth_item x.temps k (value d) })) (scope_again m b g)
    ∙ scope_twice m b g (record f { temps = with_nth_item (with_nth_item f.temps k (value c)) k (value d) })
    ∙ ap (λ (is : List Item). with_scope m b (record f { temps = is })) (nth_twice f.temps k (value c) (value d))

-- what stood there is put there again
pub put_same : (m : Mem) (spot : Spot) → HasContent m spot → (c : Content) → c ≡ content_at m spot → with_content m spot c ≡ m
put_same m (stored s) live c e = by_slot (numbered m.stores s) refl live
  where
    by_slot : (o : Option Content) → numbered m.stores s ≡ o → IsSome o → with_content m (stored s) c ≡ m
    by_slot None f h = absurd cc
    by_slot (Some d) f h = ap (λ xs. record m { stores = xs }) (ap (λ x. with_numbered m.stores s (Some x)) (e ∙ ap (λ o. unwrap_or o null) f) ∙ with_same m.stores s d f)
put_same m (standing b k) real c e =
    let f = scope_of m b in
    let d = real.0 in
    let same : c ≡ d = e ∙ ap content_if real.1 in
    ap (λ x. with_scope m b (record f { temps = with_nth_item f.temps k (value x) })) same
    ∙ ap (λ (is : List Item). with_scope m b (record f { temps = is })) (nth_same f.temps k d real.1)
    ∙ by_block (numbered m.blocks b) refl real.1
  where
    by_block : (o : Option Scope) → numbered m.blocks b ≡ o → nth_item (scope_of m b).temps k ≡ Some (value real.0) → with_scope m b (scope_of m b) ≡ m
    by_block None f h = absurd (none_some (sym (ap (λ o. nth_item (unwrap_or o no_scope).temps k) f) ∙ h))
    by_block (Some g) f h = ap (λ (x : Scope). with_scope m b x) (ap (λ o. unwrap_or o no_scope) f) ∙ ap (λ bs. record m { blocks = bs }) (with_same m.blocks b g f)

-- what is hung up is named once more

added_variable : (vs : List Variable) (v : Variable) (x : ℕ) → times x (stores_of_variables (vs ++ v ∷ [])) ≡ times x (stores_of_variables vs) + times x (v.store ∷ [])
added_variable [] v x = omega arith
added_variable (w ∷ vs) v x = omega (arith, added_variable vs v x)

added_property : (ps : List Property) (p : Property) (x : ℕ) → times x (stores_of_properties (ps ++ p ∷ [])) ≡ times x (stores_of_properties ps) + times x (p.store ∷ [])
added_property [] p x = omega arith
added_property (q ∷ ps) p x = omega (arith, added_property ps p x)

static_none : (o : Option ℕ) → stored_if o ≡ None → (x : ℕ) → weight_if (λ t. times x (t ∷ [])) o ≡ 0
static_none None e x = refl
static_none (Some s) e x = absurd (none_some (sym e))

pub base_names : (m : Mem) (base : Base) → IsNoTemp base → base_spot m base ≡ None → (s x : ℕ) → holders (with_base base m s) x ≡ holders m x + times x (s ∷ [])
base_names m (Var b n) h e s x =
    let vs = (scope_of m b.0).variables in
    omega (arith, holders-with_variables m x b.0 (vs ++ record { name = n.0; store = s } ∷ []), added_variable vs (record { name = n.0; store = s }) x)
base_names m (OfObject k p) h e s x =
    let o = object_of m k.0 in
    let y : Object = record o { properties = o.properties ++ record { name = p; store = s } ∷ [] } in
    omega (arith, holders-with_object m x k.0 (Some y), added_property o.properties (record { name = p; store = s }) x)
base_names m (Static i) h e s x = omega (arith, holders-with_static m x i.0 (Some s), static_none (numbered m.statics i.0) e x)
base_names m (Temp b n) h e s x = absurd h

pub base_handles : (m : Mem) (base : Base) (s x : ℕ) → object_holders (with_base base m s) x ≡ object_holders m x
base_handles m (Var b n) s x = handles-with_variables m x b.0 _
base_handles m (OfObject k p) s x = handles-with_object m x k.0 _
base_handles m (Static i) s x = handles-with_static m x i.0 (Some s)
base_handles m (Temp b n) s x = refl

pub base_spot_with : (m : Mem) (base : Base) (xs : Numbered Content) → base_spot (record m { stores = xs }) base ≡ base_spot m base
base_spot_with m (Var b n) xs = refl
base_spot_with m (OfObject h p) xs = refl
base_spot_with m (Static i) xs = refl
base_spot_with m (Temp b n) xs = refl

-- an array at a spot grows
module _ (n : Mem) (spot : Spot) (real : IsReal n spot) (step : Step) (s : ℕ) (t u : Listing ℕ) (e : elements_to_write (content_at n spot) ≡ Some t) (grown : step_set t step s ≡ Grown u) where
  elements_there : ElementsOf (content_at n spot) (Some t)
  elements_there = subst (ElementsOf (content_at n spot)) e (elements_written (content_at n spot))

  pub element_names_it : (x : ℕ) → holders (with_content n spot (array u)) x + times x (listed (step_store t step)) ≡ holders n x + times x (s ∷ [])
  element_names_it x =
      let old : times x (stores_of_content (content_at n spot)) ≡ times x (stores_of_entries t.entries) = ap (times x) elements_there.0 in
      let more : Grown-times x (Grown u) t (step_store t step) s = subst (λ g. Grown-times x g t (step_store t step) s) grown (step_set-times x t step s) in
      omega (arith, holders-with_content x n spot real (array u), old, more)

  pub element_handles : (x : ℕ) → object_holders (with_content n spot (array u)) x ≡ object_holders n x
  element_handles x =
      let none : times x (handles_of_content (content_at n spot)) ≡ 0 = ap (times x) elements_there.1 in
      omega (arith, handles-with_content x n spot real (array u), none)

-- a spot is there still once the top temporary of a block is gone
pub has_below : (m : Mem) (b : ℕ) (spot : Spot) → IsSpotBelow b spot → HasContent m spot → HasContent (popped m b) (spot_below b spot)
has_below m b (stored s) h there = there
has_below m b (standing c k) h there = elim (eqb_tells c b) [
  | inl e ↦
      subst (λ t. HasContent (popped m b) (cond t (standing c (k - 1)) (standing c k))) (sym e.0)
      (there.0, ap (λ x. nth_item (scope_of (popped m b) x).temps (k - 1)) e.1 ∙ item_here m b (k - 1) ∙ ap (λ n. nth_item (scope_of m b).temps n) (sym (up_one k (h e.1))) ∙ ap (λ x. nth_item (scope_of m x).temps k) (sym e.1) ∙ there.1)
  | inr e ↦ subst (λ t. HasContent (popped m b) (cond t (standing c (k - 1)) (standing c k))) (sym e.0) (there.0, item_there m b c k e.1 ∙ there.1)
]

nth_put : (is : List Item) (k : ℕ) (c d : Content) → nth_item is k ≡ Some (value d) → nth_item (with_nth_item is k (value c)) k ≡ Some (value c)
nth_put [] k c d e = absurd (none_some e)
nth_put (i ∷ is) zero c d e = refl
nth_put (i ∷ is) (suc k) c d e = nth_put is k c d e

-- where a content was put, one stands
pub has_put : (m : Mem) (spot : Spot) → HasContent m spot → (c : Content) → HasContent (with_content m spot c) spot
has_put m (stored s) h c = ap is_some (numbered-with_same m.stores s (Some c))
has_put m (standing b k) h c =
    let f = scope_of m b in
    (c, ap (λ (x : Scope). nth_item x.temps k) (scope_again m b (record f { temps = with_nth_item f.temps k (value c) })) ∙ nth_put f.temps k c h.0 h.1)
