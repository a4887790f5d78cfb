-- Writes in memories that differ in the numbers of their stores.
use Rattle.std.proofs.Common.{◌≡◌, ℕ, List, [], ◌∷◌, ◌++◌, refl, sym, ◌∙◌, ap, subst}
use Rattle.std.specs.Prelude.{Option, Some, None}
use Rattle.php_entries.specs.Listing.{Listing}
use Rattle.php_entries.specs.Changes.{Growth, Grown, Full as NoKeyLeft, Limit as NoEntryLeft, map_listing, map_growth}
use Rattle.php_entries.proofs.MapLemmas.{set_value-map, append_value-map}
use Rattle.php_memdef.specs.declared.place.PropName.{PropName}
use Rattle.php_memdef.specs.declared.place.Base.{Base}
use Rattle.php_memdef.specs.declared.place.Base.TheVariants.{Var, Property as OfObject, Static, Temp}
use Rattle.php_memdef.specs.declared.place.Step.{Step}
use Rattle.php_memdef.specs.declared.place.Step.TheVariants.{At, Push}
use Rattle.php_memdef.specs.declared.place.Place.{Place}
use Rattle.php_memdef.specs.Numbered.{numbered, with_numbered}
use Rattle.php_memdef.specs.Contents.{Content, null, truth, int, text, array, object, Item, value, link, Variable, Property, Mem, scope_of, object_of}
use Rattle.php_memdef.specs.Holders.{stores_of_entries, stores_of_content, stores_of_items, stores_of_variables, stores_of_properties}
use Rattle.php_memdef.specs.Places.{Spot, stored, standing, nth_item, content_at, with_content, with_new_store, new_store_number, variable_store, property_store, temp_spot, elements_to_write, step_store, step_set, Walk, reached, stopped, element_made, element_to_write, step_in_elements, walk_step, walk_along, variable_to_write, property_to_write, static_to_write, temp_to_write, base_to_write, walk}
use Rattle.php_memdef.specs.Temporaries.{popped, top, top_of, let_fall}
use Rattle.php_memdef.specs.Writes.{moved_in, assigned, assign, linked, make_link, Bound, bound, unbound, steps_before, last_step, element_bound, bound_in_elements, element_of_walk_bound, with_variable, with_property, base_bound, bound_at, let_fall_if, finish_bind, bind_top, bind}
use Rattle.php_memdef.specs.Sound.{Every, IsLive, IsClosed}
use Rattle.php_memdef.specs.Alike.{map_if, renamed_content, renamed_item, renamed_variables, renamed_scope, renamed_properties, renamed_object, IsRenamed, Alike}
use Rattle.php_memdef_laws.proofs.Alike.Renamings.{Every-append, Every-weaken, entries-agree}
use Rattle.php_memdef_laws.proofs.Alike.Memories.{static-renamed, scope_change-renamed, object_change-renamed}
use Rattle.php_memdef_laws.proofs.Alike.Scopes.{renamed_variables-append, renamed_properties-append, with_variable-renamed, with_property-renamed, pushed-renamed, popped-renamed, top-renamed, let_fall-renamed, let_fall_if-renamed}
use Rattle.php_memdef_laws.proofs.Alike.Places.{renamed_spot, step_store-renamed, temp_spot-renamed, nth_temp-renamed, content_at-renamed, with_content-renamed, variable_store_in-renamed, property_store_in-renamed}
use Rattle.php_memdef_laws.proofs.Closed.Parts.{IfFound, variable-found, property-found, step-found, nth_link-found, GrowthNames, step_set-names, IsSpotLive, object-closed, variables-closed, temps-closed, falling-closed, content_at-closed, new-live, with_new_store-closed, with_scope-closed, with_object-closed, with_static-closed, live-with_content, with_content-closed}
use Rattle.php_memdef_laws.proofs.Alike.NewStores.{Extends, Extends-refl, Extends-trans, OneMore, one_more}

-- two walks from the same start reach spots that are one up to the numbers, or stop for one cause

pub record ReachedAlike (to : ℕ → ℕ) (m m' : Mem) (spot : Spot) (n' : Mem) (spot' : Spot) : Type 0 where
  pub to' : ℕ → ℕ
  pub back' : ℕ → ℕ
  pub renamed : IsRenamed to' back' m' n'
  pub same_spot : spot' ≡ renamed_spot to' spot
  pub closed : IsClosed m'
  pub live : IsSpotLive m' spot
  pub extends : Extends to m to' m'

abbrev pub WalksAlike : (ℕ → ℕ) → Mem → Walk → Walk → Type 0
WalksAlike to m (reached m' spot) (reached n' spot') = ReachedAlike to m m' spot n' spot'
WalksAlike to m (stopped v) (stopped w) = w ≡ v
WalksAlike to m (reached m' spot) (stopped w) = ⊥
WalksAlike to m (stopped v) (reached n' spot') = ⊥

walks_extended : (f g : ℕ → ℕ) (l m : Mem) → Extends f l g m → (w w' : Walk) → WalksAlike g m w w' → WalksAlike f l w w'
walks_extended f g l m x (reached m' spot) (reached n' spot') a = record { to' = a.to'; back' = a.back'; renamed = a.renamed; same_spot = a.same_spot; closed = a.closed; live = a.live; extends = Extends-trans f g a.to' l m m' x a.extends }
walks_extended f g l m x (stopped v) (stopped w) a = a
walks_extended f g l m x (reached m' spot) (stopped w) a = a
walks_extended f g l m x (stopped v) (reached n' spot') a = a

elements_to_write-renamed : (to : ℕ → ℕ) (c : Content) → elements_to_write (renamed_content to c) ≡ map_if (map_listing to) (elements_to_write c)
elements_to_write-renamed to null = refl
elements_to_write-renamed to (truth b) = refl
elements_to_write-renamed to (int i) = refl
elements_to_write-renamed to (text bytes) = refl
elements_to_write-renamed to (array t) = refl
elements_to_write-renamed to (object h) = refl

step_set-map : (f : ℕ → ℕ) (t : Listing ℕ) (step : Step) (s : ℕ) → step_set (map_listing f t) step (f s) ≡ map_growth f (step_set t step s)
step_set-map f t (At k) s = set_value-map f t k s
step_set-map f t Push s = append_value-map f t s

listing-agree : (f g : ℕ → ℕ) (t : Listing ℕ) → Every (λ s. f s ≡ g s) (stores_of_entries t.entries) → map_listing f t ≡ map_listing g t
listing-agree f g t h = ap (λ es. record { entries = es; next_key = t.next_key; next_serial = t.next_serial }) (entries-agree f g t.entries h)

spot_kept : (to to' : ℕ → ℕ) (m m' : Mem) → Extends to m to' m' → (spot : Spot) → IsSpotLive m spot → renamed_spot to' spot ≡ renamed_spot to spot
spot_kept to to' m m' x (stored s) h = ap stored (x.kept s h)
spot_kept to to' m m' x (standing b k) h = refl

-- the elements that a write goes on in name what is there
abbrev pub ElementsNamed : (ℕ → Type 0) → Option (Listing ℕ) → Type 0
ElementsNamed P None = Unit {0}
ElementsNamed P (Some t) = Every P (stores_of_entries t.entries)

pub elements_named : (P : ℕ → Type 0) (c : Content) → Every P (stores_of_content c) → ElementsNamed P (elements_to_write c)
elements_named P null h = tt
elements_named P (truth b) h = tt
elements_named P (int i) h = tt
elements_named P (text bytes) h = tt
elements_named P (array t) h = h
elements_named P (object k) h = tt

variables_added : (P : ℕ → Type 0) (vs : List Variable) (k s : ℕ) → Every P (stores_of_variables vs) → P s → Every P (stores_of_variables (vs ++ record { name = k; store = s } ∷ []))
variables_added P [] k s h p = (p, tt)
variables_added P (v ∷ vs) k s h p = (h.0, variables_added P vs k s h.1 p)

properties_added : (P : ℕ → Type 0) (ps : List Property) (n : PropName) (s : ℕ) → Every P (stores_of_properties ps) → P s → Every P (stores_of_properties (ps ++ record { name = n; store = s } ∷ []))
properties_added P [] n s h p = (p, tt)
properties_added P (x ∷ ps) n s h p = (h.0, properties_added P ps n s h.1 p)

module _ (to back : ℕ → ℕ) (m n : Mem) (r : IsRenamed to back m n) (closed : IsClosed m) where
  same_walk : (s : ℕ) → IsLive m s → WalksAlike to m (reached m (stored s)) (reached n (stored (to s)))
  same_walk s h = record { to' = to; back' = back; renamed = r; same_spot = refl; closed = closed; live = h; extends = Extends-refl to m }

  new_null : OneMore to m n null
  new_null = one_more to back m n r closed null tt

  with_null : Mem
  with_null = with_new_store m null

  element_made-alike : (spot : Spot) → IsSpotLive m spot → (g : Growth ℕ) → GrowthNames (IsLive (with_new_store m null)) g → WalksAlike to m (element_made g m spot) (element_made (map_growth new_null.to' g) n (renamed_spot to spot))
  element_made-alike spot live NoKeyLeft h = refl
  element_made-alike spot live NoEntryLeft h = refl
  element_made-alike spot live (Grown u) h =
      let o = new_null in
      let m' = with_new_store m null in
      let n' = with_new_store n null in
      let c' = with_new_store-closed m closed null tt in
      record {
        to' = o.to';
        back' = o.back';
        renamed =
            subst (λ (x : Spot). IsRenamed o.to' o.back' (with_content m' spot (array u)) (with_content n' x (array (map_listing o.to' u)))) (spot_kept to o.to' m m' o.extends spot live) (with_content-renamed o.to' o.back' m' n' o.renamed spot (array u));
        same_spot = ap stored (sym o.number);
        closed = with_content-closed m' c' spot (array u) h;
        live = live-with_content m' c' spot (array u) (new_store_number m) (new-live m closed null);
        extends = record { live = λ s x. live-with_content m' c' spot (array u) s (o.extends.live s x); kept = o.extends.kept };
      }

  element_to_write-alike : (spot : Spot) → IsSpotLive m spot → (step : Step) (t : Listing ℕ) → Every (IsLive m) (stores_of_entries t.entries) → (e : Option ℕ) → IfFound (IsLive m) e → WalksAlike to m (element_to_write e t m spot step) (element_to_write (map_if to e) (map_listing to t) n (renamed_spot to spot) step)
  element_to_write-alike spot live step t named (Some s) h = same_walk s h
  element_to_write-alike spot live step t named None h =
      let o = new_null in
      let m' = with_new_store m null in
      let k = new_store_number m in
      let e : map_growth o.to' (step_set t step k) ≡ step_set (map_listing to t) step (new_store_number n) =
      sym (step_set-map o.to' t step k) ∙ ap (λ u. step_set u step (o.to' k)) (listing-agree o.to' to t (Every-weaken (IsLive m) (λ s. o.to' s ≡ to s) o.extends.kept (stores_of_entries t.entries) named)) ∙ ap (step_set (map_listing to t) step) o.number in
      let names = step_set-names (IsLive m') t step k (Every-weaken (IsLive m) (IsLive m') o.extends.live (stores_of_entries t.entries) named) (new-live m closed null) in
      subst (λ (g : Growth ℕ). WalksAlike to m (element_made (step_set t step k) m spot) (element_made g n (renamed_spot to spot))) e (element_made-alike spot live (step_set t step k) names)

  step_in-alike : (spot : Spot) → IsSpotLive m spot → (step : Step) (o : Option (Listing ℕ)) → ElementsNamed (IsLive m) o → WalksAlike to m (step_in_elements o m spot step) (step_in_elements (map_if (map_listing to) o) n (renamed_spot to spot) step)
  step_in-alike spot live step None h = refl
  step_in-alike spot live step (Some t) h =
      subst (λ (e : Option ℕ). WalksAlike to m (element_to_write (step_store t step) t m spot step) (element_to_write e (map_listing to t) n (renamed_spot to spot) step)) (sym (step_store-renamed to t step)) (element_to_write-alike spot live step t h (step_store t step) (step-found (IsLive m) t step h))

  pub elements_at-renamed : (spot : Spot) → elements_to_write (content_at n (renamed_spot to spot)) ≡ map_if (map_listing to) (elements_to_write (content_at m spot))
  elements_at-renamed spot = ap elements_to_write (content_at-renamed to back m n r spot) ∙ elements_to_write-renamed to (content_at m spot)

  walk_step-alike : (spot : Spot) → IsSpotLive m spot → (step : Step) → WalksAlike to m (walk_step (reached m spot) step) (walk_step (reached n (renamed_spot to spot)) step)
  walk_step-alike spot live step =
      subst (λ (o : Option (Listing ℕ)). WalksAlike to m (step_in_elements (elements_to_write (content_at m spot)) m spot step) (step_in_elements o n (renamed_spot to spot) step)) (sym (elements_at-renamed spot)) (step_in-alike spot live step (elements_to_write (content_at m spot)) (elements_named (IsLive m) (content_at m spot) (content_at-closed m closed spot)))

  -- where a write begins

  variable_to_write-alike : (o : Option ℕ) → IfFound (IsLive m) o → (b k : ℕ) → WalksAlike to m (variable_to_write o m b k) (variable_to_write (map_if to o) n b k)
  variable_to_write-alike (Some s) h b k = same_walk s h
  variable_to_write-alike None h b k =
      let o = new_null in
      let m' = with_new_store m null in
      let n' = with_new_store n null in
      let s = new_store_number m in
      let t = new_store_number n in
      let f = scope_of m b in
      let old = λ (xs : List ℕ) (h : Every (IsLive m) xs). Every-weaken (IsLive m) (IsLive m') o.extends.live xs h in
      record {
        to' = o.to';
        back' = o.back';
        renamed =
            scope_change-renamed o.to' o.back' m' n' o.renamed b (λ x. record x { variables = x.variables ++ record { name = k; store = s } ∷ [] }) (λ x. record x { variables = x.variables ++ record { name = k; store = t } ∷ [] })
            (λ x. ap (λ i. record (renamed_scope o.to' x) { variables = renamed_variables o.to' x.variables ++ record { name = k; store = i } ∷ [] }) (sym o.number) ∙ ap (λ vs. record (renamed_scope o.to' x) { variables = vs }) (sym (renamed_variables-append o.to' x.variables (record { name = k; store = s } ∷ []))));
        same_spot = ap stored (sym o.number);
        closed =
            with_scope-closed m' (with_new_store-closed m closed null tt) b (record f { variables = f.variables ++ record { name = k; store = s } ∷ [] })
            (Every-append (IsLive m') _ (stores_of_items f.temps ++ stores_of_items f.falling) (variables_added (IsLive m') f.variables k s (old (stores_of_variables f.variables) (variables-closed m closed b)) (new-live m closed null))
            (Every-append (IsLive m') (stores_of_items f.temps) (stores_of_items f.falling) (old (stores_of_items f.temps) (temps-closed m closed b)) (old (stores_of_items f.falling) (falling-closed m closed b))));
        live = new-live m closed null;
        extends = record { live = o.extends.live; kept = o.extends.kept };
      }

  property_to_write-alike : (o : Option ℕ) → IfFound (IsLive m) o → (h : ℕ) (p : PropName) → WalksAlike to m (property_to_write o m h p) (property_to_write (map_if to o) n h p)
  property_to_write-alike (Some s) live h p = same_walk s live
  property_to_write-alike None live h p =
      let o = new_null in
      let m' = with_new_store m null in
      let n' = with_new_store n null in
      let s = new_store_number m in
      let t = new_store_number n in
      let x = object_of m h in
      record {
        to' = o.to';
        back' = o.back';
        renamed =
            object_change-renamed o.to' o.back' m' n' o.renamed h (λ x. record x { properties = x.properties ++ record { name = p; store = s } ∷ [] }) (λ x. record x { properties = x.properties ++ record { name = p; store = t } ∷ [] })
            (λ x. ap (λ i. record (renamed_object o.to' x) { properties = renamed_properties o.to' x.properties ++ record { name = p; store = i } ∷ [] }) (sym o.number) ∙ ap (λ vs. record (renamed_object o.to' x) { properties = vs }) (sym (renamed_properties-append o.to' x.properties (record { name = p; store = s } ∷ []))));
        same_spot = ap stored (sym o.number);
        closed =
            with_object-closed m' (with_new_store-closed m closed null tt) h (record x { properties = x.properties ++ record { name = p; store = s } ∷ [] })
            (properties_added (IsLive m') x.properties p s (Every-weaken (IsLive m) (IsLive m') o.extends.live (stores_of_properties x.properties) (object-closed m closed h)) (new-live m closed null));
        live = new-live m closed null;
        extends = record { live = o.extends.live; kept = o.extends.kept };
      }

  static_to_write-alike : (o : Option ℕ) → IfFound (IsLive m) o → (i : ℕ) → WalksAlike to m (static_to_write o m i) (static_to_write (map_if to o) n i)
  static_to_write-alike (Some s) h i = same_walk s h
  static_to_write-alike None h i =
      let o = new_null in
      let m' = with_new_store m null in
      let n' = with_new_store n null in
      let s = new_store_number m in
      record {
        to' = o.to';
        back' = o.back';
        renamed = subst (λ (x : ℕ). IsRenamed o.to' o.back' (record m' { statics = with_numbered m.statics i (Some s) }) (record n' { statics = with_numbered n.statics i (Some x) })) o.number (static-renamed o.to' o.back' m' n' o.renamed i (Some s));
        same_spot = ap stored (sym o.number);
        closed = with_static-closed m' (with_new_store-closed m closed null tt) i s (new-live m closed null);
        live = new-live m closed null;
        extends = record { live = o.extends.live; kept = o.extends.kept };
      }

  temp_to_write-alike : (o : Option Spot) → ((spot : Spot) → o ≡ Some spot → IsSpotLive m spot) → (b k : ℕ) → WalksAlike to m (temp_to_write o m b k) (temp_to_write (map_if (renamed_spot to) o) n b k)
  temp_to_write-alike (Some spot) h b k = record { to' = to; back' = back; renamed = r; same_spot = refl; closed = closed; live = h spot refl; extends = Extends-refl to m }
  temp_to_write-alike None h b k = record { to' = to; back' = back; renamed = r; same_spot = refl; closed = closed; live = tt; extends = Extends-refl to m }

  found_static : (o : Option ℕ) → ((s : ℕ) → o ≡ Some s → IsLive m s) → IfFound (IsLive m) o
  found_static None h = tt
  found_static (Some s) h = h s refl

  temp_spot_live : (b k : ℕ) (i : Option Item) → nth_item (scope_of m b).temps k ≡ i → (spot : Spot) → temp_spot b k i ≡ Some spot → IsSpotLive m spot
  temp_spot_live b k None e spot h = absurd (none h)
    where
      none : None ≡ Some spot → ⊥
      none h = cc
  temp_spot_live b k (Some (value c)) e spot h = let same : standing b k ≡ spot = cc in subst (IsSpotLive m) same tt
  temp_spot_live b k (Some (link s)) e spot h = let same : stored s ≡ spot = cc in subst (IsSpotLive m) same (nth_link-found (IsLive m) (scope_of m b).temps k s (temps-closed m closed b) e)

  pub base_to_write-alike : (base : Base) → WalksAlike to m (base_to_write m base) (base_to_write n base)
  base_to_write-alike (Var b k) =
      let o = variable_store (scope_of m b.0).variables k.0 in
      subst (λ (x : Option ℕ). WalksAlike to m (variable_to_write o m b.0 k.0) (variable_to_write x n b.0 k.0)) (sym (variable_store_in-renamed to back m n r b.0 k.0)) (variable_to_write-alike o (variable-found (IsLive m) (scope_of m b.0).variables k.0 (variables-closed m closed b.0)) b.0 k.0)
  base_to_write-alike (OfObject h p) =
      let o = property_store (object_of m h.0).properties p in
      subst (λ (x : Option ℕ). WalksAlike to m (property_to_write o m h.0 p) (property_to_write x n h.0 p)) (sym (property_store_in-renamed to back m n r h.0 p)) (property_to_write-alike o (property-found (IsLive m) (object_of m h.0).properties p (object-closed m closed h.0)) h.0 p)
  base_to_write-alike (Static i) =
      let o = numbered m.statics i.0 in
      subst (λ (x : Option ℕ). WalksAlike to m (static_to_write o m i.0) (static_to_write x n i.0)) (sym (r.statics i.0)) (static_to_write-alike o (found_static o (closed.statics i.0)) i.0)
  base_to_write-alike (Temp b k) =
      let i = nth_item (scope_of m b.0).temps k in
      subst (λ (x : Option Spot). WalksAlike to m (temp_to_write (temp_spot b.0 k i) m b.0 k) (temp_to_write x n b.0 k)) (sym (ap (temp_spot b.0 k) (nth_temp-renamed to back m n r b.0 k) ∙ temp_spot-renamed to b.0 k i)) (temp_to_write-alike (temp_spot b.0 k i) (temp_spot_live b.0 k i refl) b.0 k)

pub walk_on-alike : (to : ℕ → ℕ) (m : Mem) (w w' : Walk) → WalksAlike to m w w' → (step : Step) → WalksAlike to m (walk_step w step) (walk_step w' step)
walk_on-alike to m (stopped v) (stopped w) a step = a
walk_on-alike to m (reached m' spot) (stopped w) a step = absurd a
walk_on-alike to m (stopped v) (reached n' spot') a step = absurd a
walk_on-alike to m (reached m' spot) (reached n' spot') a step =
    subst (λ (x : Spot). WalksAlike to m (walk_step (reached m' spot) step) (walk_step (reached n' x) step)) (sym a.same_spot)
    (walks_extended to a.to' m m' a.extends (walk_step (reached m' spot) step) (walk_step (reached n' (renamed_spot a.to' spot)) step) (walk_step-alike a.to' a.back' m' n' a.renamed a.closed spot a.live step))

walk_along-alike : (to : ℕ → ℕ) (m : Mem) (w w' : Walk) → WalksAlike to m w w' → (path : List Step) → WalksAlike to m (walk_along w path) (walk_along w' path)
walk_along-alike to m w w' a [] = a
walk_along-alike to m w w' a (step ∷ path) = walk_along-alike to m (walk_step w step) (walk_step w' step) (walk_on-alike to m w w' a step) path

module _ (to back : ℕ → ℕ) (m n : Mem) (r : IsRenamed to back m n) (closed : IsClosed m) where
  pub walk-alike : (base : Base) (path : List Step) → WalksAlike to m (walk m base path) (walk n base path)
  unfolding walk
  walk-alike base path = walk_along-alike to m (base_to_write m base) (base_to_write n base) (base_to_write-alike to back m n r closed base) path

-- what the writes make of two walks

abbrev pub AnswersAlike : {R : Type 0} → Mem × R → Mem × R → Type 0
AnswersAlike p q = Alike p.0 q.0 × (q.1 ≡ p.1)

moved_in-renamed : (to back : ℕ → ℕ) (m n : Mem) → IsRenamed to back m n → (i : Item) (b : ℕ) (spot : Spot) → IsRenamed to back (moved_in i m b spot) (moved_in (renamed_item to i) n b (renamed_spot to spot))
moved_in-renamed to back m n r (link s) b spot = r
moved_in-renamed to back m n r (value c) b spot =
    subst (λ (d : Content). IsRenamed to back (moved_in (value c) m b spot) (let_fall (popped (with_content n (renamed_spot to spot) (renamed_content to c)) b) b (value d))) (sym (content_at-renamed to back m n r spot))
    (let_fall-renamed to back _ _ (popped-renamed to back _ _ (with_content-renamed to back m n r spot c) b) b (value (content_at m spot)))

assigned-alike : (to back : ℕ → ℕ) (m n : Mem) → IsRenamed to back m n → (w w' : Walk) → WalksAlike to m w w' → (b : ℕ) → AnswersAlike (assigned w m b) (assigned w' n b)
assigned-alike to back m n r (stopped v) (stopped w) a b = (record { to = to; back = back; renamed = r }, a)
assigned-alike to back m n r (reached m' spot) (stopped w) a b = absurd a
assigned-alike to back m n r (stopped v) (reached n' spot') a b = absurd a
assigned-alike to back m n r (reached m' spot) (reached n' spot') a b = (
  record {
    to = a.to';
    back = a.back';
    renamed =
        subst (λ (x : Spot). IsRenamed a.to' a.back' (moved_in (top m' b) m' b spot) (moved_in (top n' b) n' b x)) (sym a.same_spot)
        (subst (λ (i : Item). IsRenamed a.to' a.back' (moved_in (top m' b) m' b spot) (moved_in i n' b (renamed_spot a.to' spot))) (sym (top-renamed a.to' a.back' m' n' a.renamed b)) (moved_in-renamed a.to' a.back' m' n' a.renamed (top m' b) b spot));
  },
  refl,
)

linked-alike : (to back : ℕ → ℕ) (m n : Mem) → IsRenamed to back m n → (w w' : Walk) → WalksAlike to m w w' → (b : ℕ) → AnswersAlike (linked w m b) (linked w' n b)
linked-alike to back m n r (stopped v) (stopped w) a b = (record { to = to; back = back; renamed = r }, a)
linked-alike to back m n r (reached m' spot) (stopped w) a b = absurd a
linked-alike to back m n r (stopped v) (reached n' spot') a b = absurd a
linked-alike to back m n r (reached m' (standing c k)) (reached n' spot') a b =
    subst (λ (x : Spot). AnswersAlike (linked (reached m' (standing c k)) m b) (linked (reached n' x) n b)) (sym a.same_spot) (record { to = to; back = back; renamed = r }, refl)
linked-alike to back m n r (reached m' (stored s)) (reached n' spot') a b =
    subst (λ (x : Spot). AnswersAlike (linked (reached m' (stored s)) m b) (linked (reached n' x) n b)) (sym a.same_spot)
    (record { to = a.to'; back = a.back'; renamed = pushed-renamed a.to' a.back' m' n' a.renamed b (link s) }, refl)

-- places that point to one store, up to the numbers

record BoundAlike (m' n' : Mem) (before before' : Option ℕ) : Type 0 where
  to' : ℕ → ℕ
  back' : ℕ → ℕ
  renamed : IsRenamed to' back' m' n'
  same_store : before' ≡ map_if to' before

abbrev BoundsAlike : Bound → Bound → Type 0
BoundsAlike (bound m' before) (bound n' before') = BoundAlike m' n' before before'
BoundsAlike (unbound v) (unbound w) = w ≡ v
BoundsAlike (bound m' before) (unbound w) = ⊥
BoundsAlike (unbound v) (bound n' before') = ⊥

module _ (to back : ℕ → ℕ) (m n : Mem) (r : IsRenamed to back m n) where
  element_bound-alike : (g : Growth ℕ) (o : Option ℕ) (spot : Spot) → BoundsAlike (element_bound g o m spot) (element_bound (map_growth to g) (map_if to o) n (renamed_spot to spot))
  element_bound-alike (Grown u) o spot = record { to' = to; back' = back; renamed = with_content-renamed to back m n r spot (array u); same_store = refl }
  element_bound-alike NoKeyLeft o spot = refl
  element_bound-alike NoEntryLeft o spot = refl

  bound_in-alike : (o : Option (Listing ℕ)) (spot : Spot) (step : Step) (s : ℕ) → BoundsAlike (bound_in_elements o m spot step s) (bound_in_elements (map_if (map_listing to) o) n (renamed_spot to spot) step (to s))
  bound_in-alike None spot step s = refl
  bound_in-alike (Some t) spot step s =
      subst (λ (g : Growth ℕ). BoundsAlike (bound_in_elements (Some t) m spot step s) (element_bound g (step_store (map_listing to t) step) n (renamed_spot to spot))) (sym (step_set-map to t step s))
      (subst (λ (e : Option ℕ). BoundsAlike (bound_in_elements (Some t) m spot step s) (element_bound (map_growth to (step_set t step s)) e n (renamed_spot to spot))) (sym (step_store-renamed to t step)) (element_bound-alike (step_set t step s) (step_store t step) spot))

  base_bound-alike : (base : Base) (s : ℕ) → BoundsAlike (base_bound m base s) (base_bound n base (to s))
  base_bound-alike (Var b k) s = record {
    to' = to;
    back' = back;
    renamed = scope_change-renamed to back m n r b.0 (λ x. record x { variables = with_variable k.0 s x.variables }) (λ x. record x { variables = with_variable k.0 (to s) x.variables }) (λ x. ap (λ vs. record (renamed_scope to x) { variables = vs }) (with_variable-renamed to k.0 s x.variables));
    same_store = variable_store_in-renamed to back m n r b.0 k.0;
  }
  base_bound-alike (OfObject h p) s = record {
    to' = to;
    back' = back;
    renamed = object_change-renamed to back m n r h.0 (λ x. record x { properties = with_property p s x.properties }) (λ x. record x { properties = with_property p (to s) x.properties }) (λ x. ap (λ ps. record (renamed_object to x) { properties = ps }) (with_property-renamed to p s x.properties));
    same_store = property_store_in-renamed to back m n r h.0 p;
  }
  base_bound-alike (Static i) s = record { to' = to; back' = back; renamed = static-renamed to back m n r i.0 (Some s); same_store = r.statics i.0 }
  base_bound-alike (Temp b k) s = record { to' = to; back' = back; renamed = r; same_store = refl }

walk_bound-alike : (to : ℕ → ℕ) (m : Mem) (w w' : Walk) → WalksAlike to m w w' → (step : Step) (s : ℕ) → IsLive m s → BoundsAlike (element_of_walk_bound w step s) (element_of_walk_bound w' step (to s))
walk_bound-alike to m (stopped v) (stopped w) a step s h = a
walk_bound-alike to m (reached m' spot) (stopped w) a step s h = absurd a
walk_bound-alike to m (stopped v) (reached n' spot') a step s h = absurd a
walk_bound-alike to m (reached m' spot) (reached n' spot') a step s h =
    let es = elements_to_write (content_at m' spot) in
    subst (λ (x : Spot). BoundsAlike (element_of_walk_bound (reached m' spot) step s) (element_of_walk_bound (reached n' x) step (to s))) (sym a.same_spot)
    (subst (λ (o : Option (Listing ℕ)). BoundsAlike (element_of_walk_bound (reached m' spot) step s) (bound_in_elements o n' (renamed_spot a.to' spot) step (to s))) (sym (elements_at-renamed a.to' a.back' m' n' a.renamed a.closed spot))
    (subst (λ (x : ℕ). BoundsAlike (element_of_walk_bound (reached m' spot) step s) (bound_in_elements (map_if (map_listing a.to') es) n' (renamed_spot a.to' spot) step x)) (a.extends.kept s h) (bound_in-alike a.to' a.back' m' n' a.renamed es spot step s)))

finish_bind-alike : (to back : ℕ → ℕ) (m n : Mem) → IsRenamed to back m n → (x y : Bound) → BoundsAlike x y → (b : ℕ) → AnswersAlike (finish_bind x m b) (finish_bind y n b)
finish_bind-alike to back m n r (unbound v) (unbound w) a b = (record { to = to; back = back; renamed = r }, a)
finish_bind-alike to back m n r (bound m' o) (unbound w) a b = absurd a
finish_bind-alike to back m n r (unbound v) (bound n' p) a b = absurd a
finish_bind-alike to back m n r (bound m' o) (bound n' p) a b = (
  record {
    to = a.to';
    back = a.back';
    renamed = subst (λ (q : Option ℕ). IsRenamed a.to' a.back' (let_fall_if (popped m' b) b o) (let_fall_if (popped n' b) b q)) (sym a.same_store) (let_fall_if-renamed a.to' a.back' _ _ (popped-renamed a.to' a.back' m' n' a.renamed b) b o);
  },
  refl,
)

module _ (m n : Mem) (closed : IsClosed m) (a : Alike m n) where
  pub assign-alike : (b : ℕ) (p : Place) → AnswersAlike (assign m b p) (assign n b p)
  unfolding assign
  assign-alike b p = assigned-alike a.to a.back m n a.renamed (walk m p.base p.path) (walk n p.base p.path) (walk-alike a.to a.back m n a.renamed closed p.base p.path) b

  pub make_link-alike : (b : ℕ) (p : Place) → AnswersAlike (make_link m b p) (make_link n b p)
  unfolding make_link
  make_link-alike b p = linked-alike a.to a.back m n a.renamed (walk m p.base p.path) (walk n p.base p.path) (walk-alike a.to a.back m n a.renamed closed p.base p.path) b

  bound_at-alike : (base : Base) (path : List Step) (s : ℕ) → IsLive m s → BoundsAlike (bound_at m base path s) (bound_at n base path (a.to s))
  bound_at-alike base [] s h = base_bound-alike a.to a.back m n a.renamed base s
  bound_at-alike base (step ∷ path) s h = walk_bound-alike a.to m (walk m base (steps_before step path)) (walk n base (steps_before step path)) (walk-alike a.to a.back m n a.renamed closed base (steps_before step path)) (last_step step path) s h

  bind_top-alike : (i : Item) → ((s : ℕ) → i ≡ link s → IsLive m s) → (b : ℕ) (p : Place) → AnswersAlike (bind_top i m b p) (bind_top (renamed_item a.to i) n b p)
  bind_top-alike (value c) h b p = (a, refl)
  bind_top-alike (link s) h b p = finish_bind-alike a.to a.back m n a.renamed (bound_at m p.base p.path s) (bound_at n p.base p.path (a.to s)) (bound_at-alike p.base p.path s (h s refl)) b

  pub top_link-live : (b s : ℕ) → top m b ≡ link s → IsLive m s
  top_link-live b s e = first (scope_of m b).temps (temps-closed m closed b) e
    where
      first : (is : List Item) → Every (IsLive m) (stores_of_items is) → top_of is ≡ link s → IsLive m s
      first [] h e = absurd (no e)
        where
          no : value null ≡ link s → ⊥
          no e = cc
      first (i ∷ is) h e = nth_link-found (IsLive m) (i ∷ is) 0 s h (ap Some e)

  pub bind-alike : (b : ℕ) (p : Place) → AnswersAlike (bind m b p) (bind n b p)
  unfolding bind
  bind-alike b p = subst (λ (i : Item). AnswersAlike (bind_top (top m b) m b p) (bind_top i n b p)) (sym (top-renamed a.to a.back m n a.renamed b)) (bind_top-alike (top m b) (top_link-live b) b p)
