-- Places that are found, and what is removed there, in memories that differ in the numbers of their stores.
use Rattle.std.proofs.Common.{◌≡◌, ℕ, List, [], ◌∷◌, refl, sym, ◌∙◌, ap, subst}
use Rattle.std.specs.Prelude.{Option, Some, None, option_map}
use Rattle.php_entries.specs.Listing.{Entry, Listing, entry_at, last_of}
use Rattle.php_entries.specs.Changes.{map_entry, map_listing, remove_key, pop_entry}
use Rattle.php_entries.proofs.MapLemmas.{entry_at-map, remove_key-map, pop_entry-map}
use Rattle.php_memdef.specs.declared.place.PropName.{PropName}
use Rattle.php_memdef.specs.declared.place.Base.{Base}
use Rattle.php_memdef.specs.declared.place.Base.TheVariants.{Var, Property as OfObject, Static, Temp}
use Rattle.php_memdef.specs.declared.place.Step.{Step}
use Rattle.php_memdef.specs.declared.place.Step.TheVariants.{At, Push}
use Rattle.php_memdef.specs.declared.place.Place.{Place}
use Rattle.php_memdef.specs.Numbered.{numbered}
use Rattle.php_memdef.specs.Contents.{Content, null, truth, int, text, array, object, Item, value, link, Variable, Scope, Mem, scope_of, object_of}
use Rattle.php_memdef.specs.Places.{Spot, stored, standing, nth_item, with_nth_item, content_if, content_at, with_content, variable_store, property_store, stored_if, temp_spot, base_spot, elements_of, entry_store, step_store, step_store_if, next_spot, spot_along, find_place}
use Rattle.php_memdef.specs.Temporaries.{let_fall}
use Rattle.php_memdef.specs.Writes.{steps_before, last_step, without_variable, without_property, variable_removed, property_removed, element_removed, removed_in_elements, removed_at_spot, base_removed, removed_at, unset, last_removed, last_removed_in, last_removed_at, unset_last, forget, shed_first, shed}
use Rattle.php_memdef.specs.Alike.{map_if, renamed_content, renamed_item, renamed_variables, renamed_scope, renamed_object, IsRenamed}
use Rattle.php_memdef_laws.proofs.Alike.Memories.{content_of-renamed, scope_of-renamed, object_of-renamed, store-renamed, scope_change-renamed, object_change-renamed}
use Rattle.php_memdef_laws.proofs.Alike.Scopes.{nth_item-renamed, with_nth_item-renamed, variable_store-renamed, without_variable-renamed, property_store-renamed, without_property-renamed, let_fall-renamed}

abbrev pub renamed_spot : (ℕ → ℕ) → Spot → Spot
renamed_spot to (stored s) = stored (to s)
renamed_spot to (standing b n) = standing b n

module _ (to : ℕ → ℕ) where
  pub stored_if-renamed : (o : Option ℕ) → stored_if (map_if to o) ≡ map_if (renamed_spot to) (stored_if o)
  stored_if-renamed None = refl
  stored_if-renamed (Some s) = refl

  pub temp_spot-renamed : (b n : ℕ) (o : Option Item) → temp_spot b n (map_if (renamed_item to) o) ≡ map_if (renamed_spot to) (temp_spot b n o)
  temp_spot-renamed b n None = refl
  temp_spot-renamed b n (Some (value c)) = refl
  temp_spot-renamed b n (Some (link s)) = refl

  content_if-renamed : (o : Option Item) → content_if (map_if (renamed_item to) o) ≡ renamed_content to (content_if o)
  content_if-renamed None = refl
  content_if-renamed (Some (value c)) = refl
  content_if-renamed (Some (link s)) = refl

  pub elements_of-renamed : (c : Content) → elements_of (renamed_content to c) ≡ map_if (map_listing to) (elements_of c)
  elements_of-renamed null = refl
  elements_of-renamed (truth b) = refl
  elements_of-renamed (int i) = refl
  elements_of-renamed (text bytes) = refl
  elements_of-renamed (array t) = refl
  elements_of-renamed (object h) = refl

  entry_store-renamed : (o : Option (Entry ℕ)) → entry_store (option_map (map_entry to) o) ≡ map_if to (entry_store o)
  entry_store-renamed None = refl
  entry_store-renamed (Some e) = refl

  pub step_store-renamed : (t : Listing ℕ) (step : Step) → step_store (map_listing to t) step ≡ map_if to (step_store t step)
  step_store-renamed t (At k) = ap entry_store (entry_at-map to t k) ∙ entry_store-renamed (entry_at t k)
  step_store-renamed t Push = refl

  pub step_store_if-renamed : (o : Option (Listing ℕ)) (step : Step) → step_store_if (map_if (map_listing to) o) step ≡ map_if to (step_store_if o step)
  step_store_if-renamed None step = refl
  step_store_if-renamed (Some t) step = step_store-renamed t step

module _ (to back : ℕ → ℕ) (m n : Mem) (r : IsRenamed to back m n) where
  pub nth_temp-renamed : (b k : ℕ) → nth_item (scope_of n b).temps k ≡ map_if (renamed_item to) (nth_item (scope_of m b).temps k)
  nth_temp-renamed b k = ap (λ x. nth_item x.temps k) (scope_of-renamed to back m n r b) ∙ nth_item-renamed to (scope_of m b).temps k

  pub content_at-renamed : (spot : Spot) → content_at n (renamed_spot to spot) ≡ renamed_content to (content_at m spot)
  content_at-renamed (stored s) = content_of-renamed to back m n r s
  content_at-renamed (standing b k) = ap content_if (nth_temp-renamed b k) ∙ content_if-renamed to (nth_item (scope_of m b).temps k)

  pub with_content-renamed : (spot : Spot) (c : Content) → IsRenamed to back (with_content m spot c) (with_content n (renamed_spot to spot) (renamed_content to c))
  with_content-renamed (stored s) c = store-renamed to back m n r s (Some c)
  with_content-renamed (standing b k) c =
      scope_change-renamed to back m n r b (λ x. record x { temps = with_nth_item x.temps k (value c) }) (λ x. record x { temps = with_nth_item x.temps k (value (renamed_content to c)) })
      (λ x. ap (λ is. record (renamed_scope to x) { temps = is }) (with_nth_item-renamed to x.temps k (value c)))

  pub variable_store_in-renamed : (b k : ℕ) → variable_store (scope_of n b).variables k ≡ map_if to (variable_store (scope_of m b).variables k)
  variable_store_in-renamed b k = ap (λ x. variable_store x.variables k) (scope_of-renamed to back m n r b) ∙ variable_store-renamed to (scope_of m b).variables k

  pub property_store_in-renamed : (h : ℕ) (p : PropName) → property_store (object_of n h).properties p ≡ map_if to (property_store (object_of m h).properties p)
  property_store_in-renamed h p = ap (λ x. property_store x.properties p) (object_of-renamed to back m n r h) ∙ property_store-renamed to (object_of m h).properties p

  pub base_spot-renamed : (base : Base) → base_spot n base ≡ map_if (renamed_spot to) (base_spot m base)
  base_spot-renamed (Var b k) = ap stored_if (variable_store_in-renamed b.0 k.0) ∙ stored_if-renamed to (variable_store (scope_of m b.0).variables k.0)
  base_spot-renamed (OfObject h p) = ap stored_if (property_store_in-renamed h.0 p) ∙ stored_if-renamed to (property_store (object_of m h.0).properties p)
  base_spot-renamed (Static i) = ap stored_if (r.statics i.0) ∙ stored_if-renamed to (numbered m.statics i.0)
  base_spot-renamed (Temp b k) = ap (temp_spot b.0 k) (nth_temp-renamed b.0 k) ∙ temp_spot-renamed to b.0 k (nth_item (scope_of m b.0).temps k)

  pub next_spot-renamed : (o : Option Spot) (step : Step) → next_spot n (map_if (renamed_spot to) o) step ≡ map_if (renamed_spot to) (next_spot m o step)
  next_spot-renamed None step = refl
  next_spot-renamed (Some spot) step =
      ap (λ c. stored_if (step_store_if (elements_of c) step)) (content_at-renamed spot)
      ∙ ap (λ t. stored_if (step_store_if t step)) (elements_of-renamed to (content_at m spot))
      ∙ ap stored_if (step_store_if-renamed to (elements_of (content_at m spot)) step)
      ∙ stored_if-renamed to (step_store_if (elements_of (content_at m spot)) step)

  pub spot_along-renamed : (o : Option Spot) (path : List Step) → spot_along n (map_if (renamed_spot to) o) path ≡ map_if (renamed_spot to) (spot_along m o path)
  spot_along-renamed o [] = refl
  spot_along-renamed o (step ∷ path) = ap (λ p. spot_along n p path) (next_spot-renamed o step) ∙ spot_along-renamed (next_spot m o step) path

  pub spot_from_base-renamed : (base : Base) (path : List Step) → spot_along n (base_spot n base) path ≡ map_if (renamed_spot to) (spot_along m (base_spot m base) path)
  spot_from_base-renamed base path = ap (λ o. spot_along n o path) (base_spot-renamed base) ∙ spot_along-renamed (base_spot m base) path

  pub find_place-renamed : (p : Place) → find_place n p ≡ map_if (renamed_spot to) (find_place m p)
  unfolding find_place
  find_place-renamed p = spot_from_base-renamed p.base p.path

  -- removals

  variable_removed-renamed : (o : Option ℕ) (b c k : ℕ) → IsRenamed to back (variable_removed o m b c k) (variable_removed (map_if to o) n b c k)
  variable_removed-renamed None b c k = r
  variable_removed-renamed (Some s) b c k =
      let_fall-renamed to back _ _
      (scope_change-renamed to back m n r c (λ x. record x { variables = without_variable k x.variables }) (λ x. record x { variables = without_variable k x.variables }) (λ x. ap (λ vs. record (renamed_scope to x) { variables = vs }) (without_variable-renamed to k x.variables)))
      b (link s)

  property_removed-renamed : (o : Option ℕ) (b h : ℕ) (p : PropName) → IsRenamed to back (property_removed o m b h p) (property_removed (map_if to o) n b h p)
  property_removed-renamed None b h p = r
  property_removed-renamed (Some s) b h p =
      let_fall-renamed to back _ _
      (object_change-renamed to back m n r h (λ x. record x { properties = without_property p x.properties }) (λ x. record x { properties = without_property p x.properties }) (λ x. ap (λ ps. record (renamed_object to x) { properties = ps }) (without_property-renamed to p x.properties)))
      b (link s)

  array_changed : (spot : Spot) (t u : Listing ℕ) → u ≡ map_listing to t → (b s : ℕ) → IsRenamed to back (let_fall (with_content m spot (array t)) b (link s)) (let_fall (with_content n (renamed_spot to spot) (array u)) b (link (to s)))
  array_changed spot t u e b s =
      let_fall-renamed to back (with_content m spot (array t)) (with_content n (renamed_spot to spot) (array u))
      (subst (λ (v : Listing ℕ). IsRenamed to back (with_content m spot (array t)) (with_content n (renamed_spot to spot) (array v))) (sym e) (with_content-renamed spot (array t)))
      b (link s)

  element_removed-renamed : (o : Option ℕ) (t : Listing ℕ) (b : ℕ) (spot : Spot) (step : Step) → IsRenamed to back (element_removed o t m b spot step) (element_removed (map_if to o) (map_listing to t) n b (renamed_spot to spot) step)
  element_removed-renamed None t b spot step = r
  element_removed-renamed (Some s) t b spot Push = r
  element_removed-renamed (Some s) t b spot (At k) = array_changed spot (remove_key t k) (remove_key (map_listing to t) k) (remove_key-map to t k) b s

  removed_in-renamed : (o : Option (Listing ℕ)) (b : ℕ) (spot : Spot) (step : Step) → IsRenamed to back (removed_in_elements o m b spot step) (removed_in_elements (map_if (map_listing to) o) n b (renamed_spot to spot) step)
  removed_in-renamed None b spot step = r
  removed_in-renamed (Some t) b spot step =
      subst (λ (o : Option ℕ). IsRenamed to back (element_removed (step_store t step) t m b spot step) (element_removed o (map_listing to t) n b (renamed_spot to spot) step)) (sym (step_store-renamed to t step)) (element_removed-renamed (step_store t step) t b spot step)

  removed_at_spot-renamed : (o : Option Spot) (b : ℕ) (step : Step) → IsRenamed to back (removed_at_spot o m b step) (removed_at_spot (map_if (renamed_spot to) o) n b step)
  removed_at_spot-renamed None b step = r
  removed_at_spot-renamed (Some spot) b step =
      subst (λ (o : Option (Listing ℕ)). IsRenamed to back (removed_in_elements (elements_of (content_at m spot)) m b spot step) (removed_in_elements o n b (renamed_spot to spot) step)) (sym (ap elements_of (content_at-renamed spot) ∙ elements_of-renamed to (content_at m spot))) (removed_in-renamed (elements_of (content_at m spot)) b spot step)

  base_removed-renamed : (b : ℕ) (base : Base) → IsRenamed to back (base_removed m b base) (base_removed n b base)
  base_removed-renamed b (Var c k) = subst (λ (o : Option ℕ). IsRenamed to back (base_removed m b (Var c k)) (variable_removed o n b c.0 k.0)) (sym (variable_store_in-renamed c.0 k.0)) (variable_removed-renamed (variable_store (scope_of m c.0).variables k.0) b c.0 k.0)
  base_removed-renamed b (OfObject h p) = subst (λ (o : Option ℕ). IsRenamed to back (base_removed m b (OfObject h p)) (property_removed o n b h.0 p)) (sym (property_store_in-renamed h.0 p)) (property_removed-renamed (property_store (object_of m h.0).properties p) b h.0 p)
  base_removed-renamed b (Static i) = r
  base_removed-renamed b (Temp c k) = r

  removed_at-renamed : (b : ℕ) (base : Base) (path : List Step) → IsRenamed to back (removed_at m b base path) (removed_at n b base path)
  removed_at-renamed b base [] = base_removed-renamed b base
  removed_at-renamed b base (step ∷ path) =
      let front = steps_before step path in
      subst (λ (o : Option Spot). IsRenamed to back (removed_at_spot (spot_along m (base_spot m base) front) m b (last_step step path)) (removed_at_spot o n b (last_step step path))) (sym (spot_from_base-renamed base front)) (removed_at_spot-renamed (spot_along m (base_spot m base) front) b (last_step step path))

  pub unset-renamed : (b : ℕ) (at : Place) → IsRenamed to back (unset m b at) (unset n b at)
  unfolding unset
  unset-renamed b at = removed_at-renamed b at.base at.path

  last_of-renamed : (es : List (Entry ℕ)) → last_of (map_listing to (record { entries = es; next_key = 0; next_serial = 0 })).entries ≡ map_if (map_entry to) (last_of es)
  last_of-renamed [] = refl
  last_of-renamed (e ∷ []) = refl
  last_of-renamed (e ∷ f ∷ es) = last_of-renamed (f ∷ es)

  last_removed-renamed : (o : Option (Entry ℕ)) (t : Listing ℕ) (b : ℕ) (spot : Spot) → IsRenamed to back (last_removed o t m b spot) (last_removed (map_if (map_entry to) o) (map_listing to t) n b (renamed_spot to spot))
  last_removed-renamed None t b spot = r
  last_removed-renamed (Some e) t b spot = array_changed spot (pop_entry t) (pop_entry (map_listing to t)) (pop_entry-map to t) b e.value

  last_removed_in-renamed : (o : Option (Listing ℕ)) (b : ℕ) (spot : Spot) → IsRenamed to back (last_removed_in o m b spot) (last_removed_in (map_if (map_listing to) o) n b (renamed_spot to spot))
  last_removed_in-renamed None b spot = r
  last_removed_in-renamed (Some t) b spot =
      subst (λ (o : Option (Entry ℕ)). IsRenamed to back (last_removed (last_of t.entries) t m b spot) (last_removed o (map_listing to t) n b (renamed_spot to spot))) (sym (last_of-renamed t.entries)) (last_removed-renamed (last_of t.entries) t b spot)

  last_removed_at-renamed : (o : Option Spot) (b : ℕ) → IsRenamed to back (last_removed_at o m b) (last_removed_at (map_if (renamed_spot to) o) n b)
  last_removed_at-renamed None b = r
  last_removed_at-renamed (Some spot) b =
      subst (λ (o : Option (Listing ℕ)). IsRenamed to back (last_removed_in (elements_of (content_at m spot)) m b spot) (last_removed_in o n b (renamed_spot to spot))) (sym (ap elements_of (content_at-renamed spot) ∙ elements_of-renamed to (content_at m spot))) (last_removed_in-renamed (elements_of (content_at m spot)) b spot)

  pub unset_last-renamed : (b : ℕ) (at : Place) → IsRenamed to back (unset_last m b at) (unset_last n b at)
  unfolding unset_last
  unset_last-renamed b at = subst (λ (o : Option Spot). IsRenamed to back (last_removed_at (find_place m at) m b) (last_removed_at o n b)) (sym (find_place-renamed at)) (last_removed_at-renamed (find_place m at) b)

  pub forget-renamed : (b k : ℕ) → IsRenamed to back (forget m b k) (forget n b k)
  unfolding forget
  forget-renamed b k = subst (λ (o : Option ℕ). IsRenamed to back (variable_removed (variable_store (scope_of m b).variables k) m b b k) (variable_removed o n b b k)) (sym (variable_store_in-renamed b k)) (variable_removed-renamed (variable_store (scope_of m b).variables k) b b k)

  shed_first-renamed : (vs : List Variable) (b : ℕ) → IsRenamed to back (shed_first vs m b).0 (shed_first (renamed_variables to vs) n b).0 × ((shed_first (renamed_variables to vs) n b).1 ≡ (shed_first vs m b).1)
  shed_first-renamed [] b = (r, refl)
  shed_first-renamed (v ∷ vs) b =
      (let_fall-renamed to back _ _ (scope_change-renamed to back m n r b (λ x. record x { variables = vs }) (λ x. record x { variables = renamed_variables to vs }) (λ x. refl)) b (link v.store), refl)

  pub shed-renamed : (b : ℕ) → IsRenamed to back (shed m b).0 (shed n b).0 × ((shed n b).1 ≡ (shed m b).1)
  unfolding shed
  shed-renamed b =
      subst (λ (x : Scope). IsRenamed to back (shed_first (scope_of m b).variables m b).0 (shed_first x.variables n b).0 × ((shed_first x.variables n b).1 ≡ (shed_first (scope_of m b).variables m b).1)) (sym (scope_of-renamed to back m n r b)) (shed_first-renamed (scope_of m b).variables b)
