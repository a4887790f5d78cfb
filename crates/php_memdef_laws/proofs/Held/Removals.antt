-- Removals keep what is there held.
use Rattle.std.proofs.Common.{◌≡◌, ℕ, ◌+◌, List, [], ◌∷◌, refl, sym, ◌∙◌, ap, subst, arith, inl, inr, cond}
use Rattle.std.specs.Prelude.{Bool, true, false, nat_eq, Option, Some, None, IsSome, find}
use Rattle.php_value.specs.declared.key.Key.{Key}
use Rattle.php_entries.specs.Keys.{key_eq}
use Rattle.php_entries.specs.Listing.{Entry, Listing, last_of}
use Rattle.php_entries.specs.Changes.{without_key, without_last, popped as popped_entry, remove_key, pop_entry}
use Rattle.php_memdef.specs.declared.place.PropName.{PropName}
use Rattle.php_memdef.specs.declared.place.Base.{Base}
use Rattle.php_memdef.specs.declared.place.Base.TheVariants.{Var, Property as OfObject, Static, Temp}
use Rattle.php_memdef.specs.declared.place.Step.{Step}
use Rattle.php_memdef.specs.declared.place.Step.TheVariants.{At, Push}
use Rattle.php_memdef.specs.declared.place.Place.{Place}
use Rattle.php_memdef.specs.Numbered.{Numbered, numbered}
use Rattle.php_memdef.specs.Contents.{Content, null, truth, int, text, array, object, Item, value, link, Variable, Property, Object, Mem, scope_of, object_of}
use Rattle.php_memdef.specs.Holders.{times, stores_of_entries, stores_of_content, stores_of_variables, stores_of_properties, holders, handles_of_content, object_holders}
use Rattle.php_memdef.specs.Places.{Spot, nth_item, content_at, with_content, with_scope, with_object, variable_store, property_store, prop_name_eq, temp_spot, base_spot, stored_if, elements_of, entry_store, step_store, step_store_if, next_spot, spot_along, find_place}
use Rattle.php_memdef.specs.Temporaries.{let_fall}
use Rattle.php_memdef.specs.Writes.{steps_before, last_step, without_variable, without_property, variable_removed, property_removed, element_removed, removed_in_elements, removed_at_spot, base_removed, removed_at, unset, last_removed, last_removed_in, last_removed_at, unset_last, forget, shed_first, shed}
use Rattle.php_memdef.specs.Sound.{IsLive, IsHeld, IsClosed, Every}
use Rattle.php_memdef.specs.Conditions.{IsObject, IsBase, IsPlace}
use Rattle.php_memdef_laws.proofs.NumberedLemmas.{live-with}
use Rattle.php_memdef_laws.proofs.Closed.Parts.{variable-found, step-found, property-found, nth_link-found, variables-closed, temps-closed, object-closed, content_at-closed}
use Rattle.php_memdef_laws.proofs.Held.Parts.{held_after, same_there, holders-with_object, handles-with_object, holders-with_variables, handles-with_variables, holders-let_fall, handles-let_fall}
use Rattle.php_memdef_laws.proofs.Held.Writes.{IsReal, IsThere, holders-with_content, handles-with_content, objects_kept, live_with_content, there_of, weight_of_live, found_live}

module _ (x : ℕ) where
  pub variable_gone : (n : ℕ) (vs : List Variable) (s : ℕ) → variable_store vs n ≡ Some s → times x (stores_of_variables (without_variable n vs)) + times x (s ∷ []) ≡ times x (stores_of_variables vs)
  variable_gone n [] s e = absurd (no e)
    where
      no : None ≡ Some s → ⊥
      no e = cc
  variable_gone n (v ∷ vs) s e = chosen (nat_eq n v.name) refl (variable_gone n vs s)
    where
      chosen : (b : Bool) → nat_eq n v.name ≡ b → (variable_store vs n ≡ Some s → times x (stores_of_variables (without_variable n vs)) + times x (s ∷ []) ≡ times x (stores_of_variables vs)) → times x (stores_of_variables (without_variable n (v ∷ vs))) + times x (s ∷ []) ≡ times x (stores_of_variables (v ∷ vs))
      chosen true q later =
          let same : v.store ≡ s = of_some (sym (ap (λ b. cond b (Some v.store) (variable_store vs n)) q) ∙ e) in
          let a : times x (stores_of_variables (without_variable n (v ∷ vs))) ≡ times x (stores_of_variables vs) = ap (λ b. times x (stores_of_variables (cond b vs (v ∷ without_variable n vs)))) q in
          let g : times x (s ∷ []) ≡ times x (v.store ∷ []) = ap (λ y. times x (y ∷ [])) (sym same) in
          omega (arith, a, g)
        where
          of_some : Some v.store ≡ Some s → v.store ≡ s
          of_some p = cc
      chosen false q later =
          let rest : variable_store vs n ≡ Some s = sym (ap (λ b. cond b (Some v.store) (variable_store vs n)) q) ∙ e in
          let a : times x (stores_of_variables (without_variable n (v ∷ vs))) ≡ times x (v.store ∷ stores_of_variables (without_variable n vs)) = ap (λ b. times x (stores_of_variables (cond b vs (v ∷ without_variable n vs)))) q in
          omega (arith, a, later rest)

  property_gone : (n : PropName) (ps : List Property) (s : ℕ) → property_store ps n ≡ Some s → times x (stores_of_properties (without_property n ps)) + times x (s ∷ []) ≡ times x (stores_of_properties ps)
  property_gone n [] s e = absurd (no e)
    where
      no : None ≡ Some s → ⊥
      no e = cc
  property_gone n (v ∷ vs) s e = chosen (prop_name_eq n v.name) refl (property_gone n vs s)
    where
      chosen : (b : Bool) → prop_name_eq n v.name ≡ b → (property_store vs n ≡ Some s → times x (stores_of_properties (without_property n vs)) + times x (s ∷ []) ≡ times x (stores_of_properties vs)) → times x (stores_of_properties (without_property n (v ∷ vs))) + times x (s ∷ []) ≡ times x (stores_of_properties (v ∷ vs))
      chosen true q later =
          let same : v.store ≡ s = of_some (sym (ap (λ b. cond b (Some v.store) (property_store vs n)) q) ∙ e) in
          let a : times x (stores_of_properties (without_property n (v ∷ vs))) ≡ times x (stores_of_properties vs) = ap (λ b. times x (stores_of_properties (cond b vs (v ∷ without_property n vs)))) q in
          let g : times x (s ∷ []) ≡ times x (v.store ∷ []) = ap (λ y. times x (y ∷ [])) (sym same) in
          omega (arith, a, g)
        where
          of_some : Some v.store ≡ Some s → v.store ≡ s
          of_some p = cc
      chosen false q later =
          let rest : property_store vs n ≡ Some s = sym (ap (λ b. cond b (Some v.store) (property_store vs n)) q) ∙ e in
          let a : times x (stores_of_properties (without_property n (v ∷ vs))) ≡ times x (v.store ∷ stores_of_properties (without_property n vs)) = ap (λ b. times x (stores_of_properties (cond b vs (v ∷ without_property n vs)))) q in
          omega (arith, a, later rest)

  entry_gone : (k : Key) (es : List (Entry ℕ)) (s : ℕ) → entry_store (find (λ e. key_eq k e.key) es) ≡ Some s → times x (stores_of_entries (without_key k es)) + times x (s ∷ []) ≡ times x (stores_of_entries es)
  entry_gone k [] s e = absurd (no e)
    where
      no : None ≡ Some s → ⊥
      no e = cc
  entry_gone k (d ∷ es) s e = chosen (key_eq k d.key) refl (entry_gone k es s)
    where
      chosen : (b : Bool) → key_eq k d.key ≡ b → (entry_store (find (λ e. key_eq k e.key) es) ≡ Some s → times x (stores_of_entries (without_key k es)) + times x (s ∷ []) ≡ times x (stores_of_entries es)) → times x (stores_of_entries (without_key k (d ∷ es))) + times x (s ∷ []) ≡ times x (stores_of_entries (d ∷ es))
      chosen true q later =
          let same : d.value ≡ s = of_some (sym (ap (λ b. entry_store (cond b (Some d) (find (λ e. key_eq k e.key) es))) q) ∙ e) in
          let a : times x (stores_of_entries (without_key k (d ∷ es))) ≡ times x (stores_of_entries es) = ap (λ b. times x (stores_of_entries (cond b es (d ∷ without_key k es)))) q in
          let g : times x (s ∷ []) ≡ times x (d.value ∷ []) = ap (λ y. times x (y ∷ [])) (sym same) in
          omega (arith, a, g)
        where
          of_some : Some d.value ≡ Some s → d.value ≡ s
          of_some p = cc
      chosen false q later =
          let rest : entry_store (find (λ e. key_eq k e.key) es) ≡ Some s = sym (ap (λ b. entry_store (cond b (Some d) (find (λ e. key_eq k e.key) es))) q) ∙ e in
          let a : times x (stores_of_entries (without_key k (d ∷ es))) ≡ times x (d.value ∷ stores_of_entries (without_key k es)) = ap (λ b. times x (stores_of_entries (cond b es (d ∷ without_key k es)))) q in
          omega (arith, a, later rest)

  last_gone : (es : List (Entry ℕ)) (e : Entry ℕ) → last_of es ≡ Some e → times x (stores_of_entries (without_last es)) + times x (e.value ∷ []) ≡ times x (stores_of_entries es)
  last_gone [] e f = absurd (no f)
    where
      no : None ≡ Some e → ⊥
      no f = cc
  last_gone (d ∷ []) e f = let g : times x (e.value ∷ []) ≡ times x (d.value ∷ []) = ap (λ (y : Entry ℕ). times x (y.value ∷ [])) (sym (of_some f)) in omega (arith, g)
    where
      of_some : Some d ≡ Some e → d ≡ e
      of_some f = cc
  last_gone (d ∷ c ∷ es) e f = omega (arith, last_gone (c ∷ es) e f)

  remove-times : (t : Listing ℕ) (k : Key) (s : ℕ) → step_store t (At k) ≡ Some s → times x (stores_of_entries (remove_key t k).entries) + times x (s ∷ []) ≡ times x (stores_of_entries t.entries)
  unfolding remove_key
  remove-times t k s e = entry_gone k t.entries s e

  popped-times : (o : Option (Entry ℕ)) (t : Listing ℕ) (e : Entry ℕ) → o ≡ Some e → last_of t.entries ≡ o → times x (stores_of_entries (popped_entry o t).entries) + times x (e.value ∷ []) ≡ times x (stores_of_entries t.entries)
  popped-times None t e p q = absurd (no p)
    where
      no : None ≡ Some e → ⊥
      no p = cc
  popped-times (Some d) t e p q = last_gone t.entries e (q ∙ p)

  pop-times : (t : Listing ℕ) (e : Entry ℕ) → last_of t.entries ≡ Some e → times x (stores_of_entries (pop_entry t).entries) + times x (e.value ∷ []) ≡ times x (stores_of_entries t.entries)
  unfolding pop_entry
  pop-times t e f = popped-times (last_of t.entries) t e f refl

-- what falls is what was removed

removed : (m n : Mem) (b s : ℕ) → ((k : ℕ) → IsLive n k → IsLive m k) → ((x : ℕ) → holders n x + times x (s ∷ []) ≡ holders m x) → ((h : ℕ) → IsObject n h → IsObject m h) → ((h : ℕ) → IsObject m h → IsObject n h) → ((h : ℕ) → object_holders n h ≡ object_holders m h) → IsHeld m → IsHeld (let_fall n b (link s))
removed m n b s live names objects stay handles held =
    held_after m (let_fall n b (link s)) held (same_there m (let_fall n b (link s)) live (λ x. omega (arith, names x, holders-let_fall n x b (link s))) objects stay (λ h. omega (arith, handles h, handles-let_fall n h b (link s))))

-- the elements of an array name what its content names
abbrev Elements : Content → Option (Listing ℕ) → Type 0
Elements c None = Unit {0}
Elements c (Some t) = (stores_of_content c ≡ stores_of_entries t.entries) × (handles_of_content c ≡ [])

elements_found : (c : Content) → Elements c (elements_of c)
elements_found null = tt
elements_found (truth b) = tt
elements_found (int i) = tt
elements_found (text bytes) = tt
elements_found (array t) = (refl, refl)
elements_found (object h) = tt

module _ (m : Mem) (held : IsHeld m) where
  variable_removed-held : (o : Option ℕ) (b c n : ℕ) → variable_store (scope_of m c).variables n ≡ o → IsHeld (variable_removed o m b c n)
  variable_removed-held None b c n e = held
  variable_removed-held (Some s) b c n e =
      let vs = (scope_of m c).variables in
      removed m (with_scope m c (record (scope_of m c) { variables = without_variable n vs })) b s (λ k h. h) (λ x. omega (arith, holders-with_variables m x c (without_variable n vs), variable_gone x n vs s e)) (λ h d. d) (λ h d. d) (λ h. handles-with_variables m h c (without_variable n vs)) held

  property_removed-held : (o : Option ℕ) (b h : ℕ) (p : PropName) → IsObject m h → property_store (object_of m h).properties p ≡ o → IsHeld (property_removed o m b h p)
  property_removed-held None b h p live e = held
  property_removed-held (Some s) b h p live e =
      let y = object_of m h in
      let z : Object = record y { properties = without_property p y.properties } in
      removed m (with_object m h z) b s (λ k d. d) (λ x. omega (arith, holders-with_object m x h (Some z), property_gone x p y.properties s e)) (weight_of_live m h live z) (λ k d. live-with m.objects h z k d) (λ k. handles-with_object m k h (Some z)) held

  array_shrunk : (spot : Spot) → IsReal m spot → IsThere m spot → (t u : Listing ℕ) → Elements (content_at m spot) (Some t) → (b s : ℕ) → ((x : ℕ) → times x (stores_of_entries u.entries) + times x (s ∷ []) ≡ times x (stores_of_entries t.entries)) → IsHeld (let_fall (with_content m spot (array u)) b (link s))
  array_shrunk spot real there t u named b s names =
      let n = with_content m spot (array u) in
      let P = λ (h : ℕ) (os : Numbered Object). IsSome (numbered os h) in
      let old : (x : ℕ) → times x (stores_of_content (content_at m spot)) ≡ times x (stores_of_entries t.entries) = λ x. ap (times x) named.0 in
      let none : (x : ℕ) → times x (handles_of_content (content_at m spot)) ≡ 0 = λ x. ap (times x) named.1 in
      removed m n b s (λ k h. elim (live_with_content m spot (array u) k h) [ inl e ↦ there_of m spot k e there | inr d ↦ d ])
      (λ x. omega (arith, holders-with_content x m spot real (array u), old x, names x))
      (λ h d. subst (P h) (objects_kept m spot (array u)) d) (λ h d. subst (P h) (sym (objects_kept m spot (array u))) d)
      (λ h. omega (arith, handles-with_content h m spot real (array u), none h)) held

  element_removed-held : (o : Option ℕ) (t : Listing ℕ) (b : ℕ) (spot : Spot) (step : Step) → step_store t step ≡ o → IsReal m spot → IsThere m spot → Elements (content_at m spot) (Some t) → IsHeld (element_removed o t m b spot step)
  element_removed-held None t b spot step e real there named = held
  element_removed-held (Some s) t b spot Push e real there named = held
  element_removed-held (Some s) t b spot (At k) e real there named = array_shrunk spot real there t (remove_key t k) named b s (λ x. remove-times x t k s e)

  removed_in-held : (o : Option (Listing ℕ)) (b : ℕ) (spot : Spot) (step : Step) → IsReal m spot → IsThere m spot → Elements (content_at m spot) o → IsHeld (removed_in_elements o m b spot step)
  removed_in-held None b spot step real there named = held
  removed_in-held (Some t) b spot step real there named = element_removed-held (step_store t step) t b spot step refl real there named

  last_removed-held : (o : Option (Entry ℕ)) (t : Listing ℕ) (b : ℕ) (spot : Spot) → last_of t.entries ≡ o → IsReal m spot → IsThere m spot → Elements (content_at m spot) (Some t) → IsHeld (last_removed o t m b spot)
  last_removed-held None t b spot e real there named = held
  last_removed-held (Some d) t b spot e real there named = array_shrunk spot real there t (pop_entry t) named b d.value (λ x. pop-times x t d e)

  last_removed_in-held : (o : Option (Listing ℕ)) (b : ℕ) (spot : Spot) → IsReal m spot → IsThere m spot → Elements (content_at m spot) o → IsHeld (last_removed_in o m b spot)
  last_removed_in-held None b spot real there named = held
  last_removed_in-held (Some t) b spot real there named = last_removed-held (last_of t.entries) t b spot refl real there named

-- a spot that is found is there

abbrev IsFoundThere : Mem → Option Spot → Type 0
IsFoundThere m None = Unit {0}
IsFoundThere m (Some spot) = IsReal m spot × IsThere m spot

module _ (m : Mem) (closed : IsClosed m) where
  stored_there : (o : Option ℕ) → ((s : ℕ) → o ≡ Some s → IsLive m s) → IsFoundThere m (stored_if o)
  stored_there None h = tt
  stored_there (Some s) h = (tt, h s refl)

  temp_there : (b k : ℕ) (i : Option Item) → nth_item (scope_of m b).temps k ≡ i → IsFoundThere m (temp_spot b k i)
  temp_there b k None e = tt
  temp_there b k (Some (value c)) e = ((c, e), tt)
  temp_there b k (Some (link s)) e = (tt, nth_link-found (IsLive m) (scope_of m b).temps k s (temps-closed m closed b) e)

  base_there : (base : Base) → IsFoundThere m (base_spot m base)
  base_there (Var b k) = let o = variable_store (scope_of m b.0).variables k.0 in stored_there o (found_live (IsLive m) o (variable-found (IsLive m) (scope_of m b.0).variables k.0 (variables-closed m closed b.0)))
  base_there (OfObject h p) = let o = property_store (object_of m h.0).properties p in stored_there o (found_live (IsLive m) o (property-found (IsLive m) (object_of m h.0).properties p (object-closed m closed h.0)))
  base_there (Static i) = stored_there (numbered m.statics i.0) (λ s e. closed.statics i.0 s e)
  base_there (Temp b k) = temp_there b.0 k (nth_item (scope_of m b.0).temps k) refl

  step_there : (c : Content) → Every (IsLive m) (stores_of_content c) → (step : Step) → (s : ℕ) → step_store_if (elements_of c) step ≡ Some s → IsLive m s
  step_there (array t) h step s e = found_live (IsLive m) (step_store t step) (step-found (IsLive m) t step h) s e
  step_there null h step s e = absurd (no s e)
    where
      no : (s : ℕ) → None ≡ Some s → ⊥
      no s e = cc
  step_there (truth b) h step s e = absurd (no s e)
    where
      no : (s : ℕ) → None ≡ Some s → ⊥
      no s e = cc
  step_there (int i) h step s e = absurd (no s e)
    where
      no : (s : ℕ) → None ≡ Some s → ⊥
      no s e = cc
  step_there (text bytes) h step s e = absurd (no s e)
    where
      no : (s : ℕ) → None ≡ Some s → ⊥
      no s e = cc
  step_there (object k) h step s e = absurd (no s e)
    where
      no : (s : ℕ) → None ≡ Some s → ⊥
      no s e = cc

  next_there : (o : Option Spot) (step : Step) → IsFoundThere m (next_spot m o step)
  next_there None step = tt
  next_there (Some spot) step = stored_there (step_store_if (elements_of (content_at m spot)) step) (λ s e. step_there (content_at m spot) (content_at-closed m closed spot) step s e)

  along_there : (o : Option Spot) → IsFoundThere m o → (path : List Step) → IsFoundThere m (spot_along m o path)
  along_there o h [] = h
  along_there o h (step ∷ path) = along_there (next_spot m o step) (next_there o step) path

module _ (m : Mem) (closed : IsClosed m) (held : IsHeld m) where
  removed_at_spot-held : (o : Option Spot) → IsFoundThere m o → (b : ℕ) (step : Step) → IsHeld (removed_at_spot o m b step)
  removed_at_spot-held None h b step = held
  removed_at_spot-held (Some spot) h b step = removed_in-held m held (elements_of (content_at m spot)) b spot step h.0 h.1 (elements_found (content_at m spot))

  base_removed-held : (b : ℕ) (base : Base) → IsBase m base → IsHeld (base_removed m b base)
  base_removed-held b (Var c k) h = variable_removed-held m held (variable_store (scope_of m c.0).variables k.0) b c.0 k.0 refl
  base_removed-held b (OfObject k p) h = property_removed-held m held (property_store (object_of m k.0).properties p) b k.0 p h.0 refl
  base_removed-held b (Static i) h = held
  base_removed-held b (Temp c k) h = held

  removed_at-held : (b : ℕ) (base : Base) (path : List Step) → IsBase m base → IsHeld (removed_at m b base path)
  removed_at-held b base [] h = base_removed-held b base h
  removed_at-held b base (step ∷ path) h = removed_at_spot-held (spot_along m (base_spot m base) (steps_before step path)) (along_there m closed (base_spot m base) (base_there m closed base) (steps_before step path)) b (last_step step path)

  pub unset-held : (b : ℕ) (p : Place) → IsPlace m p → IsHeld (unset m b p)
  unfolding unset
  unset-held b p h = removed_at-held b p.base p.path h.0

  last_removed_at-held : (o : Option Spot) → IsFoundThere m o → (b : ℕ) → IsHeld (last_removed_at o m b)
  last_removed_at-held None h b = held
  last_removed_at-held (Some spot) h b = last_removed_in-held m held (elements_of (content_at m spot)) b spot h.0 h.1 (elements_found (content_at m spot))

  found_there : (p : Place) → IsFoundThere m (find_place m p)
  unfolding find_place
  found_there p = along_there m closed (base_spot m p.base) (base_there m closed p.base) p.path

  pub unset_last-held : (b : ℕ) (p : Place) → IsHeld (unset_last m b p)
  unfolding unset_last
  unset_last-held b p = last_removed_at-held (find_place m p) (found_there p) b

  pub forget-held : (b k : ℕ) → IsHeld (forget m b k)
  unfolding forget
  forget-held b k = variable_removed-held m held (variable_store (scope_of m b).variables k) b b k refl

  shed_first-held : (vs : List Variable) (b : ℕ) → (scope_of m b).variables ≡ vs → IsHeld (shed_first vs m b).0
  shed_first-held [] b e = held
  shed_first-held (v ∷ vs) b e =
      removed m (with_scope m b (record (scope_of m b) { variables = vs })) b v.store (λ k h. h) (λ x. (let a : times x (stores_of_variables (scope_of m b).variables) ≡ times x (stores_of_variables (v ∷ vs)) = ap (λ us. times x (stores_of_variables us)) e in omega (arith, a, holders-with_variables m x b vs))) (λ h d. d) (λ h d. d) (λ h. handles-with_variables m h b vs) held

  pub shed-held : (b : ℕ) → IsHeld (shed m b).0
  unfolding shed
  shed-held b = shed_first-held (scope_of m b).variables b refl
