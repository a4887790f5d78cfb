-- What was made and hung up is what the model's walk makes, but for the numbers of new stores.
use Rattle.std.proofs.Common.{◌≡◌, ℕ, List, [], ◌∷◌, ◌++◌, refl, sym, ◌∙◌, ap, subst}
use Rattle.std.specs.Prelude.{Bool, true, false, Option, Some, None}
use Rattle.php_value.specs.declared.key.Key.{Key}
use Rattle.php_entries.specs.Listing.{Entry, Listing, entry_at, is_full, is_at_limit}
use Rattle.php_entries.specs.Changes.{Growth, Grown, Full as NoKeyLeft, Limit as NoEntryLeft, entry_added, value_set, value_appended, set_value, append_value, map_listing, map_growth}
use Rattle.php_memdef.specs.declared.place.Base.{Base}
use Rattle.php_memdef.specs.declared.place.Base.TheVariants.{Var, Property as OfObject, Static, Temp}
use Rattle.php_memdef.specs.declared.place.Place.{Place}
use Rattle.php_memdef.specs.declared.place.Step.{Step}
use Rattle.php_memdef.specs.declared.place.Step.TheVariants.{At, Push}
use Rattle.php_memdef.specs.declared.answer.Wrote.{Wrote}
use Rattle.php_memdef.specs.declared.answer.Wrote.TheVariants.{Done, NotArray, Full, Limit}
use Rattle.php_memdef.specs.Numbered.{Numbered, numbered}
use Rattle.php_memdef.specs.Contents.{Content, array, Item, value, link, Mem}
use Rattle.php_memdef.specs.Holders.{stores_of_content}
use Rattle.php_memdef.specs.Places.{Spot, stored, standing, content_at, with_content, new_store_number, base_spot, elements_to_write, next_spot, step_set, reached, stopped, element_made, walk_along, walk}
use Rattle.php_memdef.specs.Temporaries.{pushed, popped, top, let_fall}
use Rattle.php_memdef.specs.Writes.{moved_in, assigned, assign, linked, make_link}
use Rattle.php_memdef.specs.Sound.{Every, IsLive, IsClosed}
use Rattle.php_memdef.specs.Alike.{renamed_content, renamed_item, renamed_scope, renamed_object, IsRenamed, Alike}
use Rattle.php_memdef_laws.proofs.Alike.Renamings.{Every-weaken, content-agree, content-kept, scope-kept, object-kept}
use Rattle.php_memdef_laws.proofs.Alike.Memories.{map_if-kept, static-renamed, scope_change-renamed, object_change-renamed}
use Rattle.php_memdef_laws.proofs.Alike.Scopes.{renamed_variables-append, renamed_properties-append, pushed-renamed, popped-renamed, top-renamed, let_fall-renamed}
use Rattle.php_memdef_laws.proofs.Alike.Places.{renamed_spot, content_at-renamed, with_content-renamed}
use Rattle.php_memdef_laws.proofs.Alike.Walks.{ElementsNamed, elements_named}
use Rattle.php_memdef_laws.proofs.Closed.Parts.{IsSpotLive, content_at-closed}
use Rattle.php_memplain_writes.specs.Chains.{NewChain}
use Rattle.php_memplain_writes.specs.Reached.{IsNoTemp, with_base, Reaches}
use Rattle.php_memplain_writes.specs.Grows.{IsRefusal}
use Rattle.php_memplain_writes.proofs.WayLemmas.{stopped_along, element_needed, no_elements}
use Rattle.php_memplain_writes.proofs.AgreeLemmas.{step_set-map, same_grown, with_stores_of, new_chains_agree}
use Rattle.php_memplain_writes.proofs.NewWalkLemmas.{base_walk, element_walk}

abbrev itself : ℕ → ℕ
itself s = s

pub itself_renamed : (m : Mem) → IsRenamed itself itself m m
itself_renamed m = record {
  back_to = λ s. refl;
  to_back = λ s. refl;
  stores = λ s. sym (map_if-kept _ content-kept (numbered m.stores s));
  objects = λ h. sym (map_if-kept _ object-kept (numbered m.objects h));
  blocks = λ b. sym (map_if-kept _ scope-kept (numbered m.blocks b));
  statics = λ i. sym (map_if-kept _ (λ s. refl) (numbered m.statics i));
  next_object = refl;
}

-- the whole path is there

spot_itself : (spot : Spot) → spot ≡ renamed_spot itself spot
spot_itself (stored s) = refl
spot_itself (standing b n) = refl

pub reaches_there : (m : Mem) (base : Base) (path : List Step) (spot : Spot) → walk m base path ≡ reached m spot → Reaches m base path m spot
reaches_there m base path spot e = record { walked = m; at = spot; walks = e; to = itself; back = itself; renamed = itself_renamed m; same_spot = spot_itself spot }

-- a base that was missing

pub with_base-renamed : (to back : ℕ → ℕ) (m n : Mem) → IsRenamed to back m n → (base : Base) (s : ℕ) → IsRenamed to back (with_base base m s) (with_base base n (to s))
with_base-renamed to back m n r (Var b k) s =
    scope_change-renamed to back m n r b.0 (λ x. record x { variables = x.variables ++ record { name = k.0; store = s } ∷ [] }) (λ x. record x { variables = x.variables ++ record { name = k.0; store = to s } ∷ [] })
    (λ x. ap (λ vs. record (renamed_scope to x) { variables = vs }) (sym (renamed_variables-append to x.variables (record { name = k.0; store = s } ∷ []))))
with_base-renamed to back m n r (OfObject h p) s =
    object_change-renamed to back m n r h.0 (λ x. record x { properties = x.properties ++ record { name = p; store = s } ∷ [] }) (λ x. record x { properties = x.properties ++ record { name = p; store = to s } ∷ [] })
    (λ x. ap (λ vs. record (renamed_object to x) { properties = vs }) (sym (renamed_properties-append to x.properties (record { name = p; store = s } ∷ []))))
with_base-renamed to back m n r (Static i) s = static-renamed to back m n r i.0 (Some s)
with_base-renamed to back m n r (Temp b k) s = r

pub reaches_base : (m : Mem) → IsClosed m → (base : Base) → IsNoTemp base → base_spot m base ≡ None → (path : List Step) (zs : Numbered Content) (top leaf : ℕ) → NewChain m.stores path zs top leaf → (n : Mem) → n ≡ with_base base (with_stores_of m zs) top → Reaches m base path n (stored leaf)
reaches_base m closed base no_temp e path zs top leaf q n is =
    let w = base_walk m base no_temp e path in
    let a = new_chains_agree path itself itself m m (itself_renamed m) closed w.stores w.top w.leaf w.made zs top leaf q in
    let b = a.both in
    let r = with_base-renamed b.to' b.back' (with_stores_of m w.stores) (with_stores_of m zs) b.renamed base w.top in
    record {
      walked = with_base base (with_stores_of m w.stores) w.top;
      at = stored w.leaf;
      walks = w.walks;
      to = b.to';
      back = b.back';
      renamed = subst (IsRenamed b.to' b.back' (with_base base (with_stores_of m w.stores) w.top)) (ap (with_base base (with_stores_of m zs)) b.number ∙ sym is) r;
      same_spot = ap stored (sym a.leaf_number);
    }

-- whether an array can grow doesn't turn on the store

abbrev pub AreOneKind : Growth ℕ → Growth ℕ → Type 0
AreOneKind (Grown t) (Grown u) = Unit {0}
AreOneKind NoKeyLeft NoKeyLeft = Unit {0}
AreOneKind NoEntryLeft NoEntryLeft = Unit {0}
AreOneKind _ _ = ⊥

entry_kind : (b : Bool) (t : Listing ℕ) (k : Key) (s j : ℕ) → AreOneKind (entry_added b t k s) (entry_added b t k j)
entry_kind true t k s j = tt
entry_kind false t k s j = tt

pub step_kind : (t : Listing ℕ) (step : Step) (s j : ℕ) → AreOneKind (step_set t step s) (step_set t step j)
unfolding set_value append_value
step_kind t (At k) s j = by_entry (entry_at t k)
  where
    by_entry : (o : Option (Entry ℕ)) → AreOneKind (value_set o t k s) (value_set o t k j)
    by_entry None = entry_kind (is_at_limit t) t k s j
    by_entry (Some e) = tt
step_kind t Push s j = by_full (is_full t)
  where
    by_full : (b : Bool) → AreOneKind (value_appended b t s) (value_appended b t j)
    by_full true = tt
    by_full false = entry_kind (is_at_limit t) t _ s j

pub record IsGrown (g : Growth ℕ) : Type 0 where
  pub elements : Listing ℕ
  pub is : g ≡ Grown elements

pub also_grown : (g h : Growth ℕ) → AreOneKind g h → (u : Listing ℕ) → g ≡ Grown u → IsGrown h
also_grown g h same u e = by_kind h (subst (λ x. AreOneKind x h) e same)
  where
    by_kind : (h : Growth ℕ) → AreOneKind (Grown u) h → IsGrown h
    by_kind (Grown v) same = record { elements = v; is = refl }
    by_kind NoKeyLeft same = absurd same
    by_kind NoEntryLeft same = absurd same

pub also_refused : (why : Wrote) (g h : Growth ℕ) → AreOneKind g h → IsRefusal why g → IsRefusal why h
also_refused Done g h same e = e
also_refused NotArray g h same e = e
also_refused Full g h same e = by_kind h (subst (λ x. AreOneKind x h) e same)
  where
    by_kind : (h : Growth ℕ) → AreOneKind NoKeyLeft h → h ≡ NoKeyLeft
    by_kind (Grown v) same = absurd same
    by_kind NoKeyLeft same = refl
    by_kind NoEntryLeft same = absurd same
also_refused Limit g h same e = by_kind h (subst (λ x. AreOneKind x h) e same)
  where
    by_kind : (h : Growth ℕ) → AreOneKind NoEntryLeft h → h ≡ NoEntryLeft
    by_kind (Grown v) same = absurd same
    by_kind NoKeyLeft same = absurd same
    by_kind NoEntryLeft same = refl

refusal_stops : (why : Wrote) (g : Growth ℕ) → IsRefusal why g → (m : Mem) (spot : Spot) → element_made g m spot ≡ stopped why
refusal_stops Done g e m spot = absurd e
refusal_stops NotArray g e m spot = absurd e
refusal_stops Full g e m spot = ap (λ x. element_made x m spot) e
refusal_stops Limit g e m spot = ap (λ x. element_made x m spot) e

module _ (m : Mem) (base : Base) (path : List Step) (spot : Spot) (step : Step) (rest : List Step) (goes : walk m base path ≡ walk_along (reached m spot) (step ∷ rest)) where
  -- the element can't be made
  pub refused_there : (t : Listing ℕ) → elements_to_write (content_at m spot) ≡ Some t → next_spot m (Some spot) step ≡ None → (why : Wrote) (s : ℕ) → IsRefusal why (step_set t step s) → walk m base path ≡ stopped why
  refused_there t e f why s h =
      let l = new_store_number m in
      goes ∙ ap (λ w. walk_along w rest) (element_needed m spot step t e f ∙ refusal_stops why (step_set t step l) (also_refused why (step_set t step s) (step_set t step l) (step_kind t step s l) h) m spot) ∙ stopped_along why rest

  pub no_array_there : elements_to_write (content_at m spot) ≡ None → walk m base path ≡ stopped NotArray
  no_array_there e = goes ∙ ap (λ w. walk_along w rest) (no_elements m spot step e) ∙ stopped_along NotArray rest

  -- a new element
  module _ (closed : IsClosed m) (live : IsSpotLive m spot) where
    named_in : (t : Listing ℕ) → elements_to_write (content_at m spot) ≡ Some t → Every (IsLive m) (stores_of_content (array t))
    named_in t e = subst (ElementsNamed (IsLive m)) e (elements_named (IsLive m) (content_at m spot) (content_at-closed m closed spot))

    pub reaches_element : (t : Listing ℕ) → elements_to_write (content_at m spot) ≡ Some t → next_spot m (Some spot) step ≡ None → (zs : Numbered Content) (top leaf : ℕ) → NewChain m.stores rest zs top leaf → (u : Listing ℕ) → step_set t step top ≡ Grown u → (n : Mem) → n ≡ with_content (with_stores_of m zs) spot (array u) → Reaches m base path n (stored leaf)
    reaches_element t e f zs top leaf q u grown n is =
        let l = new_store_number m in
        let g = also_grown (step_set t step top) (step_set t step l) (step_kind t step top l) u grown in
        let w = element_walk m base path spot live step rest goes t e f g.elements g.is in
        let a = new_chains_agree rest itself itself m m (itself_renamed m) closed w.stores w.top w.leaf w.made zs top leaf q in
        let b = a.both in
        let kept : array (map_listing b.to' t) ≡ array t = content-agree b.to' itself (array t) (Every-weaken (IsLive m) (λ s. b.to' s ≡ s) b.extends.kept (stores_of_content (array t)) (named_in t e)) ∙ content-kept (array t) in
        let same : map_listing b.to' t ≡ t = same_array kept in
        let number : b.to' l ≡ top = ap b.to' (sym w.top_is) ∙ b.number in
        let u_is : u ≡ map_listing b.to' g.elements = same_grown (sym grown ∙ ap (step_set t step) (sym number) ∙ ap (λ x. step_set x step (b.to' l)) (sym same) ∙ step_set-map b.to' t step l ∙ ap (map_growth b.to') g.is) in
        let r = with_content-renamed b.to' b.back' (with_stores_of m w.stores) (with_stores_of m zs) b.renamed spot (array g.elements) in
        let final = with_content (with_stores_of m w.stores) spot (array g.elements) in
        record {
          walked = final;
          at = stored w.leaf;
          walks = w.walks;
          to = b.to';
          back = b.back';
          renamed =
              subst (IsRenamed b.to' b.back' final)
              (ap (λ (x : Spot). with_content (with_stores_of m zs) x (array (map_listing b.to' g.elements))) (spot_kept b.to' b.extends.kept spot live) ∙ ap (λ (x : Listing ℕ). with_content (with_stores_of m zs) spot (array x)) (sym u_is) ∙ sym is) r;
          same_spot = ap stored (sym a.leaf_number);
        }
      where
        same_array : {x y : Listing ℕ} → array x ≡ array y → x ≡ y
        same_array e = cc

        spot_kept : (to : ℕ → ℕ) → ((s : ℕ) → IsLive m s → to s ≡ s) → (x : Spot) → IsSpotLive m x → renamed_spot to x ≡ x
        spot_kept to kept (stored s) h = ap stored (kept s h)
        spot_kept to kept (standing b k) h = refl

-- what the writes make of it

moved_in-renamed : (to back : ℕ → ℕ) (m n : Mem) → IsRenamed to back m n → (i : Item) (b : ℕ) (spot : Spot) → IsRenamed to back (moved_in i m b spot) (moved_in (renamed_item to i) n b (renamed_spot to spot))
moved_in-renamed to back m n r (link s) b spot = r
moved_in-renamed to back m n r (value c) b spot =
    subst (λ (d : Content). IsRenamed to back (moved_in (value c) m b spot) (let_fall (popped (with_content n (renamed_spot to spot) (renamed_content to c)) b) b (value d))) (sym (content_at-renamed to back m n r spot))
    (let_fall-renamed to back _ _ (popped-renamed to back _ _ (with_content-renamed to back m n r spot c) b) b (value (content_at m spot)))

pub record AssignIs (m : Mem) (b : ℕ) (p : Place) (n : Mem) (spot : Spot) : Type 0 where
  pub alike : Alike (assign m b p).0 (moved_in (top n b) n b spot)
  pub answer : (assign m b p).1 ≡ Done

module _ (m : Mem) (b : ℕ) (p : Place) where
  pub assign_done : (n : Mem) (spot : Spot) → Reaches m p.base p.path n spot → AssignIs m b p n spot
  unfolding assign
  assign_done n spot r =
      let is = ap (λ w. assigned w m b) r.walks in
      record {
        alike = record {
          to = r.to;
          back = r.back;
          renamed =
              subst (λ (x : Mem). IsRenamed r.to r.back x (moved_in (top n b) n b spot)) (sym (ap (λ z. z.0) is))
              (subst (λ (x : Spot). IsRenamed r.to r.back (moved_in (top r.walked b) r.walked b r.at) (moved_in (top n b) n b x)) (sym r.same_spot)
              (subst (λ (i : Item). IsRenamed r.to r.back (moved_in (top r.walked b) r.walked b r.at) (moved_in i n b (renamed_spot r.to r.at))) (sym (top-renamed r.to r.back r.walked n r.renamed b)) (moved_in-renamed r.to r.back r.walked n r.renamed (top r.walked b) b r.at)));
        };
        answer = ap (λ z. z.1) is;
      }

  pub assign_refused : (why : Wrote) → walk m p.base p.path ≡ stopped why → assign m b p ≡ (m, why)
  unfolding assign
  assign_refused why e = ap (λ w. assigned w m b) e

  pub link_refused : (why : Wrote) → walk m p.base p.path ≡ stopped why → make_link m b p ≡ (m, why)
  unfolding make_link
  link_refused why e = ap (λ w. linked w m b) e

pub record LinkIs (m : Mem) (b : ℕ) (p : Place) (n : Mem) (s : ℕ) : Type 0 where
  pub alike : Alike (make_link m b p).0 (pushed n b (link s))
  pub answer : (make_link m b p).1 ≡ Done

pub link_done : (m : Mem) (b : ℕ) (p : Place) (n : Mem) (s : ℕ) → Reaches m p.base p.path n (stored s) → LinkIs m b p n s
unfolding make_link
link_done m b p n s r = by_spot r.at r.walks r.same_spot
  where
    by_spot : (spot : Spot) → walk m p.base p.path ≡ reached r.walked spot → stored s ≡ renamed_spot r.to spot → LinkIs m b p n s
    by_spot (standing c k) walks same = absurd (no same)
      where
        no : stored s ≡ standing c k → ⊥
        no e = cc
    by_spot (stored j) walks same =
        let is = ap (λ w. linked w m b) walks in
        record {
          alike = record {
            to = r.to;
            back = r.back;
            renamed =
                subst (λ (x : Mem). IsRenamed r.to r.back x (pushed n b (link s))) (sym (ap (λ z. z.0) is))
                (subst (λ (x : ℕ). IsRenamed r.to r.back (pushed r.walked b (link j)) (pushed n b (link x))) (sym (same_store same)) (pushed-renamed r.to r.back r.walked n r.renamed b (link j)));
          };
          answer = ap (λ z. z.1) is;
        }
      where
        same_store : stored s ≡ stored (r.to j) → s ≡ r.to j
        same_store e = cc
