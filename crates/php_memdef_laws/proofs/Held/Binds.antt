-- Binding a place keeps what is there held.
use Rattle.std.proofs.Common.{◌≡◌, ℕ, ◌+◌, List, [], ◌∷◌, refl, sym, ◌∙◌, ap, subst, arith, inl, inr, cond}
use Rattle.std.specs.Prelude.{Bool, true, false, nat_eq, Option, Some, None, IsSome}
use Rattle.php_entries.specs.Listing.{Listing}
use Rattle.php_entries.specs.Changes.{Growth, Grown, Full as NoKeyLeft, Limit as NoEntryLeft}
use Rattle.php_memdef.specs.declared.place.PropName.{PropName}
use Rattle.php_memdef.specs.declared.place.Base.{Base}
use Rattle.php_memdef.specs.declared.place.Base.TheVariants.{Var, Property as OfObject, Static, Temp}
use Rattle.php_memdef.specs.declared.place.Step.{Step}
use Rattle.php_memdef.specs.declared.place.Place.{Place}
use Rattle.php_memdef.specs.Numbered.{Numbered, numbered, weight_if}
use Rattle.php_memdef.specs.Contents.{Content, array, Item, link, Variable, Property, Object, Mem, scope_of, object_of}
use Rattle.php_memdef.specs.Holders.{times, stores_of_entries, stores_of_content, stores_of_item, stores_of_variables, stores_of_properties, holders, handles_of_content, object_holders}
use Rattle.php_memdef.specs.Places.{Spot, nth_item, content_at, variable_store, property_store, prop_name_eq, elements_to_write, step_store, step_set, Walk, reached, stopped, walk}
use Rattle.php_memdef.specs.Temporaries.{popped, top_of, top}
use Rattle.php_memdef.specs.Writes.{Bound, bound, unbound, steps_before, last_step, element_bound, bound_in_elements, element_of_walk_bound, with_variable, with_property, base_bound, bound_at, let_fall_if, finish_bind, bind_top, bind}
use Rattle.php_memdef.specs.Sound.{IsLive, IsClosed, IsHeld}
use Rattle.php_memdef.specs.Conditions.{IsObject, IsBase, IsPointed, CanBind}
use Rattle.php_memdef_laws.proofs.NumberedLemmas.{live-with}
use Rattle.php_memdef_laws.proofs.Held.Parts.{held_after, same_there, handles_of_item, holders-with_object, handles-with_object, holders-with_static, handles-with_static, holders-with_variables, handles-with_variables, holders-popped, handles-popped, holders-let_fall, handles-let_fall}
use Rattle.php_memdef_laws.proofs.Held.Writes.{Grows, Grows-refl, grown-held, listed, Grown-times, step_set-times, there_of, live_with_content, objects_kept, holders-with_content, handles-with_content, ElementsOf, elements_written, top_link_kept, top_with_variables, WalkHeld, walk-held, weight_of_live}

module _ (x : ℕ) where
  variable_rebound : (n s : ℕ) (vs : List Variable) → times x (stores_of_variables (with_variable n s vs)) + times x (listed (variable_store vs n)) ≡ times x (stores_of_variables vs) + times x (s ∷ [])
  variable_rebound n s [] = omega arith
  variable_rebound n s (v ∷ vs) = chosen (nat_eq n v.name) refl (variable_rebound n s vs)
    where
      chosen : (b : Bool) → nat_eq n v.name ≡ b → times x (stores_of_variables (with_variable n s vs)) + times x (listed (variable_store vs n)) ≡ times x (stores_of_variables vs) + times x (s ∷ []) → times x (stores_of_variables (with_variable n s (v ∷ vs))) + times x (listed (variable_store (v ∷ vs) n)) ≡ times x (stores_of_variables (v ∷ vs)) + times x (s ∷ [])
      chosen true q later =
          let a : times x (stores_of_variables (with_variable n s (v ∷ vs))) ≡ times x (s ∷ stores_of_variables vs) = ap (λ b. times x (stores_of_variables (cond b (record v { store = s } ∷ vs) (v ∷ with_variable n s vs)))) q in
          let g : times x (listed (variable_store (v ∷ vs) n)) ≡ times x (v.store ∷ []) = ap (λ b. times x (listed (cond b (Some v.store) (variable_store vs n)))) q in
          omega (arith, a, g)
      chosen false q later =
          let a : times x (stores_of_variables (with_variable n s (v ∷ vs))) ≡ times x (v.store ∷ stores_of_variables (with_variable n s vs)) = ap (λ b. times x (stores_of_variables (cond b (record v { store = s } ∷ vs) (v ∷ with_variable n s vs)))) q in
          let g : times x (listed (variable_store (v ∷ vs) n)) ≡ times x (listed (variable_store vs n)) = ap (λ b. times x (listed (cond b (Some v.store) (variable_store vs n)))) q in
          omega (arith, a, g, later)

  property_rebound : (n : PropName) (s : ℕ) (ps : List Property) → times x (stores_of_properties (with_property n s ps)) + times x (listed (property_store ps n)) ≡ times x (stores_of_properties ps) + times x (s ∷ [])
  property_rebound n s [] = omega arith
  property_rebound n s (v ∷ vs) = chosen (prop_name_eq n v.name) refl (property_rebound n s vs)
    where
      chosen : (b : Bool) → prop_name_eq n v.name ≡ b → times x (stores_of_properties (with_property n s vs)) + times x (listed (property_store vs n)) ≡ times x (stores_of_properties vs) + times x (s ∷ []) → times x (stores_of_properties (with_property n s (v ∷ vs))) + times x (listed (property_store (v ∷ vs) n)) ≡ times x (stores_of_properties (v ∷ vs)) + times x (s ∷ [])
      chosen true q later =
          let a : times x (stores_of_properties (with_property n s (v ∷ vs))) ≡ times x (s ∷ stores_of_properties vs) = ap (λ b. times x (stores_of_properties (cond b (record v { store = s } ∷ vs) (v ∷ with_property n s vs)))) q in
          let g : times x (listed (property_store (v ∷ vs) n)) ≡ times x (v.store ∷ []) = ap (λ b. times x (listed (cond b (Some v.store) (property_store vs n)))) q in
          omega (arith, a, g)
      chosen false q later =
          let a : times x (stores_of_properties (with_property n s (v ∷ vs))) ≡ times x (v.store ∷ stores_of_properties (with_property n s vs)) = ap (λ b. times x (stores_of_properties (cond b (record v { store = s } ∷ vs) (v ∷ with_property n s vs)))) q in
          let g : times x (listed (property_store (v ∷ vs) n)) ≡ times x (listed (property_store vs n)) = ap (λ b. times x (listed (cond b (Some v.store) (property_store vs n)))) q in
          omega (arith, a, g, later)

  static_names : (o : Option ℕ) → weight_if (λ t. times x (t ∷ [])) o ≡ times x (listed o)
  static_names None = refl
  static_names (Some s) = refl

-- a place points to the store now, and no longer to another; before that a walk led there
record Rebinds (m : Mem) (b s : ℕ) (n : Mem) (before : Option ℕ) : Type 0 where
  walked : Mem
  grows : Grows m walked
  stores : (k : ℕ) → IsLive n k → IsLive walked k
  names : (x : ℕ) → holders n x + times x (listed before) ≡ holders walked x + times x (s ∷ [])
  objects : (h : ℕ) → IsObject n h → IsObject walked h
  objects_stay : (h : ℕ) → IsObject walked h → IsObject n h
  handles : (h : ℕ) → object_holders n h ≡ object_holders walked h
  top_stays : top n b ≡ link s

abbrev BoundHeld : Mem → ℕ → ℕ → Bound → Type 0
BoundHeld m b s (bound n before) = Rebinds m b s n before
BoundHeld m b s (unbound why) = Unit {0}

let_fall_if-names : (m : Mem) (b x : ℕ) (o : Option ℕ) → holders (let_fall_if m b o) x ≡ holders m x + times x (listed o)
let_fall_if-names m b x None = omega arith
let_fall_if-names m b x (Some s) = holders-let_fall m x b (link s)

let_fall_if-handles : (m : Mem) (b x : ℕ) (o : Option ℕ) → object_holders (let_fall_if m b o) x ≡ object_holders m x
let_fall_if-handles m b x None = refl
let_fall_if-handles m b x (Some s) = omega (arith, handles-let_fall m x b (link s))

let_fall_if-stores : (m : Mem) (b : ℕ) (o : Option ℕ) → (let_fall_if m b o).stores ≡ m.stores
let_fall_if-stores m b None = refl
let_fall_if-stores m b (Some s) = refl

let_fall_if-objects : (m : Mem) (b : ℕ) (o : Option ℕ) → (let_fall_if m b o).objects ≡ m.objects
let_fall_if-objects m b None = refl
let_fall_if-objects m b (Some s) = refl

module _ (m : Mem) (held : IsHeld m) (b s : ℕ) (e : top m b ≡ link s) where
  finish_bind-held : (o : Bound) → BoundHeld m b s o → IsHeld (finish_bind o m b).0
  finish_bind-held (unbound why) h = held
  finish_bind-held (bound n before) r =
      let p = popped n b in
      let last = let_fall_if p b before in
      let top_names : (x : ℕ) → times x (stores_of_item (top n b)) ≡ times x (s ∷ []) = λ x. ap (λ j. times x (stores_of_item j)) r.top_stays in
      let top_handles : (x : ℕ) → times x (handles_of_item (top n b)) ≡ 0 = λ x. ap (λ j. times x (handles_of_item j)) r.top_stays in
      held_after r.walked last (grown-held m r.walked held r.grows) (same_there r.walked last
      (λ k live. r.stores k (let P : Numbered Content → Type 0 = λ xs. IsSome (numbered xs k) in subst P (let_fall_if-stores p b before) live))
      (λ x. omega (arith, let_fall_if-names p b x before, holders-popped n x b, top_names x, r.names x))
      (λ h d. r.objects h (let P : Numbered Object → Type 0 = λ xs. IsSome (numbered xs h) in subst P (let_fall_if-objects p b before) d))
      (λ h d. let P : Numbered Object → Type 0 = λ xs. IsSome (numbered xs h) in subst P (sym (let_fall_if-objects p b before)) (r.objects_stay h d))
      (λ h. omega (arith, let_fall_if-handles p b h before, handles-popped n h b, top_handles h, r.handles h)))

  base_bound-held : (base : Base) → IsBase m base → IsPointed base [] → BoundHeld m b s (base_bound m base s)
  base_bound-held (Var c k) h p =
      let vs = (scope_of m c.0).variables in
      record {
        walked = m;
        grows = Grows-refl m;
        stores = λ k live. live;
        names = λ x. omega (arith, holders-with_variables m x c.0 (with_variable k.0 s vs), variable_rebound x k.0 s vs);
        objects = λ h d. d;
        objects_stay = λ h d. d;
        handles = λ h. handles-with_variables m h c.0 (with_variable k.0 s vs);
        top_stays = top_with_variables m c.0 b (with_variable k.0 s vs) ∙ e;
      }
  base_bound-held (OfObject k q) h p =
      let o = object_of m k.0 in
      let y : Object = record o { properties = with_property q s o.properties } in
      record {
        walked = m;
        grows = Grows-refl m;
        stores = λ k live. live;
        names = λ x. omega (arith, holders-with_object m x k.0 (Some y), property_rebound x q s o.properties);
        objects = weight_of_live m k.0 h.0 y;
        objects_stay = λ j d. live-with m.objects k.0 y j d;
        handles = λ j. handles-with_object m j k.0 (Some y);
        top_stays = e;
      }
  base_bound-held (Static i) h p =
      record {
        walked = m;
        grows = Grows-refl m;
        stores = λ k live. live;
        names = λ x. omega (arith, holders-with_static m x i.0 (Some s), static_names x (numbered m.statics i.0));
        objects = λ h d. d;
        objects_stay = λ h d. d;
        handles = λ j. handles-with_static m j i.0 (Some s);
        top_stays = e;
      }
  base_bound-held (Temp c k) h p = absurd p

  element_bound-held : (n : Mem) (spot : Spot) → WalkHeld m (reached n spot) → (t : Listing ℕ) → ElementsOf (content_at n spot) (Some t) → (g : Growth ℕ) (before : Option ℕ) → ((x : ℕ) → Grown-times x g t before s) → BoundHeld m b s (element_bound g before n spot)
  element_bound-held n spot w t named NoKeyLeft before grown = tt
  element_bound-held n spot w t named NoEntryLeft before grown = tt
  element_bound-held n spot w t named (Grown u) before grown =
      let old : (x : ℕ) → times x (stores_of_content (content_at n spot)) ≡ times x (stores_of_entries t.entries) = λ x. ap (times x) named.0 in
      let none : (x : ℕ) → times x (handles_of_content (content_at n spot)) ≡ 0 = λ x. ap (times x) named.1 in
      record {
        walked = n;
        grows = w.0;
        stores = λ k live. elim (live_with_content n spot (array u) k live) [
          | inl d ↦ there_of n spot k d w.1.1.0
          | inr was ↦ was
        ];
        names = λ x. omega (arith, holders-with_content x n spot w.1.0 (array u), old x, grown x);
        objects = λ h d. let P : Numbered Object → Type 0 = λ os. IsSome (numbered os h) in subst P (objects_kept n spot (array u)) d;
        objects_stay = λ h d. let P : Numbered Object → Type 0 = λ os. IsSome (numbered os h) in subst P (sym (objects_kept n spot (array u))) d;
        handles = λ h. omega (arith, handles-with_content h n spot w.1.0 (array u), none h);
        top_stays = top_link_kept n spot w.1.0 (array u) b s (w.1.1.1 b s e);
      }

  bound_in-held : (n : Mem) (spot : Spot) → WalkHeld m (reached n spot) → (o : Option (Listing ℕ)) → ElementsOf (content_at n spot) o → (step : Step) → BoundHeld m b s (bound_in_elements o n spot step s)
  bound_in-held n spot w None named step = tt
  bound_in-held n spot w (Some t) named step = element_bound-held n spot w t named (step_set t step s) (step_store t step) (λ x. step_set-times x t step s)

  walk_bound-held : (w : Walk) → WalkHeld m w → (step : Step) → BoundHeld m b s (element_of_walk_bound w step s)
  walk_bound-held (stopped why) h step = tt
  walk_bound-held (reached n spot) h step = bound_in-held n spot h (elements_to_write (content_at n spot)) (elements_written (content_at n spot)) step

  bound_at-held : IsClosed m → (base : Base) (path : List Step) → IsBase m base → IsPointed base path → BoundHeld m b s (bound_at m base path s)
  bound_at-held closed base [] h p = base_bound-held base h p
  bound_at-held closed base (step ∷ path) h p = walk_bound-held (walk m base (steps_before step path)) (walk-held m closed held base (steps_before step path) h) (last_step step path)

module _ (m : Mem) (closed : IsClosed m) (held : IsHeld m) where
  pub bind-held : (b : ℕ) (p : Place) → CanBind b p m → IsHeld (bind m b p).0
  unfolding bind
  bind-held b p can =
      let s = can.top.0 in
      let e = top_is (scope_of m b).temps can.top.0 can.top.1 in
      subst (λ (i : Item). IsHeld (bind_top i m b p).0) (sym e) (finish_bind-held m held b s e (bound_at m p.base p.path s) (bound_at-held m held b s e closed p.base p.path can.place.0 can.pointed))
    where
      of_some : (i j : Item) → Some i ≡ Some j → i ≡ j
      of_some i j e = cc

      top_is : (is : List Item) (s : ℕ) → nth_item is 0 ≡ Some (link s) → top_of is ≡ link s
      top_is [] s e = absurd (no e)
        where
          no : None ≡ Some (link s) → ⊥
          no e = cc
      top_is (i ∷ is) s e = of_some i (link s) e
