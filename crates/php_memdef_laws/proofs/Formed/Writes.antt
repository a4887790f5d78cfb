-- Writes, removals, releases and the operations on objects leave each part of a memory as it should be.
use Rattle.std.proofs.Common.{◌≡◌, ℕ, zero, suc, ◌<◌, List, [], ◌∷◌, ◌++◌, length, refl, sym, ◌∙◌, ap, subst, arith, inl, inr}
use Rattle.std.specs.Prelude.{Option, Some, None, IsSome, is_some, unwrap_or}
use Rattle.std.proofs.lemmas.Bool.Decides.{eqb_tells}
use Rattle.php_entries.specs.Listing.{Entry, Listing, last_of}
use Rattle.php_entries.specs.Changes.{Growth, Grown, Full as NoKeyLeft, Limit as NoEntryLeft, remove_key, pop_entry}
use Rattle.php_memdef.specs.declared.place.PropName.{PropName}
use Rattle.php_memdef.specs.declared.place.Base.{Base}
use Rattle.php_memdef.specs.declared.place.Base.TheVariants.{Var, Property as OfObject, Static, Temp}
use Rattle.php_memdef.specs.declared.place.Step.{Step}
use Rattle.php_memdef.specs.declared.place.Step.TheVariants.{At, Push}
use Rattle.php_memdef.specs.declared.place.Place.{Place}
use Rattle.php_memdef.specs.Numbered.{numbered, with_numbered}
use Rattle.php_memdef.specs.Contents.{Content, null, text, array, Item, value, link, Variable, Scope, Object, Mem, no_scope, no_object, scope_of, object_of}
use Rattle.php_memdef.specs.Places.{Spot, stored, standing, nth_item, with_nth_item, content_at, with_content, with_scope, with_object, with_new_store, new_store_number, variable_store, property_store, temp_spot, base_spot, elements_of, elements_to_write, step_store, step_set, spot_along, find_place, Walk, reached, stopped, element_made, element_to_write, step_in_elements, walk_step, walk_along, variable_to_write, property_to_write, static_to_write, temp_to_write, base_to_write, walk}
use Rattle.php_memdef.specs.Temporaries.{popped, top, with_top}
use Rattle.php_memdef.specs.Views.{found}
use Rattle.php_memdef.specs.Writes.{moved_in, assigned, assign, text_found, text_of_item, append, linked, make_link, Bound, bound, unbound, steps_before, last_step, element_bound, bound_in_elements, element_of_walk_bound, with_variable, with_property, base_bound, bound_at, finish_bind, bind_top, bind, without_variable, without_property, variable_removed, property_removed, element_removed, removed_in_elements, removed_at_spot, base_removed, removed_at, unset, last_removed, last_removed_in, last_removed_at, unset_last, forget, shed_first, shed}
use Rattle.php_memdef.specs.Sound.{IsShort, IsSoundContent, AreVariablesDistinct, IsSoundObject, IsFormed}
use Rattle.php_memdef.specs.Conditions.{IsObject, HasRoom, IsBase, IsPlace, AreStepsWithin, CanAssign, CanAppend, CanLink, CanBind}
use Rattle.php_memdef_laws.proofs.AppendLemmas.{joined_is, can_assign_joined}
use Rattle.php_memdef_laws.proofs.NumberedLemmas.{numbered-with_same, numbered-with_other, all-with}
use Rattle.php_memdef_laws.proofs.Formed.Parts.{IsSoundItem, text_on_top-formed, some_same, scope-sound, object-sound, content_at-sound, with_new_store-formed, with_content-formed, with_statics-formed, with_variables-formed, pushed-formed, popped-formed, top-sound, let_fall-formed, variables_added, variables_with, variables_without, properties_added, properties_with, properties_without, names_added, names_with, names_without}
use Rattle.php_memdef_laws.proofs.Formed.Copies.{IsStepFit, GrowthSound, step_set-sound, remove-sound, pop-sound, ElementsSound, elements-sound, written_elements-sound}

-- a change of one object that gives it no new frame

module _ (m : Mem) (formed : IsFormed m) (h : ℕ) (o : Option Object) (frames : (b : ℕ) → (unwrap_or o no_object).frame ≡ Some b → (object_of m h).frame ≡ Some b) (sound : (x : Object) → o ≡ Some x → IsSoundObject x) (below : IsSome o → h < m.next_object) where
  frame_before : (k b : ℕ) → (object_of (record m { objects = with_numbered m.objects h o }) k).frame ≡ Some b → (object_of m k).frame ≡ Some b
  frame_before k b e = elim (eqb_tells k h) [
    | inl d ↦ (let same : object_of (record m { objects = with_numbered m.objects h o }) k ≡ unwrap_or o no_object = ap (λ j. unwrap_or (numbered (with_numbered m.objects h o) j) no_object) d.1 ∙ ap (λ x. unwrap_or x no_object) (numbered-with_same m.objects h o) in ap (λ j. (object_of m j).frame) d.1 ∙ frames b (sym (ap (λ x. x.frame) same) ∙ e))
    | inr d ↦ ap (λ x. (unwrap_or x no_object).frame) (sym (numbered-with_other m.objects h k o d.1)) ∙ e
  ]

  number_below : (k : ℕ) → IsSome (numbered (with_numbered m.objects h o) k) → k < m.next_object
  number_below k e = elim (eqb_tells k h) [
    | inl d ↦ (let there : IsSome o = sym (ap is_some (ap (numbered (with_numbered m.objects h o)) d.1 ∙ numbered-with_same m.objects h o)) ∙ e in let h' : h < m.next_object = below there in omega (arith, h', d.1))
    | inr d ↦ formed.object_numbers k (ap is_some (sym (numbered-with_other m.objects h k o d.1)) ∙ e)
  ]

  pub object_changed-formed : IsFormed (record m { objects = with_numbered m.objects h o })
  object_changed-formed = record {
    frames_live = λ k b e. formed.frames_live k b (frame_before k b e);
    frames_apart = λ g k b e d. formed.frames_apart g k b (frame_before g b e) (frame_before k b d);
    contents = formed.contents;
    objects = all-with IsSoundObject m.objects h o sound formed.objects;
    scopes = formed.scopes;
    object_numbers = number_below;
    next_object_within = formed.next_object_within;
  }

pub with_object-formed : (m : Mem) → IsFormed m → (h : ℕ) (x : Object) → ((b : ℕ) → x.frame ≡ Some b → (object_of m h).frame ≡ Some b) → IsSoundObject x → IsObject m h → IsFormed (with_object m h x)
with_object-formed m formed h x frames sound live = object_changed-formed m formed h (Some x) frames (λ y e. some_same IsSoundObject x y e sound) (λ e. formed.object_numbers h live)

-- room stays where temporaries keep their number

room_kept : (m : Mem) (b : ℕ) (f : Scope) → length f.temps ≡ length (scope_of m b).temps → f.room ≡ (scope_of m b).room → (c : ℕ) → HasRoom m c → HasRoom (with_scope m b f) c
room_kept m b f count room c h = elim (eqb_tells c b) [
  | inl e ↦ (let same : scope_of (with_scope m b f) c ≡ f = ap (λ j. unwrap_or (numbered (with_numbered m.blocks b (Some f)) j) no_scope) e.1 ∙ ap (λ o. unwrap_or o no_scope) (numbered-with_same m.blocks b (Some f)) in
      let there : length (scope_of m b).temps < (scope_of m b).room = subst (λ (j : ℕ). HasRoom m j) e.1 h in
      subst (λ (x : Scope). length x.temps < x.room) (sym same) (omega (arith, there, count, room)))
  | inr e ↦ (let same : scope_of (with_scope m b f) c ≡ scope_of m c = ap (λ o. unwrap_or o no_scope) (numbered-with_other m.blocks b c (Some f) e.1) in subst (λ (x : Scope). length x.temps < x.room) (sym same) h)
]

with_nth_count : (is : List Item) (n : ℕ) (j : Item) → length (with_nth_item is n j) ≡ length is
with_nth_count [] n j = refl
with_nth_count (i ∷ is) zero j = refl
with_nth_count (i ∷ is) (suc n) j = ap suc (with_nth_count is n j)

room_with_content : (m : Mem) (spot : Spot) (c : Content) (b : ℕ) → HasRoom m b → HasRoom (with_content m spot c) b
room_with_content m (stored s) c b h = h
room_with_content m (standing k n) c b h = room_kept m k (record (scope_of m k) { temps = with_nth_item (scope_of m k).temps n (value c) }) (with_nth_count (scope_of m k).temps n (value c)) refl b h

-- walks

abbrev WalkFormed : Mem → Walk → Type 0
WalkFormed m (reached n spot) = IsFormed n × ((b : ℕ) → HasRoom m b → HasRoom n b)
WalkFormed m (stopped why) = Unit {0}

weaker : (l m : Mem) → ((b : ℕ) → HasRoom l b → HasRoom m b) → (w : Walk) → WalkFormed m w → WalkFormed l w
weaker l m h (reached n spot) f = (f.0, λ b r. f.1 b (h b r))
weaker l m h (stopped why) f = tt

module _ (m : Mem) (formed : IsFormed m) where
  element_made-formed : (g : Growth ℕ) → GrowthSound g → (spot : Spot) → WalkFormed m (element_made g m spot)
  element_made-formed (Grown u) h spot = (with_content-formed (with_new_store m null) (with_new_store-formed m formed null tt) spot (array u) h, room_with_content (with_new_store m null) spot (array u))
  element_made-formed NoKeyLeft h spot = tt
  element_made-formed NoEntryLeft h spot = tt

  element_to_write-formed : (o : Option ℕ) (t : Listing ℕ) → IsSoundContent (array t) → (spot : Spot) (step : Step) → IsStepFit step → WalkFormed m (element_to_write o t m spot step)
  element_to_write-formed (Some s) t h spot step fit = (formed, λ b r. r)
  element_to_write-formed None t h spot step fit = element_made-formed (step_set t step (new_store_number m)) (step_set-sound t step (new_store_number m) h fit) spot

  step_in-formed : (o : Option (Listing ℕ)) → ElementsSound o → (spot : Spot) (step : Step) → IsStepFit step → WalkFormed m (step_in_elements o m spot step)
  step_in-formed None h spot step fit = tt
  step_in-formed (Some t) h spot step fit = element_to_write-formed (step_store t step) t h spot step fit

  variable_to_write-formed : (o : Option ℕ) (b k : ℕ) → variable_store (scope_of m b).variables k ≡ o → WalkFormed m (variable_to_write o m b k)
  variable_to_write-formed (Some s) b k e = (formed, λ c r. r)
  variable_to_write-formed None b k e =
      let m' = with_new_store m null in
      let vs = (scope_of m b).variables in
      let ws = vs ++ record { name = k; store = new_store_number m } ∷ [] in (
        with_variables-formed m' (with_new_store-formed m formed null tt) b ws (variables_added k (new_store_number m) vs (scope-sound m formed b).variables_distinct e),
        room_kept m' b (record (scope_of m b) { variables = ws }) refl refl,
      )

  property_to_write-formed : (o : Option ℕ) (h : ℕ) (p : PropName) → IsObject m h → IsShort p.name → property_store (object_of m h).properties p ≡ o → WalkFormed m (property_to_write o m h p)
  property_to_write-formed (Some s) h p live short e = (formed, λ c r. r)
  property_to_write-formed None h p live short e =
      let x = object_of m h in
      let q = object-sound m formed h in
      let ps = x.properties ++ record { name = p; store = new_store_number m } ∷ [] in (
        with_object-formed (with_new_store m null) (with_new_store-formed m formed null tt) h (record x { properties = ps }) (λ b d. d)
            (record { properties_distinct = properties_added p (new_store_number m) x.properties q.properties_distinct e; names_short = names_added p (new_store_number m) x.properties short q.names_short }) live,
        λ c r. r,
      )

  static_to_write-formed : (o : Option ℕ) (i : ℕ) → WalkFormed m (static_to_write o m i)
  static_to_write-formed (Some s) i = (formed, λ c r. r)
  static_to_write-formed None i = (with_statics-formed (with_new_store m null) (with_new_store-formed m formed null tt) (with_numbered m.statics i (Some (new_store_number m))), λ c r. r)

  temp_to_write-formed : (o : Option Spot) (b k : ℕ) → WalkFormed m (temp_to_write o m b k)
  temp_to_write-formed (Some spot) b k = (formed, λ c r. r)
  temp_to_write-formed None b k = (formed, λ c r. r)

  base_to_write-formed : (base : Base) → IsBase m base → WalkFormed m (base_to_write m base)
  base_to_write-formed (Var b k) h = variable_to_write-formed (variable_store (scope_of m b.0).variables k.0) b.0 k.0 refl
  base_to_write-formed (OfObject k p) h = property_to_write-formed (property_store (object_of m k.0).properties p) k.0 p h.0 h.1 refl
  base_to_write-formed (Static i) h = static_to_write-formed (numbered m.statics i.0) i.0
  base_to_write-formed (Temp b k) h = temp_to_write-formed (temp_spot b.0 k (nth_item (scope_of m b.0).temps k)) b.0 k

walk_step-formed : (m : Mem) (w : Walk) → WalkFormed m w → (step : Step) → IsStepFit step → WalkFormed m (walk_step w step)
walk_step-formed m (stopped why) h step fit = tt
walk_step-formed m (reached n spot) h step fit = weaker m n h.1 (walk_step (reached n spot) step) (step_in-formed n h.0 (elements_to_write (content_at n spot)) (written_elements-sound (content_at n spot) (content_at-sound n h.0 spot)) spot step fit)

walk_along-formed : (m : Mem) (w : Walk) → WalkFormed m w → (path : List Step) → AreStepsWithin path → WalkFormed m (walk_along w path)
walk_along-formed m w h [] within = h
walk_along-formed m w h (At k ∷ path) within = walk_along-formed m (walk_step w (At k)) (walk_step-formed m w h (At k) within.0) path within.1
walk_along-formed m w h (Push ∷ path) within = walk_along-formed m (walk_step w Push) (walk_step-formed m w h Push tt) path within

-- the steps before the last one, and the last one, are fit where all are

front-within : (step : Step) (path : List Step) → AreStepsWithin (step ∷ path) → AreStepsWithin (steps_before step path)
front-within step [] h = tt
front-within (At k) (next ∷ path) h = (h.0, front-within next path h.1)
front-within Push (next ∷ path) h = front-within next path h

last-fit : (step : Step) (path : List Step) → AreStepsWithin (step ∷ path) → IsStepFit (last_step step path)
last-fit (At k) [] h = h.0
last-fit Push [] h = tt
last-fit (At k) (next ∷ path) h = last-fit next path h.1
last-fit Push (next ∷ path) h = last-fit next path h

module _ (m : Mem) (formed : IsFormed m) where
  pub walk-formed : (base : Base) (path : List Step) → IsBase m base → AreStepsWithin path → WalkFormed m (walk m base path)
  unfolding walk
  walk-formed base path h within = walk_along-formed m (base_to_write m base) (base_to_write-formed m formed base h) path within

  moved_in-formed : (i : Item) → IsSoundItem i → (b : ℕ) (spot : Spot) → IsFormed (moved_in i m b spot)
  moved_in-formed (link s) h b spot = formed
  moved_in-formed (value c) h b spot = let n = with_content m spot c in let_fall-formed (popped n b) (popped-formed n (with_content-formed m formed spot c h) b) b (value (content_at m spot)) (content_at-sound m formed spot)

assigned-formed : (m : Mem) → IsFormed m → (w : Walk) → WalkFormed m w → (b : ℕ) → IsFormed (assigned w m b).0
assigned-formed m formed (stopped why) h b = formed
assigned-formed m formed (reached n spot) h b = moved_in-formed n h.0 (top n b) (top-sound n h.0 b) b spot

linked-formed : (m : Mem) → IsFormed m → (w : Walk) → WalkFormed m w → (b : ℕ) → HasRoom m b → IsFormed (linked w m b).0
linked-formed m formed (stopped why) h b room = formed
linked-formed m formed (reached n (standing c k)) h b room = formed
linked-formed m formed (reached n (stored s)) h b room = pushed-formed n h.0 b (link s) tt (h.1 b room)

abbrev BoundFormed : Bound → Type 0
BoundFormed (bound n before) = IsFormed n
BoundFormed (unbound why) = Unit {0}

module _ (m : Mem) (formed : IsFormed m) where
  element_bound-formed : (g : Growth ℕ) → GrowthSound g → (o : Option ℕ) (spot : Spot) → BoundFormed (element_bound g o m spot)
  element_bound-formed (Grown u) h o spot = with_content-formed m formed spot (array u) h
  element_bound-formed NoKeyLeft h o spot = tt
  element_bound-formed NoEntryLeft h o spot = tt

  bound_in-formed : (o : Option (Listing ℕ)) → ElementsSound o → (spot : Spot) (step : Step) → IsStepFit step → (s : ℕ) → BoundFormed (bound_in_elements o m spot step s)
  bound_in-formed None h spot step fit s = tt
  bound_in-formed (Some t) h spot step fit s = element_bound-formed (step_set t step s) (step_set-sound t step s h fit) (step_store t step) spot

  base_bound-formed : (base : Base) → IsBase m base → (s : ℕ) → BoundFormed (base_bound m base s)
  base_bound-formed (Var b k) h s = with_variables-formed m formed b.0 (with_variable k.0 s (scope_of m b.0).variables) (variables_with k.0 s (scope_of m b.0).variables (scope-sound m formed b.0).variables_distinct)
  base_bound-formed (OfObject k p) h s =
      let x = object_of m k.0 in
      let q = object-sound m formed k.0 in
      with_object-formed m formed k.0 (record x { properties = with_property p s x.properties }) (λ b d. d) (record { properties_distinct = properties_with p s x.properties q.properties_distinct; names_short = names_with p s x.properties h.1 q.names_short }) h.0
  base_bound-formed (Static i) h s = with_statics-formed m formed (with_numbered m.statics i.0 (Some s))
  base_bound-formed (Temp b k) h s = formed

walk_bound-formed : (m : Mem) (w : Walk) → WalkFormed m w → (step : Step) → IsStepFit step → (s : ℕ) → BoundFormed (element_of_walk_bound w step s)
walk_bound-formed m (stopped why) h step fit s = tt
walk_bound-formed m (reached n spot) h step fit s = bound_in-formed n h.0 (elements_to_write (content_at n spot)) (written_elements-sound (content_at n spot) (content_at-sound n h.0 spot)) spot step fit s

finish_bind-formed : (m : Mem) → IsFormed m → (x : Bound) → BoundFormed x → (b : ℕ) → IsFormed (finish_bind x m b).0
finish_bind-formed m formed (unbound why) h b = formed
finish_bind-formed m formed (bound n None) h b = popped-formed n h b
finish_bind-formed m formed (bound n (Some s)) h b = let_fall-formed (popped n b) (popped-formed n h b) b (link s) tt

module _ (m : Mem) (formed : IsFormed m) where
  pub assign-formed : (b : ℕ) (p : Place) → CanAssign b p m → IsFormed (assign m b p).0
  unfolding assign
  assign-formed b p can = assigned-formed m formed (walk m p.base p.path) (walk-formed m formed p.base p.path can.place.0 can.place.1) b

  pub make_link-formed : (b : ℕ) (p : Place) → CanLink b p m → IsFormed (make_link m b p).0
  unfolding make_link
  make_link-formed b p can = linked-formed m formed (walk m p.base p.path) (walk-formed m formed p.base p.path can.place.0 can.place.1) b can.room

  bound_at-formed : (base : Base) (path : List Step) (s : ℕ) → IsBase m base → AreStepsWithin path → BoundFormed (bound_at m base path s)
  bound_at-formed base [] s h within = base_bound-formed m formed base h s
  bound_at-formed base (step ∷ path) s h within = walk_bound-formed m (walk m base (steps_before step path)) (walk-formed m formed base (steps_before step path) h (front-within step path within)) (last_step step path) (last-fit step path within) s

  bind_top-formed : (i : Item) (b : ℕ) (p : Place) → IsPlace m p → IsFormed (bind_top i m b p).0
  bind_top-formed (value c) b p h = formed
  bind_top-formed (link s) b p h = finish_bind-formed m formed (bound_at m p.base p.path s) (bound_at-formed p.base p.path s h.0 h.1) b

  pub bind-formed : (b : ℕ) (p : Place) → CanBind b p m → IsFormed (bind m b p).0
  unfolding bind
  bind-formed b p can = bind_top-formed (top m b) b p can.place

  -- removals

  variable_removed-formed : (o : Option ℕ) (b c k : ℕ) → IsFormed (variable_removed o m b c k)
  variable_removed-formed None b c k = formed
  variable_removed-formed (Some s) b c k = let_fall-formed _ (with_variables-formed m formed c (without_variable k (scope_of m c).variables) (variables_without k (scope_of m c).variables (scope-sound m formed c).variables_distinct)) b (link s) tt

  property_removed-formed : (o : Option ℕ) (b h : ℕ) (p : PropName) → IsObject m h → IsFormed (property_removed o m b h p)
  property_removed-formed None b h p live = formed
  property_removed-formed (Some s) b h p live =
      let x = object_of m h in
      let q = object-sound m formed h in
      let_fall-formed _ (with_object-formed m formed h (record x { properties = without_property p x.properties }) (λ b d. d) (record { properties_distinct = properties_without p x.properties q.properties_distinct; names_short = names_without p x.properties q.names_short }) live) b (link s) tt

  element_removed-formed : (o : Option ℕ) (t : Listing ℕ) → IsSoundContent (array t) → (b : ℕ) (spot : Spot) (step : Step) → IsFormed (element_removed o t m b spot step)
  element_removed-formed None t h b spot step = formed
  element_removed-formed (Some s) t h b spot Push = formed
  element_removed-formed (Some s) t h b spot (At k) = let_fall-formed (with_content m spot (array (remove_key t k))) (with_content-formed m formed spot (array (remove_key t k)) (remove-sound t k h)) b (link s) tt

  removed_in-formed : (o : Option (Listing ℕ)) → ElementsSound o → (b : ℕ) (spot : Spot) (step : Step) → IsFormed (removed_in_elements o m b spot step)
  removed_in-formed None h b spot step = formed
  removed_in-formed (Some t) h b spot step = element_removed-formed (step_store t step) t h b spot step

  removed_at_spot-formed : (o : Option Spot) (b : ℕ) (step : Step) → IsFormed (removed_at_spot o m b step)
  removed_at_spot-formed None b step = formed
  removed_at_spot-formed (Some spot) b step = removed_in-formed (elements_of (content_at m spot)) (elements-sound (content_at m spot) (content_at-sound m formed spot)) b spot step

  base_removed-formed : (b : ℕ) (base : Base) → IsBase m base → IsFormed (base_removed m b base)
  base_removed-formed b (Var c k) h = variable_removed-formed (variable_store (scope_of m c.0).variables k.0) b c.0 k.0
  base_removed-formed b (OfObject k p) h = property_removed-formed (property_store (object_of m k.0).properties p) b k.0 p h.0
  base_removed-formed b (Static i) h = formed
  base_removed-formed b (Temp c k) h = formed

  removed_at-formed : (b : ℕ) (base : Base) (path : List Step) → IsBase m base → IsFormed (removed_at m b base path)
  removed_at-formed b base [] h = base_removed-formed b base h
  removed_at-formed b base (step ∷ path) h = removed_at_spot-formed (spot_along m (base_spot m base) (steps_before step path)) b (last_step step path)

  pub unset-formed : (b : ℕ) (p : Place) → IsPlace m p → IsFormed (unset m b p)
  unfolding unset
  unset-formed b p h = removed_at-formed b p.base p.path h.0

  last_removed-formed : (o : Option (Entry ℕ)) (t : Listing ℕ) → IsSoundContent (array t) → (b : ℕ) (spot : Spot) → IsFormed (last_removed o t m b spot)
  last_removed-formed None t h b spot = formed
  last_removed-formed (Some e) t h b spot = let_fall-formed (with_content m spot (array (pop_entry t))) (with_content-formed m formed spot (array (pop_entry t)) (pop-sound t h)) b (link e.value) tt

  last_removed_in-formed : (o : Option (Listing ℕ)) → ElementsSound o → (b : ℕ) (spot : Spot) → IsFormed (last_removed_in o m b spot)
  last_removed_in-formed None h b spot = formed
  last_removed_in-formed (Some t) h b spot = last_removed-formed (last_of t.entries) t h b spot

  last_removed_at-formed : (o : Option Spot) (b : ℕ) → IsFormed (last_removed_at o m b)
  last_removed_at-formed None b = formed
  last_removed_at-formed (Some spot) b = last_removed_in-formed (elements_of (content_at m spot)) (elements-sound (content_at m spot) (content_at-sound m formed spot)) b spot

  pub unset_last-formed : (b : ℕ) (p : Place) → IsFormed (unset_last m b p)
  unfolding unset_last
  unset_last-formed b p = last_removed_at-formed (find_place m p) b

  pub forget-formed : (b k : ℕ) → IsFormed (forget m b k)
  unfolding forget
  forget-formed b k = variable_removed-formed (variable_store (scope_of m b).variables k) b b k

  shed_first-formed : (vs : List Variable) (b : ℕ) → AreVariablesDistinct vs → IsFormed (shed_first vs m b).0
  shed_first-formed [] b h = formed
  shed_first-formed (v ∷ vs) b h = let_fall-formed _ (with_variables-formed m formed b vs h.1) b (link v.store) tt

  pub shed-formed : (b : ℕ) → IsFormed (shed m b).0
  unfolding shed
  shed-formed b = shed_first-formed (scope_of m b).variables b (scope-sound m formed b).variables_distinct

module _ (m : Mem) (formed : IsFormed m) where
  pub append-formed : (b : ℕ) (p : Place) → CanAppend b p m → IsFormed (append m b p)
  unfolding append
  append-formed b p can =
      let bytes : List ℕ = text_found (found m p) ++ text_of_item (top m b) in
      let short : IsShort bytes = subst (λ (xs : List ℕ). IsShort xs) (sym (joined_is m b p can)) can.short in
      assign-formed (with_top m b (value (text bytes))) (text_on_top-formed m formed b (value (text can.behind)) bytes can.top short) b p (can_assign_joined m b p can bytes)
