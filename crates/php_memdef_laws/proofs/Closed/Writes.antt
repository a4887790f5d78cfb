-- Writes and removals lead from memories in which every named store is there to such memories.
use Rattle.std.proofs.Common.{◌≡◌, ℕ, List, [], ◌∷◌, ◌++◌, refl, cond}
use Rattle.std.specs.Prelude.{Bool, true, false, nat_eq, Option, Some, None}
use Rattle.php_value.specs.declared.key.Key.{Key}
use Rattle.php_entries.specs.Keys.{key_eq}
use Rattle.php_entries.specs.Listing.{Entry, Listing, last_of}
use Rattle.php_entries.specs.Changes.{Growth, Grown, Full as NoKeyLeft, Limit as NoEntryLeft, without_key, without_last, popped as popped_entry, remove_key, pop_entry}
use Rattle.php_memdef.specs.declared.place.PropName.{PropName}
use Rattle.php_memdef.specs.declared.place.Base.{Base}
use Rattle.php_memdef.specs.declared.place.Base.TheVariants.{Var, Property as OfObject, Static, Temp}
use Rattle.php_memdef.specs.declared.place.Step.{Step}
use Rattle.php_memdef.specs.declared.place.Step.TheVariants.{At, Push}
use Rattle.php_memdef.specs.declared.place.Place.{Place}
use Rattle.php_memdef.specs.Numbered.{numbered}
use Rattle.php_memdef.specs.Contents.{Content, null, truth, int, text, array, object, Item, value, link, Variable, Property, Object, Mem, scope_of, object_of}
use Rattle.php_memdef.specs.Holders.{stores_of_entries, stores_of_content, stores_of_item, stores_of_variables, stores_of_properties}
use Rattle.php_memdef.specs.Places.{Spot, stored, standing, content_at, with_content, variable_store, property_store, prop_name_eq, base_spot, elements_of, elements_to_write, step_store, step_set, spot_along, find_place, Walk, reached, stopped, walk}
use Rattle.php_memdef.specs.Temporaries.{pushed, popped, top, with_top, let_fall}
use Rattle.php_memdef.specs.Views.{found}
use Rattle.php_memdef.specs.Writes.{moved_in, assigned, assign, text_found, text_of_item, append, linked, make_link, Bound, bound, unbound, steps_before, last_step, element_bound, bound_in_elements, element_of_walk_bound, with_variable, with_property, base_bound, bound_at, finish_bind, bind_top, bind, without_variable, without_property, variable_removed, property_removed, element_removed, removed_in_elements, removed_at_spot, base_removed, removed_at, unset, last_removed, last_removed_in, last_removed_at, unset_last, forget, shed_first, shed}
use Rattle.php_memdef.specs.Objects.{new_object, with_new_object, object_made, make_object, clone_made, clone_of_top, clone_object, finish, spare, attach}
use Rattle.php_memdef.specs.Copies.{copied_properties, copier_of}
use Rattle.php_memdef.specs.Sound.{Every, IsLive, IsClosed}
use Rattle.php_memdef_laws.proofs.Alike.Renamings.{Every-weaken}
use Rattle.php_memdef_laws.proofs.Alike.Memories.{Alike-refl}
use Rattle.php_memdef_laws.proofs.Closed.Parts.{IfFound, variable-found, property-found, step-found, GrowthNames, step_set-names, IsSpotLive, object-closed, variables-closed, content_at-closed, with_object-closed, with_static-closed, live-with_content, with_content-closed}
use Rattle.php_memdef_laws.proofs.Alike.Walks.{WalksAlike, walk-alike, top_link-live}
use Rattle.php_memdef_laws.proofs.Alike.Copies.{copiers-alike, copied_properties-alike, start_of_making}
use Rattle.php_memdef_laws.proofs.Closed.Temporaries.{text_on_top-closed, pushed-closed, popped-closed, top-live, let_fall-closed, with_variables-closed}

-- a walk reaches a closed memory and a spot that is there
abbrev WalkClosed : Mem → Walk → Type 0
WalkClosed m (reached n spot) = IsClosed n × (IsSpotLive n spot × ((s : ℕ) → IsLive m s → IsLive n s))
WalkClosed m (stopped why) = Unit {0}

walk_closed_of : (to : ℕ → ℕ) (m : Mem) (w : Walk) → WalksAlike to m w w → WalkClosed m w
walk_closed_of to m (reached n spot) a = (a.closed, (a.live, a.extends.live))
walk_closed_of to m (stopped why) a = tt

variables_without : (P : ℕ → Type 0) (n : ℕ) (vs : List Variable) → Every P (stores_of_variables vs) → Every P (stores_of_variables (without_variable n vs))
variables_without P n [] h = tt
variables_without P n (v ∷ vs) h = chosen (nat_eq n v.name) (variables_without P n vs h.1)
  where
    chosen : (b : Bool) → Every P (stores_of_variables (without_variable n vs)) → Every P (stores_of_variables (cond b vs (v ∷ without_variable n vs)))
    chosen true k = h.1
    chosen false k = (h.0, k)

properties_without : (P : ℕ → Type 0) (n : PropName) (ps : List Property) → Every P (stores_of_properties ps) → Every P (stores_of_properties (without_property n ps))
properties_without P n [] h = tt
properties_without P n (p ∷ ps) h = chosen (prop_name_eq n p.name) (properties_without P n ps h.1)
  where
    chosen : (b : Bool) → Every P (stores_of_properties (without_property n ps)) → Every P (stores_of_properties (cond b ps (p ∷ without_property n ps)))
    chosen true k = h.1
    chosen false k = (h.0, k)

variables_with : (P : ℕ → Type 0) (n s : ℕ) (vs : List Variable) → P s → Every P (stores_of_variables vs) → Every P (stores_of_variables (with_variable n s vs))
variables_with P n s [] p h = (p, tt)
variables_with P n s (v ∷ vs) p h = chosen (nat_eq n v.name) (variables_with P n s vs p h.1)
  where
    chosen : (b : Bool) → Every P (stores_of_variables (with_variable n s vs)) → Every P (stores_of_variables (cond b (record v { store = s } ∷ vs) (v ∷ with_variable n s vs)))
    chosen true k = (p, h.1)
    chosen false k = (h.0, k)

properties_with : (P : ℕ → Type 0) (n : PropName) (s : ℕ) (ps : List Property) → P s → Every P (stores_of_properties ps) → Every P (stores_of_properties (with_property n s ps))
properties_with P n s [] p h = (p, tt)
properties_with P n s (x ∷ ps) p h = chosen (prop_name_eq n x.name) (properties_with P n s ps p h.1)
  where
    chosen : (b : Bool) → Every P (stores_of_properties (with_property n s ps)) → Every P (stores_of_properties (cond b (record x { store = s } ∷ ps) (x ∷ with_property n s ps)))
    chosen true k = (p, h.1)
    chosen false k = (h.0, k)

entries_without : (P : ℕ → Type 0) (k : Key) (es : List (Entry ℕ)) → Every P (stores_of_entries es) → Every P (stores_of_entries (without_key k es))
entries_without P k [] h = tt
entries_without P k (e ∷ es) h = chosen (key_eq k e.key) (entries_without P k es h.1)
  where
    chosen : (b : Bool) → Every P (stores_of_entries (without_key k es)) → Every P (stores_of_entries (cond b es (e ∷ without_key k es)))
    chosen true x = h.1
    chosen false x = (h.0, x)

entries_before_last : (P : ℕ → Type 0) (es : List (Entry ℕ)) → Every P (stores_of_entries es) → Every P (stores_of_entries (without_last es))
entries_before_last P [] h = tt
entries_before_last P (e ∷ []) h = tt
entries_before_last P (e ∷ f ∷ es) h = (h.0, entries_before_last P (f ∷ es) h.1)

abbrev EntryNamed : (ℕ → Type 0) → Option (Entry ℕ) → Type 0
EntryNamed P None = Unit {0}
EntryNamed P (Some e) = P e.value

last_named : (P : ℕ → Type 0) (es : List (Entry ℕ)) → Every P (stores_of_entries es) → EntryNamed P (last_of es)
last_named P [] h = tt
last_named P (e ∷ []) h = h.0
last_named P (e ∷ f ∷ es) h = last_named P (f ∷ es) h.1

popped_named : (P : ℕ → Type 0) (o : Option (Entry ℕ)) (t : Listing ℕ) → Every P (stores_of_entries t.entries) → Every P (stores_of_entries (popped_entry o t).entries)
popped_named P None t h = h
popped_named P (Some e) t h = entries_before_last P t.entries h

pop_named : (P : ℕ → Type 0) (t : Listing ℕ) → Every P (stores_of_entries t.entries) → Every P (stores_of_entries (pop_entry t).entries)
unfolding pop_entry
pop_named P t h = popped_named P (last_of t.entries) t h

remove_named : (P : ℕ → Type 0) (t : Listing ℕ) (k : Key) → Every P (stores_of_entries t.entries) → Every P (stores_of_entries (remove_key t k).entries)
unfolding remove_key
remove_named P t k h = entries_without P k t.entries h

abbrev ElementsNamed : (ℕ → Type 0) → Option (Listing ℕ) → Type 0
ElementsNamed P None = Unit {0}
ElementsNamed P (Some t) = Every P (stores_of_entries t.entries)

elements_named : (P : ℕ → Type 0) (c : Content) → Every P (stores_of_content c) → ElementsNamed P (elements_of c)
elements_named P null h = tt
elements_named P (truth b) h = tt
elements_named P (int i) h = tt
elements_named P (text bytes) h = tt
elements_named P (array t) h = h
elements_named P (object k) h = tt

written_elements_named : (P : ℕ → Type 0) (c : Content) → Every P (stores_of_content c) → ElementsNamed P (elements_to_write c)
written_elements_named P null h = tt
written_elements_named P (truth b) h = tt
written_elements_named P (int i) h = tt
written_elements_named P (text bytes) h = tt
written_elements_named P (array t) h = h
written_elements_named P (object k) h = tt

found_static : (m : Mem) → IsClosed m → (i : ℕ) (o : Option ℕ) → numbered m.statics i ≡ o → IfFound (IsLive m) o
found_static m closed i None e = tt
found_static m closed i (Some s) e = closed.statics i s e

module _ (m : Mem) (closed : IsClosed m) where
  walk_closed : (base : Base) (path : List Step) → WalkClosed m (walk m base path)
  walk_closed base path = let a = Alike-refl m in walk_closed_of a.to m (walk m base path) (walk-alike a.to a.back m m a.renamed closed base path)

  -- a link falls behind a change
  dropped : (b s : ℕ) → IsLive m s → IsClosed (let_fall m b (link s))
  dropped b s h = let_fall-closed m closed b (link s) (h, tt)

  moved_in-closed : (i : Item) → Every (IsLive m) (stores_of_item i) → (b : ℕ) (spot : Spot) → IsClosed (moved_in i m b spot)
  moved_in-closed (link s) h b spot = closed
  moved_in-closed (value c) h b spot =
      let n = with_content m spot c in
      let p = with_content-closed m closed spot c h in
      let q = popped-closed n p b in
      let_fall-closed (popped n b) q b (value (content_at m spot)) (Every-weaken (IsLive m) (IsLive n) (live-with_content m closed spot c) (stores_of_content (content_at m spot)) (content_at-closed m closed spot))

assigned-closed : (m : Mem) → IsClosed m → (w : Walk) → WalkClosed m w → (b : ℕ) → IsClosed (assigned w m b).0
assigned-closed m closed (stopped why) h b = closed
assigned-closed m closed (reached n spot) h b = moved_in-closed n h.0 (top n b) (top-live n h.0 b) b spot

linked-closed : (m : Mem) → IsClosed m → (w : Walk) → WalkClosed m w → (b : ℕ) → IsClosed (linked w m b).0
linked-closed m closed (stopped why) h b = closed
linked-closed m closed (reached n (standing c k)) h b = closed
linked-closed m closed (reached n (stored s)) h b = pushed-closed n h.0 b (link s) (h.1.0, tt)

abbrev BoundClosed : Bound → Type 0
BoundClosed (bound n before) = IsClosed n × IfFound (IsLive n) before
BoundClosed (unbound why) = Unit {0}

more_found : (P Q : ℕ → Type 0) → ((s : ℕ) → P s → Q s) → (o : Option ℕ) → IfFound P o → IfFound Q o
more_found P Q f None h = tt
more_found P Q f (Some s) h = f s h

module _ (m : Mem) (closed : IsClosed m) where
  element_bound-closed : (g : Growth ℕ) → GrowthNames (IsLive m) g → (o : Option ℕ) → IfFound (IsLive m) o → (spot : Spot) → BoundClosed (element_bound g o m spot)
  element_bound-closed (Grown u) h o k spot = (with_content-closed m closed spot (array u) h, more_found (IsLive m) (IsLive (with_content m spot (array u))) (live-with_content m closed spot (array u)) o k)
  element_bound-closed NoKeyLeft h o k spot = tt
  element_bound-closed NoEntryLeft h o k spot = tt

  bound_in-closed : (o : Option (Listing ℕ)) → ElementsNamed (IsLive m) o → (spot : Spot) (step : Step) (s : ℕ) → IsLive m s → BoundClosed (bound_in_elements o m spot step s)
  bound_in-closed None h spot step s k = tt
  bound_in-closed (Some t) h spot step s k = element_bound-closed (step_set t step s) (step_set-names (IsLive m) t step s h k) (step_store t step) (step-found (IsLive m) t step h) spot

  base_bound-closed : (base : Base) (s : ℕ) → IsLive m s → BoundClosed (base_bound m base s)
  base_bound-closed (Var b n) s k = (with_variables-closed m closed b.0 (with_variable n.0 s (scope_of m b.0).variables) (variables_with (IsLive m) n.0 s (scope_of m b.0).variables k (variables-closed m closed b.0)), variable-found (IsLive m) (scope_of m b.0).variables n.0 (variables-closed m closed b.0))
  base_bound-closed (OfObject h p) s k = (with_object-closed m closed h.0 (record (object_of m h.0) { properties = with_property p s (object_of m h.0).properties }) (properties_with (IsLive m) p s (object_of m h.0).properties k (object-closed m closed h.0)), property-found (IsLive m) (object_of m h.0).properties p (object-closed m closed h.0))
  base_bound-closed (Static i) s k = (with_static-closed m closed i.0 s k, found_static m closed i.0 (numbered m.statics i.0) refl)
  base_bound-closed (Temp b n) s k = (closed, tt)

walk_bound-closed : (m : Mem) (w : Walk) → WalkClosed m w → (step : Step) (s : ℕ) → IsLive m s → BoundClosed (element_of_walk_bound w step s)
walk_bound-closed m (stopped why) h step s k = tt
walk_bound-closed m (reached n spot) h step s k = bound_in-closed n h.0 (elements_to_write (content_at n spot)) (written_elements_named (IsLive n) (content_at n spot) (content_at-closed n h.0 spot)) spot step s (h.1.1 s k)

finish_bind-closed : (m : Mem) → IsClosed m → (x : Bound) → BoundClosed x → (b : ℕ) → IsClosed (finish_bind x m b).0
finish_bind-closed m closed (unbound why) h b = closed
finish_bind-closed m closed (bound n None) h b = popped-closed n h.0 b
finish_bind-closed m closed (bound n (Some s)) h b = let_fall-closed (popped n b) (popped-closed n h.0 b) b (link s) (h.1, tt)

module _ (m : Mem) (closed : IsClosed m) where
  pub assign-closed : (b : ℕ) (p : Place) → IsClosed (assign m b p).0
  unfolding assign
  assign-closed b p = assigned-closed m closed (walk m p.base p.path) (walk_closed m closed p.base p.path) b

  pub make_link-closed : (b : ℕ) (p : Place) → IsClosed (make_link m b p).0
  unfolding make_link
  make_link-closed b p = linked-closed m closed (walk m p.base p.path) (walk_closed m closed p.base p.path) b

  bound_at-closed : (base : Base) (path : List Step) (s : ℕ) → IsLive m s → BoundClosed (bound_at m base path s)
  bound_at-closed base [] s k = base_bound-closed m closed base s k
  bound_at-closed base (step ∷ path) s k = walk_bound-closed m (walk m base (steps_before step path)) (walk_closed m closed base (steps_before step path)) (last_step step path) s k

  bind_top-closed : (i : Item) → ((s : ℕ) → i ≡ link s → IsLive m s) → (b : ℕ) (p : Place) → IsClosed (bind_top i m b p).0
  bind_top-closed (value c) h b p = closed
  bind_top-closed (link s) h b p = finish_bind-closed m closed (bound_at m p.base p.path s) (bound_at-closed p.base p.path s (h s refl)) b

  pub bind-closed : (b : ℕ) (p : Place) → IsClosed (bind m b p).0
  unfolding bind
  bind-closed b p = bind_top-closed (top m b) (top_link-live m m closed (Alike-refl m) b) b p

  variable_removed-closed : (o : Option ℕ) → IfFound (IsLive m) o → (b c n : ℕ) → IsClosed (variable_removed o m b c n)
  variable_removed-closed None h b c n = closed
  variable_removed-closed (Some s) h b c n = dropped _ (with_variables-closed m closed c (without_variable n (scope_of m c).variables) (variables_without (IsLive m) n (scope_of m c).variables (variables-closed m closed c))) b s h

  property_removed-closed : (o : Option ℕ) → IfFound (IsLive m) o → (b k : ℕ) (n : PropName) → IsClosed (property_removed o m b k n)
  property_removed-closed None h b k n = closed
  property_removed-closed (Some s) h b k n = dropped _ (with_object-closed m closed k (record (object_of m k) { properties = without_property n (object_of m k).properties }) (properties_without (IsLive m) n (object_of m k).properties (object-closed m closed k))) b s h

  array_kept-closed : (spot : Spot) (t : Listing ℕ) → Every (IsLive m) (stores_of_entries t.entries) → (b s : ℕ) → IsLive m s → IsClosed (let_fall (with_content m spot (array t)) b (link s))
  array_kept-closed spot t h b s k = dropped (with_content m spot (array t)) (with_content-closed m closed spot (array t) h) b s (live-with_content m closed spot (array t) s k)

  element_removed-closed : (o : Option ℕ) → IfFound (IsLive m) o → (t : Listing ℕ) → Every (IsLive m) (stores_of_entries t.entries) → (b : ℕ) (spot : Spot) (step : Step) → IsClosed (element_removed o t m b spot step)
  element_removed-closed None k t h b spot step = closed
  element_removed-closed (Some s) k t h b spot Push = closed
  element_removed-closed (Some s) k t h b spot (At key) = array_kept-closed spot (remove_key t key) (remove_named (IsLive m) t key h) b s k

  removed_in-closed : (o : Option (Listing ℕ)) → ElementsNamed (IsLive m) o → (b : ℕ) (spot : Spot) (step : Step) → IsClosed (removed_in_elements o m b spot step)
  removed_in-closed None h b spot step = closed
  removed_in-closed (Some t) h b spot step = element_removed-closed (step_store t step) (step-found (IsLive m) t step h) t h b spot step

  removed_at_spot-closed : (o : Option Spot) (b : ℕ) (step : Step) → IsClosed (removed_at_spot o m b step)
  removed_at_spot-closed None b step = closed
  removed_at_spot-closed (Some spot) b step = removed_in-closed (elements_of (content_at m spot)) (elements_named (IsLive m) (content_at m spot) (content_at-closed m closed spot)) b spot step

  base_removed-closed : (b : ℕ) (base : Base) → IsClosed (base_removed m b base)
  base_removed-closed b (Var c n) = variable_removed-closed (variable_store (scope_of m c.0).variables n.0) (variable-found (IsLive m) (scope_of m c.0).variables n.0 (variables-closed m closed c.0)) b c.0 n.0
  base_removed-closed b (OfObject h p) = property_removed-closed (property_store (object_of m h.0).properties p) (property-found (IsLive m) (object_of m h.0).properties p (object-closed m closed h.0)) b h.0 p
  base_removed-closed b (Static i) = closed
  base_removed-closed b (Temp c n) = closed

  removed_at-closed : (b : ℕ) (base : Base) (path : List Step) → IsClosed (removed_at m b base path)
  removed_at-closed b base [] = base_removed-closed b base
  removed_at-closed b base (step ∷ path) = removed_at_spot-closed (spot_along m (base_spot m base) (steps_before step path)) b (last_step step path)

  pub unset-closed : (b : ℕ) (p : Place) → IsClosed (unset m b p)
  unfolding unset
  unset-closed b p = removed_at-closed b p.base p.path

  last_removed-closed : (o : Option (Entry ℕ)) → EntryNamed (IsLive m) o → (t : Listing ℕ) → Every (IsLive m) (stores_of_entries t.entries) → (b : ℕ) (spot : Spot) → IsClosed (last_removed o t m b spot)
  last_removed-closed None k t h b spot = closed
  last_removed-closed (Some e) k t h b spot = array_kept-closed spot (pop_entry t) (pop_named (IsLive m) t h) b e.value k

  last_removed_in-closed : (o : Option (Listing ℕ)) → ElementsNamed (IsLive m) o → (b : ℕ) (spot : Spot) → IsClosed (last_removed_in o m b spot)
  last_removed_in-closed None h b spot = closed
  last_removed_in-closed (Some t) h b spot = last_removed-closed (last_of t.entries) (last_named (IsLive m) t.entries h) t h b spot

  last_removed_at-closed : (o : Option Spot) (b : ℕ) → IsClosed (last_removed_at o m b)
  last_removed_at-closed None b = closed
  last_removed_at-closed (Some spot) b = last_removed_in-closed (elements_of (content_at m spot)) (elements_named (IsLive m) (content_at m spot) (content_at-closed m closed spot)) b spot

  pub unset_last-closed : (b : ℕ) (p : Place) → IsClosed (unset_last m b p)
  unfolding unset_last
  unset_last-closed b p = last_removed_at-closed (find_place m p) b

  pub forget-closed : (b n : ℕ) → IsClosed (forget m b n)
  unfolding forget
  forget-closed b n = variable_removed-closed (variable_store (scope_of m b).variables n) (variable-found (IsLive m) (scope_of m b).variables n (variables-closed m closed b)) b b n

  shed_first-closed : (vs : List Variable) → Every (IsLive m) (stores_of_variables vs) → (b : ℕ) → IsClosed (shed_first vs m b).0
  shed_first-closed [] h b = closed
  shed_first-closed (v ∷ vs) h b = dropped _ (with_variables-closed m closed b vs h.1) b v.store h.0

  pub shed-closed : (b : ℕ) → IsClosed (shed m b).0
  unfolding shed
  shed-closed b = shed_first-closed (scope_of m b).variables (variables-closed m closed b) b

  -- objects

  pub finish-closed : (h : ℕ) → IsClosed (finish m h)
  unfolding finish
  finish-closed h = with_object-closed m closed h (record (object_of m h) { finishing = true }) (object-closed m closed h)

  pub spare-closed : (h : ℕ) → IsClosed (spare m h)
  unfolding spare
  spare-closed h = with_object-closed m closed h (record (object_of m h) { spent = true }) (object-closed m closed h)

  pub attach-closed : (h : ℕ) (f : Option ℕ) → IsClosed (attach m h f)
  unfolding attach
  attach-closed h f = with_object-closed m closed h (record (object_of m h) { frame = f }) (object-closed m closed h)

  with_new_object-closed : (o : Object) → Every (IsLive m) (stores_of_properties o.properties) → IsClosed (with_new_object m o)
  with_new_object-closed o h = let p = with_object-closed m closed m.next_object o h in record { stores = p.stores; objects = p.objects; blocks = p.blocks; statics = p.statics }

object_made-closed : (m : Mem) → IsClosed m → (full : Bool) (b class : ℕ) (finishing : Bool) → IsClosed (object_made full m b class finishing).0
object_made-closed m closed true b class finishing = closed
object_made-closed m closed false b class finishing = pushed-closed (with_new_object m (new_object class finishing)) (with_new_object-closed m closed (new_object class finishing) tt) b (value (object m.next_object)) tt

module _ (m : Mem) (closed : IsClosed m) where
  pub make_object-closed : (b class : ℕ) (finishing : Bool) → IsClosed (make_object m b class finishing).0
  unfolding make_object
  make_object-closed b class finishing = object_made-closed m closed _ b class finishing

  clone_made-closed : (full : Bool) (b h : ℕ) → IsClosed (clone_made full m b h).0
  clone_made-closed true b h = closed
  clone_made-closed false b h =
      let a = Alike-refl m in
      let o = object_of m h in
      let x = copied_properties (copier_of m) m m.stores o.properties in
      let p = copied_properties-alike a.to m m a.back a.renamed closed (copier_of m) (copier_of m) (copiers-alike a.to m m a.back a.renamed closed) o.properties m.stores m.stores (start_of_making a.to m m a.back a.renamed closed) (object-closed m closed h) in
      let m' : Mem = record m { stores = x.stores } in
      let clone : Object = record o { properties = x.made; spent = false; frame = None } in
      let n = with_new_object m' clone in
      let q = with_new_object-closed m' p.on.making.closed clone p.live in
      let r = popped-closed n q b in
      let_fall-closed (pushed (popped n b) b (value (object m.next_object))) (pushed-closed (popped n b) r b (value (object m.next_object)) tt) b (value (object h)) tt

  clone_of_top-closed : (i : Item) (b : ℕ) → IsClosed (clone_of_top i m b).0
  clone_of_top-closed (link s) b = closed
  clone_of_top-closed (value null) b = closed
  clone_of_top-closed (value (truth x)) b = closed
  clone_of_top-closed (value (int i)) b = closed
  clone_of_top-closed (value (text bytes)) b = closed
  clone_of_top-closed (value (array t)) b = closed
  clone_of_top-closed (value (object h)) b = clone_made-closed _ b h

  pub clone_object-closed : (b : ℕ) → IsClosed (clone_object m b).0
  unfolding clone_object
  clone_object-closed b = clone_of_top-closed (top m b) b

module _ (m : Mem) (closed : IsClosed m) where
  pub append-closed : (b : ℕ) (p : Place) → IsClosed (append m b p)
  unfolding append
  append-closed b p =
      let bytes : List ℕ = text_found (found m p) ++ text_of_item (top m b) in
      assign-closed (with_top m b (value (text bytes))) (text_on_top-closed m closed b bytes) b p
