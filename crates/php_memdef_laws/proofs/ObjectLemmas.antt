-- Which objects are there after each operation.
use Rattle.std.proofs.Common.{◌≡◌, ℕ, zero, suc, List, [], ◌∷◌, ◌++◌, refl, sym, ◌∙◌, ap, inl, inr, cond}
use Rattle.std.specs.Prelude.{Bool, true, false, ◌&&◌, not, nat_le, nat_eq, Option, Some, None, IsSome, is_some}
use Rattle.std.proofs.lemmas.Bool.{false≢true}
use Rattle.std.proofs.lemmas.Bool.Decides.{eqb_tells}
use Rattle.php_entries.specs.Listing.{Entry, Listing, last_of}
use Rattle.php_entries.specs.Changes.{Growth, Grown, Full as NoKeyLeft, Limit as NoEntryLeft, remove_key, pop_entry}
use Rattle.php_value.specs.declared.scalar.Scalar.{Scalar}
use Rattle.php_value.specs.declared.scalar.Scalar.TheVariants as scalar
use Rattle.php_memdef.specs.declared.place.PropName.{PropName}
use Rattle.php_memdef.specs.declared.place.Base.{Base}
use Rattle.php_memdef.specs.declared.place.Base.TheVariants.{Var, Property as OfObject, Static, Temp}
use Rattle.php_memdef.specs.declared.place.Step.{Step}
use Rattle.php_memdef.specs.declared.place.Step.TheVariants.{At, Push}
use Rattle.php_memdef.specs.declared.place.Place.{Place}
use Rattle.php_memdef.specs.Numbered.{Numbered, numbered, with_numbered}
use Rattle.php_memdef.specs.Contents.{Content, null, truth, int, text, array, object, Item, value, link, Variable, Object, Mem, scope_of, object_of}
use Rattle.php_memdef.specs.Places.{Spot, stored, standing, nth_item, content_at, with_content, with_object, with_new_store, new_store_number, variable_store, property_store, temp_spot, base_spot, elements_of, elements_to_write, step_store, step_set, spot_along, find_place, Walk, reached, stopped, element_made, element_to_write, step_in_elements, walk_step, walk_along, variable_to_write, property_to_write, static_to_write, temp_to_write, base_to_write, walk}
use Rattle.php_memdef.specs.Temporaries.{with_falling, top, with_top, enter, leave, push, push_array, push_object, pass, turn, reserve, drop_top, copy_of_spot, copy, settled, settle}
use Rattle.php_memdef.specs.Writes.{moved_in, assigned, assign, text_found, text_of_item, append, linked, make_link, Bound, bound, unbound, steps_before, last_step, element_bound, bound_in_elements, element_of_walk_bound, with_property, base_bound, bound_at, finish_bind, bind_top, bind, without_property, variable_removed, property_removed, element_removed, removed_in_elements, removed_at_spot, base_removed, removed_at, unset, last_removed, last_removed_in, last_removed_at, unset_last, forget, shed_first, shed}
use Rattle.php_memdef.specs.Releases.{Turn, goes_on, stops, link_dropped, object_removed, object_released, handle_dropped, is_held, is_object_held, item_released, first_released, turn as turn_of_release, fall_after, fall_within, turns, fall}
use Rattle.php_memdef.specs.Objects.{OBJECT_LIMIT, object_made, make_object, clone_made, clone_of_top, clone_object, finish, spare, attach}
use Rattle.php_memdef.specs.Views.{found}
use Rattle.php_memdef.specs.Conditions.{IsObject, IsBase, CanAppend}
use Rattle.php_memdef.specs.Operations.{Operation, Can, effect}
use Rattle.php_memdef.specs.Operations as op
use Rattle.php_memdef_laws.specs.Lives.{IsNoRelease, there_if_made, is_object_after}
use Rattle.php_memdef_laws.proofs.NumberedLemmas.{numbered-with_same, numbered-with_other}
use Rattle.php_memdef_laws.proofs.AppendLemmas.{can_assign_joined}
use Rattle.php_memdef_laws.proofs.Formed.Releases.{framed_there, due_there}

-- the same objects are there
abbrev AllThere : Mem → Mem → Type 0
AllThere m n = (h : ℕ) → is_some (numbered n.objects h) ≡ is_some (numbered m.objects h)

there_changed : (os : Numbered Object) (k : ℕ) (x : Object) (h : ℕ) → is_some (numbered (with_numbered os k (Some x)) h) ≡ cond (nat_eq h k) true (is_some (numbered os h))
there_changed os k x h = elim (eqb_tells h k) [
  | inl e ↦ ap (λ j. is_some (numbered (with_numbered os k (Some x)) j)) e.1 ∙ ap is_some (numbered-with_same os k (Some x)) ∙ sym (ap (λ t. cond t true (is_some (numbered os h))) e.0)
  | inr e ↦ ap is_some (numbered-with_other os k h (Some x) e.1) ∙ sym (ap (λ t. cond t true (is_some (numbered os h))) e.0)
]

object-there : (m : Mem) (k : ℕ) (x : Object) → IsObject m k → AllThere m (with_object m k x)
object-there m k x live h = elim (eqb_tells h k) [
  | inl e ↦ there_changed m.objects k x h ∙ ap (λ t. cond t true (is_some (numbered m.objects h))) e.0 ∙ sym (ap (λ j. is_some (numbered m.objects j)) e.1 ∙ live)
  | inr e ↦ there_changed m.objects k x h ∙ ap (λ t. cond t true (is_some (numbered m.objects h))) e.0
]

content-there : (m : Mem) (spot : Spot) (x : Content) → AllThere m (with_content m spot x)
content-there m (stored s) x h = refl
content-there m (standing b k) x h = refl

-- walks

abbrev WalkThere : Mem → Walk → Type 0
WalkThere m (reached n spot) = AllThere m n
WalkThere m (stopped why) = Unit {0}

further : (l m : Mem) → AllThere l m → (w : Walk) → WalkThere m w → WalkThere l w
further l m a (reached n spot) w = λ h. w h ∙ a h
further l m a (stopped why) w = tt

module _ (m : Mem) where
  made-there : (g : Growth ℕ) (spot : Spot) → WalkThere m (element_made g m spot)
  made-there (Grown u) spot = content-there (with_new_store m null) spot (array u)
  made-there NoKeyLeft spot = tt
  made-there NoEntryLeft spot = tt

  element-there : (o : Option ℕ) (t : Listing ℕ) (spot : Spot) (step : Step) → WalkThere m (element_to_write o t m spot step)
  element-there (Some s) t spot step = λ h. refl
  element-there None t spot step = made-there (step_set t step (new_store_number m)) spot

  step_in-there : (o : Option (Listing ℕ)) (spot : Spot) (step : Step) → WalkThere m (step_in_elements o m spot step)
  step_in-there None spot step = tt
  step_in-there (Some t) spot step = element-there (step_store t step) t spot step

  variable-there : (o : Option ℕ) (b k : ℕ) → WalkThere m (variable_to_write o m b k)
  variable-there (Some s) b k = λ h. refl
  variable-there None b k = λ h. refl

  property-there : (o : Option ℕ) (j : ℕ) (p : PropName) → IsObject m j → WalkThere m (property_to_write o m j p)
  property-there (Some s) j p live = λ h. refl
  property-there None j p live = object-there (with_new_store m null) j (record (object_of m j) { properties = (object_of m j).properties ++ record { name = p; store = new_store_number m } ∷ [] }) live

  static-there : (o : Option ℕ) (i : ℕ) → WalkThere m (static_to_write o m i)
  static-there (Some s) i = λ h. refl
  static-there None i = λ h. refl

  temp-there : (o : Option Spot) (b k : ℕ) → WalkThere m (temp_to_write o m b k)
  temp-there (Some spot) b k = λ h. refl
  temp-there None b k = λ h. refl

  base-there : (base : Base) → IsBase m base → WalkThere m (base_to_write m base)
  base-there (Var b k) is = variable-there (variable_store (scope_of m b.0).variables k.0) b.0 k.0
  base-there (OfObject j p) is = property-there (property_store (object_of m j.0).properties p) j.0 p is.0
  base-there (Static i) is = static-there (numbered m.statics i.0) i.0
  base-there (Temp b k) is = temp-there (temp_spot b.0 k (nth_item (scope_of m b.0).temps k)) b.0 k

walk_step-there : (m : Mem) (w : Walk) → WalkThere m w → (step : Step) → WalkThere m (walk_step w step)
walk_step-there m (stopped why) h step = tt
walk_step-there m (reached n spot) h step = further m n h (walk_step (reached n spot) step) (step_in-there n (elements_to_write (content_at n spot)) spot step)

walk_along-there : (m : Mem) (w : Walk) → WalkThere m w → (path : List Step) → WalkThere m (walk_along w path)
walk_along-there m w h [] = h
walk_along-there m w h (step ∷ path) = walk_along-there m (walk_step w step) (walk_step-there m w h step) path

walk-there : (m : Mem) (base : Base) (path : List Step) → IsBase m base → WalkThere m (walk m base path)
unfolding walk
walk-there m base path is = walk_along-there m (base_to_write m base) (base-there m base is) path

-- writes

moved_in-there : (n : Mem) (b : ℕ) (spot : Spot) (i : Item) → AllThere n (moved_in i n b spot)
moved_in-there n b spot (link s) h = refl
moved_in-there n b spot (value x) h = content-there n spot x h

assigned-there : (m : Mem) (b : ℕ) (w : Walk) → WalkThere m w → AllThere m (assigned w m b).0
assigned-there m b (stopped why) w h = refl
assigned-there m b (reached n spot) w h = moved_in-there n b spot (top n b) h ∙ w h

assign-there : (m : Mem) (b : ℕ) (p : Place) → IsBase m p.base → AllThere m (assign m b p).0
unfolding assign
assign-there m b p is = assigned-there m b (walk m p.base p.path) (walk-there m p.base p.path is)

append-there : (m : Mem) (b : ℕ) (p : Place) → CanAppend b p m → AllThere m (append m b p)
unfolding append
append-there m b p can h =
    let bytes : List ℕ = text_found (found m p) ++ text_of_item (top m b) in
    assign-there (with_top m b (value (text bytes))) b p (can_assign_joined m b p can bytes).place.0 h

linked-there : (m : Mem) (b : ℕ) (w : Walk) → WalkThere m w → AllThere m (linked w m b).0
linked-there m b (stopped why) w h = refl
linked-there m b (reached n (stored s)) w h = w h
linked-there m b (reached n (standing d k)) w h = refl

make_link-there : (m : Mem) (b : ℕ) (p : Place) → IsBase m p.base → AllThere m (make_link m b p).0
unfolding make_link
make_link-there m b p is = linked-there m b (walk m p.base p.path) (walk-there m p.base p.path is)

abbrev BoundThere : Mem → Bound → Type 0
BoundThere m (bound n before) = AllThere m n
BoundThere m (unbound why) = Unit {0}

module _ (m n : Mem) (a : AllThere m n) (spot : Spot) where
  element_bound-there : (g : Growth ℕ) (o : Option ℕ) → BoundThere m (element_bound g o n spot)
  element_bound-there (Grown u) o = λ h. content-there n spot (array u) h ∙ a h
  element_bound-there NoKeyLeft o = tt
  element_bound-there NoEntryLeft o = tt

  bound_in-there : (o : Option (Listing ℕ)) (step : Step) (s : ℕ) → BoundThere m (bound_in_elements o n spot step s)
  bound_in-there None step s = tt
  bound_in-there (Some t) step s = element_bound-there (step_set t step s) (step_store t step)

walk_bound-there : (m : Mem) (w : Walk) → WalkThere m w → (step : Step) (s : ℕ) → BoundThere m (element_of_walk_bound w step s)
walk_bound-there m (stopped why) h step s = tt
walk_bound-there m (reached n spot) h step s = bound_in-there m n h spot (elements_to_write (content_at n spot)) step s

module _ (m : Mem) where
  base_bound-there : (base : Base) → IsBase m base → (s : ℕ) → BoundThere m (base_bound m base s)
  base_bound-there (Var b k) is s = λ h. refl
  base_bound-there (OfObject j p) is s = object-there m j.0 (record (object_of m j.0) { properties = with_property p s (object_of m j.0).properties }) is.0
  base_bound-there (Static i) is s = λ h. refl
  base_bound-there (Temp b k) is s = λ h. refl

  bound_at-there : (base : Base) (path : List Step) → IsBase m base → (s : ℕ) → BoundThere m (bound_at m base path s)
  bound_at-there base [] is s = base_bound-there base is s
  bound_at-there base (step ∷ path) is s = walk_bound-there m (walk m base (steps_before step path)) (walk-there m base (steps_before step path) is) (last_step step path) s

  finish_bind-there : (b : ℕ) (x : Bound) → BoundThere m x → AllThere m (finish_bind x m b).0
  finish_bind-there b (unbound why) w h = refl
  finish_bind-there b (bound n None) w h = w h
  finish_bind-there b (bound n (Some s)) w h = w h

  bind_top-there : (b : ℕ) (i : Item) (p : Place) → IsBase m p.base → AllThere m (bind_top i m b p).0
  bind_top-there b (value x) p is h = refl
  bind_top-there b (link s) p is h = finish_bind-there b (bound_at m p.base p.path s) (bound_at-there p.base p.path is s) h

  bind-there : (b : ℕ) (p : Place) → IsBase m p.base → AllThere m (bind m b p).0
  unfolding bind
  bind-there b p is = bind_top-there b (top m b) p is

  -- removals

  variable_removed-there : (o : Option ℕ) (b d k : ℕ) → AllThere m (variable_removed o m b d k)
  variable_removed-there None b d k h = refl
  variable_removed-there (Some s) b d k h = refl

  property_removed-there : (o : Option ℕ) (b j : ℕ) (p : PropName) → IsObject m j → AllThere m (property_removed o m b j p)
  property_removed-there None b j p live h = refl
  property_removed-there (Some s) b j p live h = object-there m j (record (object_of m j) { properties = without_property p (object_of m j).properties }) live h

  element_removed-there : (o : Option ℕ) (t : Listing ℕ) (b : ℕ) (spot : Spot) (step : Step) → AllThere m (element_removed o t m b spot step)
  element_removed-there None t b spot step h = refl
  element_removed-there (Some s) t b spot Push h = refl
  element_removed-there (Some s) t b spot (At k) h = content-there m spot (array (remove_key t k)) h

  removed_in-there : (o : Option (Listing ℕ)) (b : ℕ) (spot : Spot) (step : Step) → AllThere m (removed_in_elements o m b spot step)
  removed_in-there None b spot step h = refl
  removed_in-there (Some t) b spot step h = element_removed-there (step_store t step) t b spot step h

  removed_at_spot-there : (o : Option Spot) (b : ℕ) (step : Step) → AllThere m (removed_at_spot o m b step)
  removed_at_spot-there None b step h = refl
  removed_at_spot-there (Some spot) b step h = removed_in-there (elements_of (content_at m spot)) b spot step h

  base_removed-there : (b : ℕ) (base : Base) → IsBase m base → AllThere m (base_removed m b base)
  base_removed-there b (Var d k) is = variable_removed-there (variable_store (scope_of m d.0).variables k.0) b d.0 k.0
  base_removed-there b (OfObject j p) is = property_removed-there (property_store (object_of m j.0).properties p) b j.0 p is.0
  base_removed-there b (Static i) is = λ h. refl
  base_removed-there b (Temp d k) is = λ h. refl

  removed_at-there : (b : ℕ) (base : Base) (path : List Step) → IsBase m base → AllThere m (removed_at m b base path)
  removed_at-there b base [] is = base_removed-there b base is
  removed_at-there b base (step ∷ path) is = removed_at_spot-there (spot_along m (base_spot m base) (steps_before step path)) b (last_step step path)

  unset-there : (b : ℕ) (p : Place) → IsBase m p.base → AllThere m (unset m b p)
  unfolding unset
  unset-there b p is = removed_at-there b p.base p.path is

  last_removed-there : (o : Option (Entry ℕ)) (t : Listing ℕ) (b : ℕ) (spot : Spot) → AllThere m (last_removed o t m b spot)
  last_removed-there None t b spot h = refl
  last_removed-there (Some e) t b spot h = content-there m spot (array (pop_entry t)) h

  last_removed_in-there : (o : Option (Listing ℕ)) (b : ℕ) (spot : Spot) → AllThere m (last_removed_in o m b spot)
  last_removed_in-there None b spot h = refl
  last_removed_in-there (Some t) b spot h = last_removed-there (last_of t.entries) t b spot h

  last_removed_at-there : (o : Option Spot) (b : ℕ) → AllThere m (last_removed_at o m b)
  last_removed_at-there None b h = refl
  last_removed_at-there (Some spot) b h = last_removed_in-there (elements_of (content_at m spot)) b spot h

  unset_last-there : (b : ℕ) (p : Place) → AllThere m (unset_last m b p)
  unfolding unset_last
  unset_last-there b p = last_removed_at-there (find_place m p) b

  forget-there : (b k : ℕ) → AllThere m (forget m b k)
  unfolding forget
  forget-there b k = variable_removed-there (variable_store (scope_of m b).variables k) b b k

  shed-there : (b : ℕ) → AllThere m (shed m b).0
  unfolding shed
  shed-there b = of_list (scope_of m b).variables
    where
      of_list : (vs : List Variable) → AllThere m (shed_first vs m b).0
      of_list [] h = refl
      of_list (v ∷ vs) h = refl

  -- what touches no object

  settled-there : (b : ℕ) (i : Item) → AllThere m (settled i m b)
  settled-there b (value x) h = refl
  settled-there b (link s) h = refl

  settle-there : (b : ℕ) → AllThere m (settle m b)
  unfolding settle
  settle-there b = settled-there b (top m b)

  copied-there : (b : ℕ) (o : Option Spot) → AllThere m (copy_of_spot o m b).0
  copied-there b None h = refl
  copied-there b (Some spot) h = refl

  copy-there : (b : ℕ) (p : Place) → AllThere m (copy m b p).0
  unfolding copy
  copy-there b p = copied-there b (find_place m p)

  blocks-there : (b room d n k : ℕ) (v : Scalar) → (AllThere m (enter m b room) × AllThere m (leave m b)) × ((AllThere m (push m b v) × AllThere m (push_array m b)) × ((AllThere m (push_object m b k) × AllThere m (pass m b d)) × ((AllThere m (turn m b n) × AllThere m (reserve m b n)) × AllThere m (drop_top m b))))
  unfolding enter leave push push_array push_object pass turn reserve drop_top
  blocks-there b room d n k v = ((λ h. refl, λ h. refl), ((λ h. refl, λ h. refl), ((λ h. refl, λ h. refl), ((λ h. refl, λ h. refl), λ h. refl))))

  -- objects

  finish-there : (k : ℕ) → IsObject m k → AllThere m (finish m k)
  unfolding finish
  finish-there k live = object-there m k (record (object_of m k) { finishing = true }) live

  spare-there : (k : ℕ) → IsObject m k → AllThere m (spare m k)
  unfolding spare
  spare-there k live = object-there m k (record (object_of m k) { spent = true }) live

  attach-there : (k : ℕ) (f : Option ℕ) → IsObject m k → AllThere m (attach m k f)
  unfolding attach
  attach-there k f live = object-there m k (record (object_of m k) { frame = f }) live

  made_object-there : (full : Bool) (b class : ℕ) (finishing : Bool) (h : ℕ) → is_some (numbered (object_made full m b class finishing).0.objects h) ≡ there_if_made (object_made full m b class finishing).1 h (is_some (numbered m.objects h))
  made_object-there true b class finishing h = refl
  made_object-there false b class finishing h = there_changed m.objects m.next_object _ h

  make_object-there : (b class : ℕ) (finishing : Bool) (h : ℕ) → is_some (numbered (make_object m b class finishing).0.objects h) ≡ there_if_made (make_object m b class finishing).1 h (is_some (numbered m.objects h))
  unfolding make_object
  make_object-there b class finishing h = made_object-there (nat_le OBJECT_LIMIT m.next_object) b class finishing h

  cloned-there : (full : Bool) (b k h : ℕ) → is_some (numbered (clone_made full m b k).0.objects h) ≡ there_if_made (clone_made full m b k).1 h (is_some (numbered m.objects h))
  cloned-there true b k h = refl
  cloned-there false b k h = there_changed m.objects m.next_object _ h

  clone_of-there : (i : Item) (b h : ℕ) → is_some (numbered (clone_of_top i m b).0.objects h) ≡ there_if_made (clone_of_top i m b).1 h (is_some (numbered m.objects h))
  clone_of-there (link s) b h = refl
  clone_of-there (value null) b h = refl
  clone_of-there (value (truth x)) b h = refl
  clone_of-there (value (int i)) b h = refl
  clone_of-there (value (text bytes)) b h = refl
  clone_of-there (value (array t)) b h = refl
  clone_of-there (value (object k)) b h = cloned-there (nat_le OBJECT_LIMIT m.next_object) b k h

  clone_object-there : (b h : ℕ) → is_some (numbered (clone_object m b).0.objects h) ≡ there_if_made (clone_object m b).1 h (is_some (numbered m.objects h))
  unfolding clone_object
  clone_object-there b h = clone_of-there (top m b) b h

pub objects_after : (o : Operation) (m : Mem) → IsNoRelease o → Can o m → (h : ℕ) → is_some (numbered (effect o m).objects h) ≡ is_object_after o m h
objects_after (op.enter b room) m no_release can h = (blocks-there m b room 0 0 0 scalar.Null).0.0 h
objects_after (op.leave b) m no_release can h = (blocks-there m b 0 0 0 0 scalar.Null).0.1 h
objects_after (op.push b v) m no_release can h = (blocks-there m b 0 0 0 0 v).1.0.0 h
objects_after (op.push_array b) m no_release can h = (blocks-there m b 0 0 0 0 scalar.Null).1.0.1 h
objects_after (op.push_object b k) m no_release can h = (blocks-there m b 0 0 0 k scalar.Null).1.1.0.0 h
objects_after (op.copy b p) m no_release can h = copy-there m b p h
objects_after (op.assign b p) m no_release can h = assign-there m b p can.place.0 h
objects_after (op.link b p) m no_release can h = make_link-there m b p can.place.0 h
objects_after (op.bind b p) m no_release can h = bind-there m b p can.place.0 h
objects_after (op.settle b) m no_release can h = settle-there m b h
objects_after (op.pass b d) m no_release can h = (blocks-there m b 0 d 0 0 scalar.Null).1.1.0.1 h
objects_after (op.turn b n) m no_release can h = (blocks-there m b 0 0 n 0 scalar.Null).1.1.1.0.0 h
objects_after (op.reserve b n) m no_release can h = (blocks-there m b 0 0 n 0 scalar.Null).1.1.1.0.1 h
objects_after (op.append b p) m no_release can h = append-there m b p can h
objects_after (op.unset b p) m no_release can h = unset-there m b p can.place.0 h
objects_after (op.unset_last b p) m no_release can h = unset_last-there m b p h
objects_after (op.forget b k) m no_release can h = forget-there m b k h
objects_after (op.shed b) m no_release can h = shed-there m b h
objects_after (op.drop_top b) m no_release can h = (blocks-there m b 0 0 0 0 scalar.Null).1.1.1.1 h
objects_after (op.fall b) m no_release can h = absurd no_release
objects_after (op.make_object b class finishing) m no_release can h = make_object-there m b class finishing h
objects_after (op.clone_object b) m no_release can h = clone_object-there m b h
objects_after (op.finish k) m no_release can h = finish-there m k can h
objects_after (op.spare k) m no_release can h = spare-there m k can h
objects_after (op.attach k f) m no_release can h = attach-there m k f can.object h

-- a release takes objects away alone

abbrev Fewer : Mem → Mem → Type 0
Fewer m n = (h : ℕ) → IsObject n h → IsObject m h

abbrev TurnFewer : Mem → Turn → Type 0
TurnFewer m (goes_on n) = Fewer m n
TurnFewer m (stops n answer) = Fewer m n

changed-fewer : (m : Mem) (k : ℕ) (o : Option Object) → (IsSome o → IsObject m k) → (h : ℕ) → IsSome (numbered (with_numbered m.objects k o) h) → IsObject m h
changed-fewer m k o live h e = elim (eqb_tells h k) [
  | inl d ↦ ap (λ j. is_some (numbered m.objects j)) d.1 ∙ live (sym (ap is_some (numbered-with_same m.objects k o)) ∙ sym (ap (λ j. is_some (numbered (with_numbered m.objects k o) j)) d.1) ∙ e)
  | inr d ↦ sym (ap is_some (numbered-with_other m.objects k h o d.1)) ∙ e
]

module _ (m : Mem) (b : ℕ) (rest : List Item) where
  link-fewer : (held : Bool) (s : ℕ) → Fewer m (link_dropped held m b rest s)
  link-fewer true s h e = e
  link-fewer false s h e = e

  removed-fewer : (k : ℕ) (f : Option ℕ) → (object_of m k).frame ≡ f → TurnFewer m (object_removed f (object_of m k) m b rest k)
  removed-fewer k (Some f) e = changed-fewer m k (Some (record (object_of m k) { frame = None })) (λ d. framed_there m k f e)
  removed-fewer k None e = changed-fewer m k None (λ d. absurd (false≢true d))

  released-fewer : (k : ℕ) (due : Bool) → ((object_of m k).finishing && not (object_of m k).spent) ≡ due → TurnFewer m (object_released due (object_of m k) m b rest k)
  released-fewer k true e = changed-fewer m k (Some (record (object_of m k) { spent = true })) (λ d. due_there m k e)
  released-fewer k false e = removed-fewer k (object_of m k).frame refl

  handle-fewer : (k : ℕ) (held : Bool) → TurnFewer m (handle_dropped held (object_of m k) m b rest k)
  handle-fewer k true = λ h e. e
  handle-fewer k false = released-fewer k ((object_of m k).finishing && not (object_of m k).spent) refl

  item-fewer : (i : Item) → TurnFewer m (item_released i m b rest)
  item-fewer (link s) = link-fewer (is_held (with_falling m b rest) s) s
  item-fewer (value null) = λ h e. e
  item-fewer (value (truth x)) = λ h e. e
  item-fewer (value (int i)) = λ h e. e
  item-fewer (value (text bytes)) = λ h e. e
  item-fewer (value (array t)) = λ h e. e
  item-fewer (value (object k)) = handle-fewer k (is_object_held (with_falling m b rest) k)

first-fewer : (m : Mem) (b : ℕ) (is : List Item) → TurnFewer m (first_released is m b)
first-fewer m b [] = λ h e. e
first-fewer m b (i ∷ rest) = item-fewer m b rest i

fall_within-fewer : (k : ℕ) (m : Mem) (b : ℕ) → Fewer m (fall_within k m b).0
fall_within-fewer zero m b = λ h e. e
fall_within-fewer (suc k) m b = after (turn_of_release m b) (first-fewer m b (scope_of m b).falling) (λ n. fall_within-fewer k n b)
  where
    after : (t : Turn) → TurnFewer m t → ((n : Mem) → Fewer n (fall_within k n b).0) → Fewer m (fall_after t (λ n. fall_within k n b)).0
    after (goes_on n) w go_on h e = w h (go_on n h e)
    after (stops n answer) w go_on h e = w h e

pub fall_fewer : (m : Mem) (b h : ℕ) → IsObject (fall m b).0 h → IsObject m h
unfolding fall
fall_fewer m b h e = fall_within-fewer (suc (turns m b)) m b h e
