-- The operations that write, bind and remove places.
use Rattle.std.specs.Prelude.{ℕ, Bool, true, false, cond, nat_eq, List, [], ◌∷◌, ◌++◌, Option, Some, None}
use Rattle.php_entries.specs.Listing.{Entry, Listing, last_of}
use Rattle.php_entries.specs.Changes.{Growth, Grown, Full as NoKeyLeft, Limit as NoEntryLeft, remove_key, pop_entry}
use Rattle.php_memdef.specs.declared.place.PropName.{PropName}
use Rattle.php_memdef.specs.declared.place.Base.{Base}
use Rattle.php_memdef.specs.declared.place.Base.TheVariants.{Var, Property as OfObject, Static, Temp}
use Rattle.php_memdef.specs.declared.place.Step.{Step}
use Rattle.php_memdef.specs.declared.place.Step.TheVariants.{At, Push}
use Rattle.php_memdef.specs.declared.place.Place.{Place}
use Rattle.php_memdef.specs.declared.answer.Wrote.{Wrote}
use Rattle.php_memdef.specs.declared.answer.Wrote.TheVariants.{Done, NotArray, Full, Limit}
use Rattle.php_memdef.specs.Numbered.{numbered, with_numbered}
use Rattle.php_memdef.specs.Contents.{Content, text, array, Item, value, link, Variable, Property, Mem, scope_of, object_of}
use Rattle.php_memdef.specs.Places.{Spot, stored, standing, with_scope, with_object, content_at, with_content, variable_store, property_store, prop_name_eq, base_spot, elements_of, elements_to_write, step_store, step_set, spot_along, find_place, Walk, reached, stopped, walk}
use Rattle.php_memdef.specs.Temporaries.{pushed, popped, top, with_top, let_fall}
use Rattle.php_memdef.specs.Views.{found}

abbrev pub moved_in : Item → Mem → ℕ → Spot → Mem
moved_in (value c) m b spot = let_fall (popped (with_content m spot c) b) b (value (content_at m spot))
moved_in (link s) m b spot = m

abbrev pub assigned : Walk → Mem → ℕ → Mem × Wrote
assigned (reached n spot) m b = (moved_in (top n b) n b spot, Done)
assigned (stopped why) m b = (m, why)

-- the top temporary moves into the place, and what the place held falls
unfoldable pub assign : Mem → ℕ → Place → Mem × Wrote
assign m b to = assigned (walk m to.base to.path) m b

-- the bytes of a text, none of anything else

abbrev pub text_found : Option Content → List ℕ
text_found (Some (text bytes)) = bytes
text_found _ = []

abbrev pub text_of_item : Item → List ℕ
text_of_item (value (text bytes)) = bytes
text_of_item _ = []

-- the text at the place with the text on top behind it is assigned to the place
unfoldable pub append : Mem → ℕ → Place → Mem
append m b to = (assign (with_top m b (value (text (text_found (found m to) ++ text_of_item (top m b))))) b to).0

abbrev pub linked : Walk → Mem → ℕ → Mem × Wrote
linked (reached n (stored s)) m b = (pushed n b (link s), Done)
linked (reached n (standing c k)) m b = (m, Done)
linked (stopped why) m b = (m, why)

-- a link to the place's store comes on top
unfoldable pub make_link : Mem → ℕ → Place → Mem × Wrote
make_link m b from = linked (walk m from.base from.path) m b

-- a place that points to another store now: the memory, and the store that it pointed to before;
-- or why it can't
pub data Bound : Type 0 where
  bound : (m : Mem) (before : Option ℕ) → Bound
  unbound : (why : Wrote) → Bound

-- all steps of a path but the last, and the last; the first one stands alone
abbrev pub steps_before : Step → List Step → List Step
steps_before step [] = []
steps_before step (next ∷ path) = step ∷ steps_before next path

abbrev pub last_step : Step → List Step → Step
last_step step [] = step
last_step step (next ∷ path) = last_step next path

abbrev pub element_bound : Growth ℕ → Option ℕ → Mem → Spot → Bound
element_bound (Grown t) before m spot = bound (with_content m spot (array t)) before
element_bound NoKeyLeft before m spot = unbound Full
element_bound NoEntryLeft before m spot = unbound Limit

abbrev pub bound_in_elements : Option (Listing ℕ) → Mem → Spot → Step → ℕ → Bound
bound_in_elements None m spot step s = unbound NotArray
bound_in_elements (Some t) m spot step s = element_bound (step_set t step s) (step_store t step) m spot

abbrev pub element_of_walk_bound : Walk → Step → ℕ → Bound
element_of_walk_bound (stopped why) step s = unbound why
element_of_walk_bound (reached m spot) step s = bound_in_elements (elements_to_write (content_at m spot)) m spot step s

abbrev pub with_variable : ℕ → ℕ → List Variable → List Variable
with_variable n s [] = record { name = n; store = s } ∷ []
with_variable n s (v ∷ vs) = cond (nat_eq n v.name) (record v { store = s } ∷ vs) (v ∷ with_variable n s vs)

abbrev pub with_property : PropName → ℕ → List Property → List Property
with_property n s [] = record { name = n; store = s } ∷ []
with_property n s (p ∷ ps) = cond (prop_name_eq n p.name) (record p { store = s } ∷ ps) (p ∷ with_property n s ps)

abbrev pub base_bound : Mem → Base → ℕ → Bound
base_bound m (Var b n) s =
    let f = scope_of m b.0 in
    bound (with_scope m b.0 (record f { variables = with_variable n.0 s f.variables })) (variable_store f.variables n.0)
base_bound m (OfObject h p) s =
    let o = object_of m h.0 in
    bound (with_object m h.0 (record o { properties = with_property p s o.properties })) (property_store o.properties p)
base_bound m (Static i) s = bound (record m { statics = with_numbered m.statics i.0 (Some s) }) (numbered m.statics i.0)
base_bound m (Temp b n) s = bound m None

abbrev pub bound_at : Mem → Base → List Step → ℕ → Bound
bound_at m base [] s = base_bound m base s
bound_at m base (step ∷ path) s = element_of_walk_bound (walk m base (steps_before step path)) (last_step step path) s

abbrev pub let_fall_if : Mem → ℕ → Option ℕ → Mem
let_fall_if m b None = m
let_fall_if m b (Some s) = let_fall m b (link s)

abbrev pub finish_bind : Bound → Mem → ℕ → Mem × Wrote
finish_bind (bound n before) m b = (let_fall_if (popped n b) b before, Done)
finish_bind (unbound why) m b = (m, why)

abbrev pub bind_top : Item → Mem → ℕ → Place → Mem × Wrote
bind_top (value c) m b to = (m, Done)
bind_top (link s) m b to = finish_bind (bound_at m to.base to.path s) m b

-- the place points to the store of the link on top, which goes; the store that it pointed to before
-- falls as a link
unfoldable pub bind : Mem → ℕ → Place → Mem × Wrote
bind m b to = bind_top (top m b) m b to

-- removals

abbrev pub without_variable : ℕ → List Variable → List Variable
without_variable n [] = []
without_variable n (v ∷ vs) = cond (nat_eq n v.name) vs (v ∷ without_variable n vs)

abbrev pub without_property : PropName → List Property → List Property
without_property n [] = []
without_property n (p ∷ ps) = cond (prop_name_eq n p.name) ps (p ∷ without_property n ps)

abbrev pub variable_removed : Option ℕ → Mem → ℕ → ℕ → ℕ → Mem
variable_removed None m b of n = m
variable_removed (Some s) m b of n =
    let f = scope_of m of in
    let_fall (with_scope m of (record f { variables = without_variable n f.variables })) b (link s)

abbrev pub property_removed : Option ℕ → Mem → ℕ → ℕ → PropName → Mem
property_removed None m b h n = m
property_removed (Some s) m b h n =
    let o = object_of m h in
    let_fall (with_object m h (record o { properties = without_property n o.properties })) b (link s)

abbrev pub element_removed : Option ℕ → Listing ℕ → Mem → ℕ → Spot → Step → Mem
element_removed (Some s) t m b spot (At k) = let_fall (with_content m spot (array (remove_key t k))) b (link s)
element_removed (Some s) t m b spot Push = m
element_removed None t m b spot step = m

abbrev pub removed_in_elements : Option (Listing ℕ) → Mem → ℕ → Spot → Step → Mem
removed_in_elements None m b spot step = m
removed_in_elements (Some t) m b spot step = element_removed (step_store t step) t m b spot step

abbrev pub removed_at_spot : Option Spot → Mem → ℕ → Step → Mem
removed_at_spot None m b step = m
removed_at_spot (Some spot) m b step = removed_in_elements (elements_of (content_at m spot)) m b spot step

abbrev pub base_removed : Mem → ℕ → Base → Mem
base_removed m b (Var of n) = variable_removed (variable_store (scope_of m of.0).variables n.0) m b of.0 n.0
base_removed m b (OfObject h p) = property_removed (property_store (object_of m h.0).properties p) m b h.0 p
base_removed m b (Static i) = m
base_removed m b (Temp of n) = m

abbrev pub removed_at : Mem → ℕ → Base → List Step → Mem
removed_at m b base [] = base_removed m b base
removed_at m b base (step ∷ path) = removed_at_spot (spot_along m (base_spot m base) (steps_before step path)) m b (last_step step path)

-- the variable, property or element goes where it is found, and its store falls as a link
unfoldable pub unset : Mem → ℕ → Place → Mem
unset m b at = removed_at m b at.base at.path

abbrev pub last_removed : Option (Entry ℕ) → Listing ℕ → Mem → ℕ → Spot → Mem
last_removed None t m b spot = m
last_removed (Some e) t m b spot = let_fall (with_content m spot (array (pop_entry t))) b (link e.value)

abbrev pub last_removed_in : Option (Listing ℕ) → Mem → ℕ → Spot → Mem
last_removed_in None m b spot = m
last_removed_in (Some t) m b spot = last_removed (last_of t.entries) t m b spot

abbrev pub last_removed_at : Option Spot → Mem → ℕ → Mem
last_removed_at None m b = m
last_removed_at (Some spot) m b = last_removed_in (elements_of (content_at m spot)) m b spot

-- the last element of the array at a place goes, and its store falls as a link; the next key gives
-- back the key that the element had
unfoldable pub unset_last : Mem → ℕ → Place → Mem
unset_last m b at = last_removed_at (find_place m at) m b

-- a variable of the block goes, where it is there
unfoldable pub forget : Mem → ℕ → ℕ → Mem
forget m b n = variable_removed (variable_store (scope_of m b).variables n) m b b n

abbrev pub shed_first : List Variable → Mem → ℕ → Mem × Bool
shed_first [] m b = (m, false)
shed_first (v ∷ vs) m b = (let_fall (with_scope m b (record (scope_of m b) { variables = vs })) b (link v.store), true)

-- the oldest variable of the block goes, where there is one
unfoldable pub shed : Mem → ℕ → Mem × Bool
shed m b = shed_first (scope_of m b).variables m b
