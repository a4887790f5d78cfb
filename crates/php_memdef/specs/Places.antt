-- Places: where they are, and how a write makes what is missing on its way.
use Rattle.std.specs.Prelude.{ℕ, zero, suc, Bool, true, false, ◌&&◌, nat_eq, cond, List, [], ◌∷◌, ◌++◌, length, Option, Some, None}
use Rattle.std.specs.Cmp.Lexicographic.{pointwise}
use Rattle.php_entries.specs.Listing.{Entry, Listing, no_entries, entry_at}
use Rattle.php_entries.specs.Changes.{Growth, Grown, Full as NoKeyLeft, Limit as NoEntryLeft, set_value, append_value}
use Rattle.php_memdef.specs.declared.place.Seen.{Seen}
use Rattle.php_memdef.specs.declared.place.Seen.TheVariants.{Public, Protected, Private}
use Rattle.php_memdef.specs.declared.place.PropName.{PropName}
use Rattle.php_memdef.specs.declared.place.Base.{Base}
use Rattle.php_memdef.specs.declared.place.Base.TheVariants.{Var, Property as OfObject, Static, Temp}
use Rattle.php_memdef.specs.declared.place.Step.{Step}
use Rattle.php_memdef.specs.declared.place.Step.TheVariants.{At, Push}
use Rattle.php_memdef.specs.declared.place.Place.{Place}
use Rattle.php_memdef.specs.declared.answer.Wrote.{Wrote}
use Rattle.php_memdef.specs.declared.answer.Wrote.TheVariants.{NotArray, Full, Limit}
use Rattle.php_memdef.specs.Numbered.{numbered, with_numbered, with_next}
use Rattle.php_memdef.specs.Contents.{Content, null, truth, int, text, array, object, Item, value, link, Variable, Scope, Property, Object, Mem, content_of, scope_of, object_of}

-- where a place is: in a store, or in a temporary that holds a content (block, depth from the top)
pub data Spot : Type 0 where
  stored : (store : ℕ) → Spot
  standing : (block depth : ℕ) → Spot

abbrev pub nth_item : List Item → ℕ → Option Item
nth_item [] n = None
nth_item (i ∷ is) zero = Some i
nth_item (i ∷ is) (suc n) = nth_item is n

abbrev pub with_nth_item : List Item → ℕ → Item → List Item
with_nth_item [] n j = []
with_nth_item (i ∷ is) zero j = j ∷ is
with_nth_item (i ∷ is) (suc n) j = i ∷ with_nth_item is n j

abbrev pub with_scope : Mem → ℕ → Scope → Mem
with_scope m b f = record m { blocks = with_numbered m.blocks b (Some f) }

abbrev pub with_object : Mem → ℕ → Object → Mem
with_object m h o = record m { objects = with_numbered m.objects h (Some o) }

-- the memory with a content in the next store
abbrev pub with_new_store : Mem → Content → Mem
with_new_store m c = record m { stores = with_next m.stores c }

abbrev pub new_store_number : Mem → ℕ
new_store_number m = length m.stores

abbrev pub content_if : Option Item → Content
content_if None = null
content_if (Some (value c)) = c
content_if (Some (link s)) = null

abbrev pub content_at : Mem → Spot → Content
content_at m (stored s) = content_of m s
content_at m (standing b n) = content_if (nth_item (scope_of m b).temps n)

-- the memory with another content at a spot
abbrev pub with_content : Mem → Spot → Content → Mem
with_content m (stored s) c = record m { stores = with_numbered m.stores s (Some c) }
with_content m (standing b n) c =
    let f = scope_of m b in
    with_scope m b (record f { temps = with_nth_item f.temps n (value c) })

-- the store of a variable, of a property

abbrev pub variable_store : List Variable → ℕ → Option ℕ
variable_store [] n = None
variable_store (v ∷ vs) n = cond (nat_eq n v.name) (Some v.store) (variable_store vs n)

abbrev pub seen_eq : Seen → Seen → Bool
seen_eq Public Public = true
seen_eq Protected Protected = true
seen_eq (Private a) (Private b) = nat_eq a b
seen_eq _ _ = false

-- two properties' names are one: the same bytes, and seen from the same classes
abbrev pub prop_name_eq : PropName → PropName → Bool
prop_name_eq p q = pointwise nat_eq p.name q.name && seen_eq p.seen q.seen

abbrev pub property_store : List Property → PropName → Option ℕ
property_store [] n = None
property_store (p ∷ ps) n = cond (prop_name_eq n p.name) (Some p.store) (property_store ps n)

-- a spot, where there is a store
abbrev pub stored_if : Option ℕ → Option Spot
stored_if None = None
stored_if (Some s) = Some (stored s)

abbrev pub temp_spot : ℕ → ℕ → Option Item → Option Spot
temp_spot b n None = None
temp_spot b n (Some (value c)) = Some (standing b n)
temp_spot b n (Some (link s)) = Some (stored s)

-- where a base is
abbrev pub base_spot : Mem → Base → Option Spot
base_spot m (Var b n) = stored_if (variable_store (scope_of m b.0).variables n.0)
base_spot m (OfObject h p) = stored_if (property_store (object_of m h.0).properties p)
base_spot m (Static i) = stored_if (numbered m.statics i.0)
base_spot m (Temp b n) = temp_spot b.0 n (nth_item (scope_of m b.0).temps n)

-- the elements, where a content is an array
abbrev pub elements_of : Content → Option (Listing ℕ)
elements_of null = None
elements_of (truth b) = None
elements_of (int i) = None
elements_of (text bytes) = None
elements_of (array t) = Some t
elements_of (object h) = None

abbrev pub entry_store : Option (Entry ℕ) → Option ℕ
entry_store None = None
entry_store (Some e) = Some e.value

-- the store that a step leads to in an array
abbrev pub step_store : Listing ℕ → Step → Option ℕ
step_store t (At k) = entry_store (entry_at t k)
step_store t Push = None

abbrev pub step_store_if : Option (Listing ℕ) → Step → Option ℕ
step_store_if None step = None
step_store_if (Some t) step = step_store t step

-- where one step leads to
abbrev pub next_spot : Mem → Option Spot → Step → Option Spot
next_spot m None step = None
next_spot m (Some spot) step = stored_if (step_store_if (elements_of (content_at m spot)) step)

abbrev pub spot_along : Mem → Option Spot → List Step → Option Spot
spot_along m spot [] = spot
spot_along m spot (step ∷ path) = spot_along m (next_spot m spot step) path

-- where a place is: it is missing where its base is, where a step meets no array, where the key
-- isn't there, and where a step appends
unfoldable pub find_place : Mem → Place → Option Spot
find_place m p = spot_along m (base_spot m p.base) p.path

-- the way of a write: the memory with all that was missing on it, and where it leads to; or why it
-- stops
pub data Walk : Type 0 where
  reached : (m : Mem) (spot : Spot) → Walk
  stopped : (why : Wrote) → Walk

-- the elements that a write goes on in: only null becomes an array
abbrev pub elements_to_write : Content → Option (Listing ℕ)
elements_to_write null = Some no_entries
elements_to_write (truth b) = None
elements_to_write (int i) = None
elements_to_write (text bytes) = None
elements_to_write (array t) = Some t
elements_to_write (object h) = None

-- the array in which a step's element points to this store
abbrev pub step_set : Listing ℕ → Step → ℕ → Growth ℕ
step_set t (At k) s = set_value t k s
step_set t Push s = append_value t s

-- a new element with null, in the next store
abbrev pub element_made : Growth ℕ → Mem → Spot → Walk
element_made (Grown t) m spot = reached (with_content (with_new_store m null) spot (array t)) (stored (new_store_number m))
element_made NoKeyLeft m spot = stopped Full
element_made NoEntryLeft m spot = stopped Limit

abbrev pub element_to_write : Option ℕ → Listing ℕ → Mem → Spot → Step → Walk
element_to_write (Some s) t m spot step = reached m (stored s)
element_to_write None t m spot step = element_made (step_set t step (new_store_number m)) m spot

abbrev pub step_in_elements : Option (Listing ℕ) → Mem → Spot → Step → Walk
step_in_elements None m spot step = stopped NotArray
step_in_elements (Some t) m spot step = element_to_write (step_store t step) t m spot step

abbrev pub walk_step : Walk → Step → Walk
walk_step (stopped why) step = stopped why
walk_step (reached m spot) step = step_in_elements (elements_to_write (content_at m spot)) m spot step

-- the first step that fails decides
abbrev pub walk_along : Walk → List Step → Walk
walk_along w [] = w
walk_along w (step ∷ path) = walk_along (walk_step w step) path

-- a base, made with null where it is missing

abbrev pub variable_to_write : Option ℕ → Mem → ℕ → ℕ → Walk
variable_to_write (Some s) m b n = reached m (stored s)
variable_to_write None m b n =
    let f = scope_of m b in
    let s = new_store_number m in
    reached (with_scope (with_new_store m null) b (record f { variables = f.variables ++ record { name = n; store = s } ∷ [] })) (stored s)

abbrev pub property_to_write : Option ℕ → Mem → ℕ → PropName → Walk
property_to_write (Some s) m h p = reached m (stored s)
property_to_write None m h p =
    let o = object_of m h in
    let s = new_store_number m in
    reached (with_object (with_new_store m null) h (record o { properties = o.properties ++ record { name = p; store = s } ∷ [] })) (stored s)

abbrev pub static_to_write : Option ℕ → Mem → ℕ → Walk
static_to_write (Some s) m i = reached m (stored s)
static_to_write None m i =
    let s = new_store_number m in
    reached (record (with_new_store m null) { statics = with_numbered m.statics i (Some s) }) (stored s)

abbrev pub temp_to_write : Option Spot → Mem → ℕ → ℕ → Walk
temp_to_write (Some spot) m b n = reached m spot
temp_to_write None m b n = reached m (standing b n)

abbrev pub base_to_write : Mem → Base → Walk
base_to_write m (Var b n) = variable_to_write (variable_store (scope_of m b.0).variables n.0) m b.0 n.0
base_to_write m (OfObject h p) = property_to_write (property_store (object_of m h.0).properties p) m h.0 p
base_to_write m (Static i) = static_to_write (numbered m.statics i.0) m i.0
base_to_write m (Temp b n) = temp_to_write (temp_spot b.0 n (nth_item (scope_of m b.0).temps n)) m b.0 n

unfoldable pub walk : Mem → Base → List Step → Walk
walk m base path = walk_along (base_to_write m base) path
