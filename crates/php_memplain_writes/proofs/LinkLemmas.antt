-- A place that a link can lead to is in a store.
use Rattle.std.proofs.Common.{◌≡◌, ℕ, List, [], ◌∷◌, sym, subst}
use Rattle.std.specs.Prelude.{Option, Some, None}
use Rattle.php_entries.specs.Listing.{Listing}
use Rattle.php_entries.specs.Changes.{Growth, Grown, Full as NoKeyLeft, Limit as NoEntryLeft}
use Rattle.php_memdef.specs.declared.place.PropName.{PropName}
use Rattle.php_memdef.specs.declared.place.Base.{Base}
use Rattle.php_memdef.specs.declared.place.Base.TheVariants.{Var, Property as OfObject, Static, Temp}
use Rattle.php_memdef.specs.declared.place.Place.{Place}
use Rattle.php_memdef.specs.declared.place.Step.{Step}
use Rattle.php_memdef.specs.Numbered.{numbered}
use Rattle.php_memdef.specs.Contents.{Mem, scope_of, object_of}
use Rattle.php_memdef.specs.Places.{Spot, stored, standing, content_at, variable_store, property_store, temp_spot, elements_to_write, step_store, step_set, new_store_number, Walk, reached, stopped, element_made, element_to_write, step_in_elements, walk_step, walk_along, variable_to_write, property_to_write, static_to_write, temp_to_write, base_to_write, walk}
use Rattle.php_memdef.specs.Conditions.{IsLinkable}

abbrev EndsStored : Walk → Type 0
EndsStored (reached m (stored s)) = Unit {0}
EndsStored (reached m (standing b k)) = ⊥
EndsStored (stopped why) = Unit {0}

made_stored : (g : Growth ℕ) (m : Mem) (spot : Spot) → EndsStored (element_made g m spot)
made_stored (Grown t) m spot = tt
made_stored NoKeyLeft m spot = tt
made_stored NoEntryLeft m spot = tt

written_stored : (o : Option ℕ) (t : Listing ℕ) (m : Mem) (spot : Spot) (step : Step) → EndsStored (element_to_write o t m spot step)
written_stored (Some s) t m spot step = tt
written_stored None t m spot step = made_stored (step_set t step (new_store_number m)) m spot

elements_stored : (o : Option (Listing ℕ)) (m : Mem) (spot : Spot) (step : Step) → EndsStored (step_in_elements o m spot step)
elements_stored None m spot step = tt
elements_stored (Some t) m spot step = written_stored (step_store t step) t m spot step

step_stored : (w : Walk) (step : Step) → EndsStored (walk_step w step)
step_stored (stopped why) step = tt
step_stored (reached m spot) step = elements_stored (elements_to_write (content_at m spot)) m spot step

along_stored : (path : List Step) (w : Walk) → EndsStored w → EndsStored (walk_along w path)
along_stored [] w h = h
along_stored (step ∷ path) w h = along_stored path (walk_step w step) (step_stored w step)

variable_stored : (o : Option ℕ) (m : Mem) (b n : ℕ) → EndsStored (variable_to_write o m b n)
variable_stored (Some s) m b n = tt
variable_stored None m b n = tt

property_stored : (o : Option ℕ) (m : Mem) (h : ℕ) (p : PropName) → EndsStored (property_to_write o m h p)
property_stored (Some s) m h p = tt
property_stored None m h p = tt

static_stored : (o : Option ℕ) (m : Mem) (i : ℕ) → EndsStored (static_to_write o m i)
static_stored (Some s) m i = tt
static_stored None m i = tt

base_stored : (m : Mem) (base : Base) → IsLinkable m base [] → EndsStored (base_to_write m base)
base_stored m (Var b n) h = variable_stored (variable_store (scope_of m b.0).variables n.0) m b.0 n.0
base_stored m (OfObject k p) h = property_stored (property_store (object_of m k.0).properties p) m k.0 p
base_stored m (Static i) h = static_stored (numbered m.statics i.0) m i.0
base_stored m (Temp b n) h = subst (λ i. EndsStored (temp_to_write (temp_spot b.0 n i) m b.0 n)) (sym h.1) tt

walk_stored : (m : Mem) (base : Base) (path : List Step) → IsLinkable m base path → EndsStored (walk m base path)
unfolding walk
walk_stored m base [] h = base_stored m base h
walk_stored m base (step ∷ path) h = along_stored path (walk_step (base_to_write m base) step) (step_stored (base_to_write m base) step)

pub no_standing : (m : Mem) (p : Place) → IsLinkable m p.base p.path → (n : Mem) (b k : ℕ) → walk m p.base p.path ≡ reached n (standing b k) → ⊥
no_standing m p h n b k e = subst EndsStored e (walk_stored m p.base p.path h)
