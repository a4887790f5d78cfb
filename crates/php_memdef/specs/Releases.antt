-- Releasing what has fallen.
use Rattle.std.specs.Prelude.{ℕ, zero, suc, ◌+◌, Bool, true, false, ◌&&◌, not, nat_le, List, [], ◌∷◌, ◌++◌, length, Option, Some, None}
use Rattle.php_entries.specs.Listing.{Entry}
use Rattle.php_memdef.specs.declared.answer.Fallen.{Fallen}
use Rattle.php_memdef.specs.declared.answer.Fallen.TheVariants.{Nothing, Destroy, Frame as FrameOf}
use Rattle.php_memdef.specs.Numbered.{with_numbered, total, live_count}
use Rattle.php_memdef.specs.Contents.{null, truth, int, text, array, object, Item, value, link, Property, Object, Mem, content_of, scope_of, object_of}
use Rattle.php_memdef.specs.Holders.{stores_of_content, stores_of_object, stores_of_scope, holders, object_holders}
use Rattle.php_memdef.specs.Places.{with_object}
use Rattle.php_memdef.specs.Temporaries.{with_falling, fallen}

-- links to the stores of an array's entries, of an object's properties, in order

abbrev pub entry_links : List (Entry ℕ) → List Item
entry_links [] = []
entry_links (e ∷ es) = link e.value ∷ entry_links es

abbrev pub property_links : List Property → List Item
property_links [] = []
property_links (p ∷ ps) = link p.store ∷ property_links ps

-- one turn of a release: it goes on, or stops with an answer
pub data Turn : Type 0 where
  goes_on : (m : Mem) → Turn
  stops : (m : Mem) (answer : Fallen) → Turn

-- a link that falls: the last holder's store goes, and its content falls next
abbrev pub link_dropped : Bool → Mem → ℕ → List Item → ℕ → Mem
link_dropped true m b rest s = with_falling m b rest
link_dropped false m b rest s = with_falling (record m { stores = with_numbered m.stores s None }) b (fallen (value (content_of m s)) ++ rest)

-- an object whose last holder falls: the frame that waits in it is due, or it goes, and its
-- properties fall next
abbrev pub object_removed : Option ℕ → Object → Mem → ℕ → List Item → ℕ → Turn
object_removed (Some f) o m b rest h = stops (with_object m h (record o { frame = None })) (FrameOf (record { 0 = f }))
object_removed None o m b rest h = goes_on (with_falling (record m { objects = with_numbered m.objects h None }) b (property_links o.properties ++ rest))

-- its destructor comes first, once
abbrev pub object_released : Bool → Object → Mem → ℕ → List Item → ℕ → Turn
object_released true o m b rest h = stops (with_object m h (record o { spent = true })) (Destroy (record { 0 = h }))
object_released false o m b rest h = object_removed o.frame o m b rest h

abbrev pub handle_dropped : Bool → Object → Mem → ℕ → List Item → ℕ → Turn
handle_dropped true o m b rest h = goes_on (with_falling m b rest)
handle_dropped false o m b rest h = object_released (o.finishing && not o.spent) o m b rest h

-- whether anything but the item that falls holds the store, the object

abbrev pub is_held : Mem → ℕ → Bool
is_held m s = nat_le 1 (holders m s)

abbrev pub is_object_held : Mem → ℕ → Bool
is_object_held m h = nat_le 1 (object_holders m h)

abbrev pub item_released : Item → Mem → ℕ → List Item → Turn
item_released (link s) m b rest = goes_on (link_dropped (is_held (with_falling m b rest) s) m b rest s)
item_released (value null) m b rest = goes_on (with_falling m b rest)
item_released (value (truth x)) m b rest = goes_on (with_falling m b rest)
item_released (value (int i)) m b rest = goes_on (with_falling m b rest)
item_released (value (text bytes)) m b rest = goes_on (with_falling m b rest)
item_released (value (array t)) m b rest = goes_on (with_falling m b (entry_links t.entries ++ rest))
item_released (value (object h)) m b rest = handle_dropped (is_object_held (with_falling m b rest) h) (object_of m h) m b rest h

abbrev pub first_released : List Item → Mem → ℕ → Turn
first_released [] m b = stops m Nothing
first_released (i ∷ rest) m b = item_released i m b rest

abbrev pub turn : Mem → ℕ → Turn
turn m b = first_released (scope_of m b).falling m b

abbrev pub fall_after : Turn → (Mem → Mem × Fallen) → Mem × Fallen
fall_after (stops m answer) go_on = (m, answer)
fall_after (goes_on m) go_on = go_on m

abbrev pub fall_within : ℕ → Mem → ℕ → Mem × Fallen
fall_within zero m b = (m, Nothing)
fall_within (suc n) m b = fall_after (turn m b) (λ next. fall_within n next b)

abbrev pub values_of : List Item → ℕ
values_of [] = 0
values_of (value c ∷ is) = 1 + values_of is
values_of (link s ∷ is) = values_of is

-- how often stores are named
abbrev pub names_count : Mem → ℕ
names_count m =
    total (λ c. length (stores_of_content c)) m.stores
    + (total (λ o. length (stores_of_object o)) m.objects
    + (total (λ f. length (stores_of_scope f)) m.blocks
    + live_count m.statics))

-- enough turns: each one lowers this
abbrev pub turns : Mem → ℕ → ℕ
turns m b = names_count m + (live_count m.stores + values_of (scope_of m b).falling)

-- what has fallen is released, first item first, until nothing is left, a destructor is due or a
-- frame is to be released
unfoldable pub fall : Mem → ℕ → Mem × Fallen
fall m b = fall_within (suc (turns m b)) m b
