-- The operations on objects.
use Rattle.std.specs.Prelude.{ℕ, zero, suc, ◌+◌, Bool, true, false, ◌&&◌, not, nat_le, cond, List, [], ◌∷◌, Option, Some, None}
use Rattle.php_memdef.specs.declared.place.PropName.{PropName}
use Rattle.php_memdef.specs.Numbered.{Numbered, with_numbered}
use Rattle.php_memdef.specs.Contents.{null, truth, int, text, array, object, Item, value, link, Property, Object, Mem, object_of}
use Rattle.php_memdef.specs.Copies.{Copy, copier_of, copied_properties}
use Rattle.php_memdef.specs.Places.{with_object}
use Rattle.php_memdef.specs.Temporaries.{pushed, popped, top, let_fall}

-- the object number with which no further object can be made
abbrev pub OBJECT_LIMIT : ℕ
OBJECT_LIMIT = 18446744073709551615

-- the memory with one more object
abbrev pub with_new_object : Mem → Object → Mem
with_new_object m o = record m { objects = with_numbered m.objects m.next_object (Some o); next_object = m.next_object + 1 }

abbrev pub new_object : ℕ → Bool → Object
new_object class finishing = record { class = class; properties = []; finishing = finishing; spent = false; frame = None }

abbrev pub object_made : Bool → Mem → ℕ → ℕ → Bool → Mem × Option ℕ
object_made true m b class finishing = (m, None)
object_made false m b class finishing = (pushed (with_new_object m (new_object class finishing)) b (value (object m.next_object)), Some m.next_object)

-- a new object without properties, whose handle comes on top; None where no number is left
unfoldable pub make_object : Mem → ℕ → ℕ → Bool → Mem × Option ℕ
make_object m b class finishing = object_made (nat_le OBJECT_LIMIT m.next_object) m b class finishing

abbrev pub with_clone : Mem → ℕ → Copy (List Property) → Mem
with_clone m h copied = with_new_object (record m { stores = copied.stores }) (record (object_of m h) { properties = copied.made; spent = false; frame = None })

abbrev pub clone_made : Bool → Mem → ℕ → ℕ → Mem × Option ℕ
clone_made true m b h = (m, None)
clone_made false m b h =
    let copied = copied_properties (copier_of m) m m.stores (object_of m h).properties in
    (let_fall (pushed (popped (with_clone m h copied) b) b (value (object m.next_object))) b (value (object h)), Some m.next_object)

abbrev pub clone_of_top : Item → Mem → ℕ → Mem × Option ℕ
clone_of_top (link s) m b = (m, None)
clone_of_top (value null) m b = (m, None)
clone_of_top (value (truth x)) m b = (m, None)
clone_of_top (value (int i)) m b = (m, None)
clone_of_top (value (text bytes)) m b = (m, None)
clone_of_top (value (array t)) m b = (m, None)
clone_of_top (value (object h)) m b = clone_made (nat_le OBJECT_LIMIT m.next_object) m b h

-- the handle on top becomes that of a clone, and the handle that stood there falls; the clone is
-- finishing where its original is, isn't spent and has no frame; None where no number is left
unfoldable pub clone_object : Mem → ℕ → Mem × Option ℕ
clone_object m b = clone_of_top (top m b) m b

-- the object has a destructor that is to be run
unfoldable pub finish : Mem → ℕ → Mem
finish m h = with_object m h (record (object_of m h) { finishing = true })

-- its destructor counts as run
unfoldable pub spare : Mem → ℕ → Mem
spare m h = with_object m h (record (object_of m h) { spent = true })

-- a generator's frame waits in it, or none
unfoldable pub attach : Mem → ℕ → Option ℕ → Mem
attach m h frame = with_object m h (record (object_of m h) { frame = frame })

-- the object's destructor is to be run, and wasn't
abbrev pub is_due : Option Object → Bool
is_due None = false
is_due (Some o) = o.finishing && not o.spent

abbrev pub first_due : Numbered Object → ℕ → Option ℕ
first_due [] from = None
first_due (o ∷ os) from = cond (is_due o) (Some from) (first_due os (suc from))

-- the oldest object whose destructor is to be run
abbrev pub eldest : Mem → Option ℕ
eldest m = first_due m.objects 0

abbrev pub nth_property : List Property → ℕ → Option PropName
nth_property [] n = None
nth_property (p ∷ ps) zero = Some p.name
nth_property (p ∷ ps) (suc n) = nth_property ps n

-- the name of an object's n-th property
abbrev pub property_name : Mem → ℕ → ℕ → Option PropName
property_name m h n = nth_property (object_of m h).properties n

abbrev pub class_of : Mem → ℕ → ℕ
class_of m h = (object_of m h).class
