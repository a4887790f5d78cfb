-- The first of a list that has a name, and objects without a property.
use Rattle.std.specs.Prelude.{◌≡◌, ℕ, zero, suc, nat_eq, Bool, true, false, List, [], ◌∷◌, Some, unwrap_or}
use Rattle.php_memdef.specs.declared.place.PropName.{PropName}
use Rattle.php_memdef.specs.Numbered.{Numbered, numbered, with_numbered}
use Rattle.php_memdef.specs.Contents.{Object, no_object}
use Rattle.php_memdef.specs.Places.{prop_name_eq}
use Rattle.php_memdef.specs.Writes.{without_property}
use Rattle.php_memplain_cells.specs.declared.block.Variable.{Variable}
use Rattle.php_memplain_cells.specs.declared.load.Property.{Property}

abbrev pub has_name : ℕ → Variable → Bool
has_name n v = nat_eq n v.name

abbrev pub has_prop_name : PropName → Property → Bool
has_prop_name n p = prop_name_eq n p.name

-- none of so many passes the test
abbrev pub NoneBefore : {X : Type 0} → (X → Bool) → List X → ℕ → Type 0
NoneBefore test [] k = Unit {0}
NoneBefore test (x ∷ xs) zero = Unit {0}
NoneBefore test (x ∷ xs) (suc k) = (test x ≡ false) × NoneBefore test xs k

-- the one at this place passes the test, and none before it
abbrev pub IsFirst : {X : Type 0} → (X → Bool) → List X → ℕ → Type 0
IsFirst test [] k = ⊥
IsFirst test (x ∷ xs) zero = test x ≡ true
IsFirst test (x ∷ xs) (suc k) = (test x ≡ false) × IsFirst test xs k

abbrev pub object_in : Numbered Object → ℕ → Object
object_in os h = unwrap_or (numbered os h) no_object

abbrev pub object_without : PropName → Object → Object
object_without n o = record o { properties = without_property n o.properties }

-- the object of a number lost a property
abbrev pub without_property_at : PropName → Numbered Object → ℕ → Numbered Object
without_property_at n os h = with_numbered os h (Some (object_without n (object_in os h)))
