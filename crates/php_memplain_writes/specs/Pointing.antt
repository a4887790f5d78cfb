-- The first of a list that has a name, and objects of which a property points to a store.
use Rattle.std.specs.Prelude.{◌≡◌, ℕ, zero, suc, nat_eq, Bool, true, false, List, [], ◌∷◌, Option, Some, unwrap_or}
use Rattle.php_memdef.specs.declared.place.PropName.{PropName}
use Rattle.php_memdef.specs.Numbered.{Numbered, numbered, with_numbered}
use Rattle.php_memdef.specs.Contents.{Object, no_object}
use Rattle.php_memdef.specs.Places.{prop_name_eq, property_store}
use Rattle.php_memdef.specs.Writes.{with_property}
use Rattle.php_memplain_cells.specs.declared.block.Variable.{Variable}
use Rattle.php_memplain_cells.specs.declared.load.Property.{Property}

abbrev pub has_name : ℕ → Variable → Bool
has_name n v = nat_eq n v.name

abbrev pub has_prop_name : PropName → Property → Bool
has_prop_name n p = prop_name_eq n p.name

-- none of so many passes the test
abbrev pub NoneBefore : {X : Type 0} → (X → Bool) → List X → ℕ → Type 0
NoneBefore test [] k = Unit {0}
NoneBefore test (x ∷ xs) zero = Unit {0}
NoneBefore test (x ∷ xs) (suc k) = (test x ≡ false) × NoneBefore test xs k

-- the one at this place passes the test, and none before it
abbrev pub IsFirst : {X : Type 0} → (X → Bool) → List X → ℕ → Type 0
IsFirst test [] k = ⊥
IsFirst test (x ∷ xs) zero = test x ≡ true
IsFirst test (x ∷ xs) (suc k) = (test x ≡ false) × IsFirst test xs k

abbrev pub property_pointed : PropName → ℕ → Object → Object
property_pointed p s o = record o { properties = with_property p s o.properties }

abbrev pub property_pointed_at : PropName → ℕ → Numbered Object → ℕ → Numbered Object
property_pointed_at p s os h = with_numbered os h (Some (property_pointed p s (unwrap_or (numbered os h) no_object)))

-- the store to which a property of the object of a number points
abbrev pub property_at : PropName → Numbered Object → ℕ → Option ℕ
property_at p os h = property_store (unwrap_or (numbered os h) no_object).properties p
