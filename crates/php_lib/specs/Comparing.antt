-- Places on the way of a comparison, and what may be compared.
use Rattle.std.specs.Prelude.{ℕ, nat_eq, Bool, false, not, [], ◌∷◌, ◌++◌, Option, Some, None, Ok}
use Rattle.php_value.specs.declared.key.Key.{Key}
use Rattle.php_value.specs.declared.ordering.Order.TheVariants.{Apart}
use Rattle.php_memdef.specs.declared.names.Obj.{Obj}
use Rattle.php_memdef.specs.declared.place.PropName.{PropName}
use Rattle.php_memdef.specs.declared.place.Base.TheVariants.{Property as OfObject}
use Rattle.php_memdef.specs.declared.place.Step.TheVariants.{At}
use Rattle.php_memdef.specs.declared.place.Place.{Place}
use Rattle.php_memdef.specs.Contents.{Content, array, object, Mem}
use Rattle.php_memdef.specs.Sound.{IsSound}
use Rattle.php_memdef.specs.Conditions.{IsObject, IsPlace}
use Rattle.php_entries.specs.Listing.{count_of}
use Rattle.php_compare.specs.Outcomes.{Compared}
use Rattle.php_compare.specs.Places.{or_null}

-- the place of the element under a key
abbrev pub under : Place → Key → Place
under p k = record { base = p.base; path = p.path ++ At k ∷ [] }

abbrev pub property_of : Obj → PropName → Place
property_of h name = record { base = OfObject h name; path = [] }

-- two places may be looked at, and so may all that stands in them
pub record CanCompare (p q : Place) (m : Mem) : Type 0 where
  pub sound : IsSound m
  pub left : IsPlace m p
  pub right : IsPlace m q

pub record CanCompareObjects (g h : ℕ) (m : Mem) : Type 0 where
  pub sound : IsSound m
  pub left : IsObject m g
  pub right : IsObject m h

-- a part with the part of its name on the right, where there is one
abbrev pub order_of_found : (Content → Content → Compared) → Option Content → Option Content → Compared
order_of_found inner c None = Ok Apart
order_of_found inner c (Some d) = inner (or_null c) d

-- two arrays of one count, or two objects: their parts are looked at
abbrev pub goes_deeper : Content → Content → Bool
goes_deeper (array s) (array t) = nat_eq (count_of s) (count_of t)
goes_deeper (object g) (object h) = not (nat_eq g h)
goes_deeper c d = false

-- two arrays of one count: their entries are looked at
abbrev pub has_entries_to_match : Content → Content → Bool
has_entries_to_match (array s) (array t) = nat_eq (count_of s) (count_of t)
has_entries_to_match c d = false
