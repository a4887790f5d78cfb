-- How two contents of a memory compare: `==`, `<` and the like.
use Rattle.std.specs.Prelude.{ℕ, zero, suc, Bool, true, false, nat_eq, nat_lt, cond, List, [], ◌∷◌, length, Option, Some, None, Ok, Err}
use Rattle.std.specs.Ordering.{nat_cmp}
use Rattle.php_value.specs.declared.error_kind.TheConstants.ErrorKind.{NESTING_TOO_DEEP, OBJECT_AGAINST_STRING}
use Rattle.php_value.specs.declared.fault.Stopped.TheVariants.{Throws}
use Rattle.php_value.specs.declared.ordering.Order.TheVariants.{Less, Same, More, Apart}
use Rattle.php_value.specs.declared.scalar.Scalar.{Scalar}
use Rattle.php_value.specs.declared.scalar.Scalar.TheVariants as scalar
use Rattle.php_value.specs.Comparison.{order_by, order_of_bools, order_of}
use Rattle.php_value.specs.Conversion.{bool_of}
use Rattle.php_entries.specs.Listing.{Entry, Listing, value_at, count_of}
use Rattle.php_memdef.specs.Contents.{Content, null, truth, int, text, array, object, Property, Object, Mem, content_of, object_of}
use Rattle.php_memdef.specs.Places.{property_store}
use Rattle.php_compare.specs.Outcomes.{Compared, unless_same, or_ends}

-- an array is true where it has entries, and an object always is
abbrev pub truth_of : Content → Bool
truth_of null = false
truth_of (truth b) = b
truth_of (int i) = bool_of (scalar.Int i)
truth_of (text bytes) = bool_of (scalar.Str bytes)
truth_of (array t) = nat_lt 0 (count_of t)
truth_of (object h) = true

abbrev pub of_bools : Bool → Bool → Compared
of_bools a b = Ok (order_of_bools a b)

abbrev pub of_scalars : Scalar → Scalar → Compared
of_scalars a b = or_ends (order_of a b)

-- the stores that are compared with one another: each of the left ones, with the right one of its name where there is one
abbrev pub Pairs : Type 0
Pairs = List (ℕ × Option ℕ)

-- the elements, under their keys
abbrev pub element_pairs : List (Entry ℕ) → Listing ℕ → Pairs
element_pairs [] t = []
element_pairs (e ∷ es) t = (e.value, value_at t e.key) ∷ element_pairs es t

-- the properties, under their names with what they are seen from
abbrev pub property_pairs : List Property → List Property → Pairs
property_pairs [] qs = []
property_pairs (p ∷ ps) qs = (p.store, property_store qs p.name) ∷ property_pairs ps qs

-- the first pair that isn't the same decides, and one that lacks its right side is apart
abbrev pub order_of_pairs : (Content → Content → Compared) → Mem → Pairs → Compared
order_of_pairs inner m [] = Ok Same
order_of_pairs inner m ((s, None) ∷ pairs) = Ok Apart
order_of_pairs inner m ((s, Some t) ∷ pairs) = unless_same (inner (content_of m s) (content_of m t)) (order_of_pairs inner m pairs)

-- the one that has fewer is less; of as many each, the pairs decide
abbrev pub order_of_parts : (Content → Content → Compared) → Mem → ℕ → ℕ → Pairs → Compared
order_of_parts inner m n k pairs = unless_same (Ok (order_by (nat_cmp n k))) (order_of_pairs inner m pairs)

abbrev pub order_of_arrays : (Content → Content → Compared) → Mem → Listing ℕ → Listing ℕ → Compared
order_of_arrays inner m s t = order_of_parts inner m (count_of s) (count_of t) (element_pairs s.entries t)

-- objects of one class, by their properties
abbrev pub order_of_members : (Content → Content → Compared) → Mem → Object → Object → Compared
order_of_members inner m o p = cond (nat_eq o.class p.class) (order_of_parts inner m (length o.properties) (length p.properties) (property_pairs o.properties p.properties)) (Ok Apart)

-- an object is the same as itself
abbrev pub order_of_objects : (Content → Content → Compared) → Mem → ℕ → ℕ → Compared
order_of_objects inner m g h = cond (nat_eq g h) (Ok Same) (order_of_members inner m (object_of m g) (object_of m h))

-- two contents, whose parts compare as the first argument says; the first line that fits decides
abbrev pub order_by_rules : (Content → Content → Compared) → Mem → Content → Content → Compared
-- null with a text is the empty text with it; a bool or null with anything else: both as bools
order_by_rules inner m null (text t) = of_scalars scalar.Null (scalar.Str t)
order_by_rules inner m (text s) null = of_scalars (scalar.Str s) scalar.Null
order_by_rules inner m null d = of_bools false (truth_of d)
order_by_rules inner m c null = of_bools (truth_of c) false
order_by_rules inner m (truth a) d = of_bools a (truth_of d)
order_by_rules inner m c (truth b) = of_bools (truth_of c) b
-- ints by value, an int with a text as with a number, texts by value where both are ints, and by bytes else
order_by_rules inner m (int i) (int j) = of_scalars (scalar.Int i) (scalar.Int j)
order_by_rules inner m (int i) (text t) = of_scalars (scalar.Int i) (scalar.Str t)
order_by_rules inner m (text s) (int j) = of_scalars (scalar.Str s) (scalar.Int j)
order_by_rules inner m (text s) (text t) = of_scalars (scalar.Str s) (scalar.Str t)
-- arrays and objects by their parts
order_by_rules inner m (array s) (array t) = order_of_arrays inner m s t
order_by_rules inner m (object g) (object h) = order_of_objects inner m g h
-- an object isn't compared with a text, and is more than anything else; an array is more than an int or a text
order_by_rules inner m (object g) (text t) = Err (Throws OBJECT_AGAINST_STRING)
order_by_rules inner m (text s) (object h) = Err (Throws OBJECT_AGAINST_STRING)
order_by_rules inner m (object g) d = Ok More
order_by_rules inner m c (object h) = Ok Less
order_by_rules inner m (array s) d = Ok More
order_by_rules inner m c (array t) = Ok Less

-- how many levels of nesting are compared: what stands in 257 arrays or objects isn't
abbrev pub LEVELS : ℕ
LEVELS = 257

-- with so many levels left; where none is, nothing is looked at
unfoldable pub order_nested : Mem → ℕ → Content → Content → Compared
order_nested m zero c d = Err (Throws NESTING_TOO_DEEP)
order_nested m (suc n) c d = order_by_rules (order_nested m n) m c d

-- how two contents compare
abbrev pub order_in : Mem → Content → Content → Compared
order_in m c d = order_nested m LEVELS c d
