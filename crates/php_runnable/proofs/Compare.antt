-- Comparisons never want memory.
use Rattle.std.proofs.Common.{ℕ, zero, suc, Bool, true, false, cond, List, [], ◌∷◌, length, Some, None, Result, Ok, Err, arith}
use Rattle.std.specs.Prelude.{nat_eq}
use Rattle.std.specs.Ordering.{nat_cmp}
use Rattle.php_value.specs.declared.fault.Fault.{Fault}
use Rattle.php_value.specs.declared.fault.Stopped.{Stopped}
use Rattle.php_value.specs.declared.fault.Stopped.TheVariants.{Fault as Ends, Throws, NoMemory}
use Rattle.php_value.specs.declared.ordering.Order.{Order}
use Rattle.php_value.specs.declared.ordering.Order.TheVariants.{Less, Same, More, Apart}
use Rattle.php_value.specs.declared.scalar.Scalar.{Scalar}
use Rattle.php_value.specs.declared.scalar.Scalar.TheVariants as scalar
use Rattle.php_value.specs.Comparison.{order_of, order_by}
use Rattle.php_entries.specs.Keys.{key_eq}
use Rattle.php_entries.specs.Listing.{Entry, Listing, count_of}
use Rattle.php_memdef.specs.Contents.{Content, null, truth, int, text, array, object, Object, Mem, object_of, content_of}
use Rattle.php_compare.specs.Outcomes.{Compared, Identified, unless_same, and_then, or_ends}
use Rattle.php_compare.specs.Ordering.{Pairs, element_pairs, property_pairs, of_scalars, order_of_pairs, order_of_parts, order_of_members, order_of_objects, order_by_rules, order_nested}
use Rattle.php_compare.specs.Identity.{same_entries, same_arrays, same_by_rules, same_nested}
use Rattle.php_actions.specs.declared.relation.Relation.{Relation}
use Rattle.php_actions.specs.declared.relation.Relation.TheVariants.{Equal, NotEqual, Less as IsBelow, LessEqual, Greater, GreaterEqual, Compared as ThreeWay}
use Rattle.php_actions.specs.Comparisons.{compared_as, identical_as, related, number_of_order}
use Rattle.php_memdef.specs.Conditions.{IsScalarWithin}
use Rattle.php_runnable.proofs.Numbers.{IsMade}

-- an answer, or what stops the operation; memory is never wanted
abbrev pub IsAnswered : {A : Type 0} → Result A Stopped → Type 0
IsAnswered (Ok a) = Unit {0}
IsAnswered (Err (Ends x)) = Unit {0}
IsAnswered (Err (Throws kind)) = Unit {0}
IsAnswered (Err NoMemory) = ⊥

-- ---- orders

unless-answered : (a b : Compared) → IsAnswered a → IsAnswered b → IsAnswered (unless_same a b)
unless-answered (Ok Same) b h k = k
unless-answered (Ok Less) b h k = tt
unless-answered (Ok More) b h k = tt
unless-answered (Ok Apart) b h k = tt
unless-answered (Err (Ends x)) b h k = tt
unless-answered (Err (Throws kind)) b h k = tt
unless-answered (Err NoMemory) b h k = h

ends-answered : (r : Result Order Fault) → IsAnswered (or_ends r)
ends-answered (Ok o) = tt
ends-answered (Err f) = tt

scalars-answered : (a b : Scalar) → IsAnswered (of_scalars a b)
scalars-answered a b = ends-answered (order_of a b)

module _ (inner : Content → Content → Compared) (each : (c d : Content) → IsAnswered (inner c d)) (m : Mem) where
  pairs-answered : (ps : Pairs) → IsAnswered (order_of_pairs inner m ps)
  pairs-answered [] = tt
  pairs-answered ((s, None) ∷ ps) = tt
  pairs-answered ((s, Some t) ∷ ps) = unless-answered (inner (content_of m s) (content_of m t)) (order_of_pairs inner m ps) (each (content_of m s) (content_of m t)) (pairs-answered ps)

  parts-answered : (n k : ℕ) (ps : Pairs) → IsAnswered (order_of_parts inner m n k ps)
  parts-answered n k ps = unless-answered (Ok (order_by (nat_cmp n k))) (order_of_pairs inner m ps) tt (pairs-answered ps)

  members-answered : (o p : Object) → IsAnswered (order_of_members inner m o p)
  members-answered o p = by (nat_eq o.class p.class)
    where
      by : (t : Bool) → IsAnswered (cond t (order_of_parts inner m (length o.properties) (length p.properties) (property_pairs o.properties p.properties)) (Ok Apart))
      by true = parts-answered (length o.properties) (length p.properties) (property_pairs o.properties p.properties)
      by false = tt

  objects-answered : (g h : ℕ) → IsAnswered (order_of_objects inner m g h)
  objects-answered g h = by (nat_eq g h)
    where
      by : (t : Bool) → IsAnswered (cond t (Ok Same) (order_of_members inner m (object_of m g) (object_of m h)))
      by true = tt
      by false = members-answered (object_of m g) (object_of m h)

  rules-answered : (c d : Content) → IsAnswered (order_by_rules inner m c d)
  rules-answered null null = tt
  rules-answered null (truth b) = tt
  rules-answered null (int i) = tt
  rules-answered null (text t) = scalars-answered scalar.Null (scalar.Str t)
  rules-answered null (array t) = tt
  rules-answered null (object h) = tt
  rules-answered (truth a) null = tt
  rules-answered (truth a) (truth b) = tt
  rules-answered (truth a) (int i) = tt
  rules-answered (truth a) (text t) = tt
  rules-answered (truth a) (array t) = tt
  rules-answered (truth a) (object h) = tt
  rules-answered (int i) null = tt
  rules-answered (int i) (truth b) = tt
  rules-answered (int i) (int j) = scalars-answered (scalar.Int i) (scalar.Int j)
  rules-answered (int i) (text t) = scalars-answered (scalar.Int i) (scalar.Str t)
  rules-answered (int i) (array t) = tt
  rules-answered (int i) (object h) = tt
  rules-answered (text s) null = scalars-answered (scalar.Str s) scalar.Null
  rules-answered (text s) (truth b) = tt
  rules-answered (text s) (int j) = scalars-answered (scalar.Str s) (scalar.Int j)
  rules-answered (text s) (text t) = scalars-answered (scalar.Str s) (scalar.Str t)
  rules-answered (text s) (array t) = tt
  rules-answered (text s) (object h) = tt
  rules-answered (array s) null = tt
  rules-answered (array s) (truth b) = tt
  rules-answered (array s) (int j) = tt
  rules-answered (array s) (text t) = tt
  rules-answered (array s) (array t) = parts-answered (count_of s) (count_of t) (element_pairs s.entries t)
  rules-answered (array s) (object h) = tt
  rules-answered (object g) null = tt
  rules-answered (object g) (truth b) = tt
  rules-answered (object g) (int j) = tt
  rules-answered (object g) (text t) = tt
  rules-answered (object g) (array t) = tt
  rules-answered (object g) (object h) = objects-answered g h

pub order-answered : (m : Mem) (n : ℕ) (c d : Content) → IsAnswered (order_nested m n c d)
unfolding order_nested
order-answered m zero c d = tt
order-answered m (suc n) c d = rules-answered (order_nested m n) (order-answered m n) m c d

number-within : (o : Order) → IsScalarWithin (number_of_order o)
number-within Less = record { sfits = omega arith }
number-within Same = record { sfits = omega arith }
number-within More = record { sfits = omega arith }
number-within Apart = record { sfits = omega arith }

related-within : (r : Relation) (o : Order) → IsScalarWithin (related r o)
related-within Equal o = tt
related-within NotEqual o = tt
related-within IsBelow o = tt
related-within LessEqual o = tt
related-within Greater o = tt
related-within GreaterEqual o = tt
related-within ThreeWay o = number-within o

pub compared-made : (r : Relation) (c : Compared) → IsAnswered c → IsMade (compared_as r c)
compared-made r (Ok o) h = related-within r o
compared-made r (Err (Ends x)) h = tt
compared-made r (Err (Throws kind)) h = tt
compared-made r (Err NoMemory) h = h

-- ---- identity

then-answered : (a b : Identified) → IsAnswered a → IsAnswered b → IsAnswered (and_then a b)
then-answered (Ok true) b h k = k
then-answered (Ok false) b h k = tt
then-answered (Err (Ends x)) b h k = tt
then-answered (Err (Throws kind)) b h k = tt
then-answered (Err NoMemory) b h k = h

module _ (inner : Content → Content → Identified) (each : (c d : Content) → IsAnswered (inner c d)) (m : Mem) where
  entries-answered : (es fs : List (Entry ℕ)) → IsAnswered (same_entries inner m es fs)
  entries-answered [] [] = tt
  entries-answered [] (f ∷ fs) = tt
  entries-answered (e ∷ es) [] = tt
  entries-answered (e ∷ es) (f ∷ fs) =
      then-answered (Ok (key_eq e.key f.key)) (and_then (inner (content_of m e.value) (content_of m f.value)) (same_entries inner m es fs)) tt
      (then-answered (inner (content_of m e.value) (content_of m f.value)) (same_entries inner m es fs) (each (content_of m e.value) (content_of m f.value)) (entries-answered es fs))

  arrays-answered : (s t : Listing ℕ) → IsAnswered (same_arrays inner m s t)
  arrays-answered s t = then-answered (Ok (nat_eq (count_of s) (count_of t))) (same_entries inner m s.entries t.entries) tt (entries-answered s.entries t.entries)

  same-answered : (c d : Content) → IsAnswered (same_by_rules inner m c d)
  same-answered null null = tt
  same-answered null (truth b) = tt
  same-answered null (int i) = tt
  same-answered null (text t) = tt
  same-answered null (array t) = tt
  same-answered null (object h) = tt
  same-answered (truth a) null = tt
  same-answered (truth a) (truth b) = tt
  same-answered (truth a) (int i) = tt
  same-answered (truth a) (text t) = tt
  same-answered (truth a) (array t) = tt
  same-answered (truth a) (object h) = tt
  same-answered (int i) null = tt
  same-answered (int i) (truth b) = tt
  same-answered (int i) (int j) = tt
  same-answered (int i) (text t) = tt
  same-answered (int i) (array t) = tt
  same-answered (int i) (object h) = tt
  same-answered (text s) null = tt
  same-answered (text s) (truth b) = tt
  same-answered (text s) (int j) = tt
  same-answered (text s) (text t) = tt
  same-answered (text s) (array t) = tt
  same-answered (text s) (object h) = tt
  same-answered (array s) null = tt
  same-answered (array s) (truth b) = tt
  same-answered (array s) (int j) = tt
  same-answered (array s) (text t) = tt
  same-answered (array s) (array t) = arrays-answered s t
  same-answered (array s) (object h) = tt
  same-answered (object g) null = tt
  same-answered (object g) (truth b) = tt
  same-answered (object g) (int j) = tt
  same-answered (object g) (text t) = tt
  same-answered (object g) (array t) = tt
  same-answered (object g) (object h) = tt

pub identity-answered : (m : Mem) (n : ℕ) (c d : Content) → IsAnswered (same_nested m n c d)
unfolding same_nested
identity-answered m zero c d = tt
identity-answered m (suc n) c d = same-answered (same_nested m n) (identity-answered m n) m c d

pub identical-made : (negated : Bool) (c : Identified) → IsAnswered c → IsMade (identical_as negated c)
identical-made negated (Ok b) h = tt
identical-made negated (Err (Ends x)) h = tt
identical-made negated (Err (Throws kind)) h = tt
identical-made negated (Err NoMemory) h = h
