-- Whether two contents of a memory are identical: `===`.
use Rattle.std.specs.Prelude.{ℕ, zero, suc, Bool, true, false, not, nat_eq, List, [], ◌∷◌, Ok, Err}
use Rattle.std.specs.Ordering.{int_eq}
use Rattle.std.specs.Cmp.Lexicographic.{pointwise}
use Rattle.php_value.specs.declared.error_kind.TheConstants.ErrorKind.{NESTING_TOO_DEEP}
use Rattle.php_value.specs.declared.fault.Stopped.TheVariants.{Throws}
use Rattle.php_entries.specs.Keys.{key_eq}
use Rattle.php_entries.specs.Listing.{Entry, Listing, count_of}
use Rattle.php_memdef.specs.Contents.{Content, null, truth, int, text, array, object, Mem, content_of}
use Rattle.php_compare.specs.Outcomes.{Identified, and_then}
use Rattle.php_compare.specs.Ordering.{LEVELS}

abbrev pub bool_eq : Bool → Bool → Bool
bool_eq true b = b
bool_eq false b = not b

-- the same keys and values in the same order; the first entry that differs decides, its key before its value
abbrev pub same_entries : (Content → Content → Identified) → Mem → List (Entry ℕ) → List (Entry ℕ) → Identified
same_entries inner m [] [] = Ok true
same_entries inner m (e ∷ es) (f ∷ fs) =
    and_then (Ok (key_eq e.key f.key)) (and_then (inner (content_of m e.value) (content_of m f.value)) (same_entries inner m es fs))
same_entries inner m es fs = Ok false

-- arrays of different counts aren't looked into
abbrev pub same_arrays : (Content → Content → Identified) → Mem → Listing ℕ → Listing ℕ → Identified
same_arrays inner m s t = and_then (Ok (nat_eq (count_of s) (count_of t))) (same_entries inner m s.entries t.entries)

-- the same type and the same value; for objects, one object
abbrev pub same_by_rules : (Content → Content → Identified) → Mem → Content → Content → Identified
same_by_rules inner m null null = Ok true
same_by_rules inner m (truth a) (truth b) = Ok (bool_eq a b)
same_by_rules inner m (int i) (int j) = Ok (int_eq i j)
same_by_rules inner m (text s) (text t) = Ok (pointwise nat_eq s t)
same_by_rules inner m (array s) (array t) = same_arrays inner m s t
same_by_rules inner m (object g) (object h) = Ok (nat_eq g h)
same_by_rules inner m c d = Ok false

-- with so many levels left; where none is, nothing is looked at
unfoldable pub same_nested : Mem → ℕ → Content → Content → Identified
same_nested m zero c d = Err (Throws NESTING_TOO_DEEP)
same_nested m (suc n) c d = same_by_rules (same_nested m n) m c d

-- whether two contents are identical
abbrev pub same_in : Mem → Content → Content → Identified
same_in m c d = same_nested m LEVELS c d
