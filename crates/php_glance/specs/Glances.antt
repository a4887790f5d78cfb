-- What a look at two values tells, before their parts are looked at.
use Rattle.std.specs.Prelude.{◌≡◌, ℕ, nat_eq, nat_lt, Bool, true, false, cond, ℤ, List, [], Result, Ok, Err}
use Rattle.std.specs.Ordering.{int_eq, nat_cmp}
use Rattle.std.specs.Cmp.Lexicographic.{pointwise}
use Rattle.php_value.specs.declared.fault.Fault.{Fault}
use Rattle.php_value.specs.declared.fault.Stopped.TheVariants.{Fault as Ends, Throws}
use Rattle.php_value.specs.declared.error_kind.TheConstants.ErrorKind.{OBJECT_AGAINST_STRING}
use Rattle.php_value.specs.declared.ordering.Order.{Order}
use Rattle.php_value.specs.declared.ordering.Order.TheVariants.{Less, Same, More, Apart}
use Rattle.php_value.specs.declared.scalar.Scalar.TheVariants as scalar
use Rattle.php_value.specs.Comparison.{order_by, order_of_bools, order_of_ints, order_of_texts, order_with_left, order_with_right}
use Rattle.php_value.specs.Conversion.{bool_of, has_truth, int_of_form}
use Rattle.php_value.specs.Form.{form_of}
use Rattle.php_entries.specs.Listing.{Listing, count_of}
use Rattle.php_memdef.specs.declared.names.Obj.{Obj}
use Rattle.php_memdef.specs.declared.answer.Peek.{Peek}
use Rattle.php_memdef.specs.declared.answer.Peek.TheVariants.{Absent, Null, Bool as Truth, Int, Str, Arr, Obj as Handle}
use Rattle.php_memdef.specs.Contents.{Content, null, truth, int, text, array, object, Mem}
use Rattle.php_compare.specs.Outcomes.{Compared, Identified}
use Rattle.php_compare.specs.Ordering.{order_by_rules}
use Rattle.php_compare.specs.Identity.{bool_eq, same_by_rules}
use Rattle.php_glance.specs.declared.glance.Glance.{Glance}
use Rattle.php_glance.specs.declared.glance.Glance.TheVariants.{Known, Refused, Arrays, Objects}
use Rattle.php_glance.specs.declared.glance.Likeness.{Likeness}
use Rattle.php_glance.specs.declared.glance.Likeness.TheVariants as like

abbrev pub truth_shown : Peek → Bool
truth_shown Absent = false
truth_shown Null = false
truth_shown (Truth b) = b
truth_shown (Int i) = bool_of (scalar.Int i)
truth_shown (Str t) = has_truth t.now
truth_shown (Arr n) = nat_lt 0 n
truth_shown (Handle h) = true

abbrev pub glance_by : Result Order Fault → Glance
glance_by (Ok o) = Known o
glance_by (Err f) = Refused (Ends f)

abbrev pub counted : Order → Glance
counted Same = Arrays
counted Less = Known Less
counted More = Known More
counted Apart = Known Apart

abbrev pub order_of_int_and_text : ℤ → List ℕ → Result Order Fault
order_of_int_and_text i t = order_with_left i (int_of_form (form_of t))

abbrev pub order_of_text_and_int : List ℕ → ℤ → Result Order Fault
order_of_text_and_int s j = order_with_right (int_of_form (form_of s)) j

abbrev pub with_bool : Bool → Peek → Glance
with_bool a right = Known (order_of_bools a (truth_shown right))

abbrev pub with_null : Peek → Glance
with_null (Str t) = glance_by (order_of_texts [] t.now)
with_null Absent = with_bool false Absent
with_null Null = with_bool false Null
with_null (Truth b) = with_bool false (Truth b)
with_null (Int i) = with_bool false (Int i)
with_null (Arr n) = with_bool false (Arr n)
with_null (Handle h) = with_bool false (Handle h)

abbrev pub with_int : ℤ → Peek → Glance
with_int i Absent = with_bool (bool_of (scalar.Int i)) Absent
with_int i Null = with_bool (bool_of (scalar.Int i)) Null
with_int i (Truth b) = with_bool (bool_of (scalar.Int i)) (Truth b)
with_int i (Int j) = Known (order_of_ints i j)
with_int i (Str t) = glance_by (order_of_int_and_text i t.now)
with_int i (Arr n) = Known Less
with_int i (Handle h) = Known Less

abbrev pub with_text : List ℕ → Peek → Glance
with_text s Absent = glance_by (order_of_texts s [])
with_text s Null = glance_by (order_of_texts s [])
with_text s (Truth b) = with_bool (has_truth s) (Truth b)
with_text s (Int j) = glance_by (order_of_text_and_int s j)
with_text s (Str t) = glance_by (order_of_texts s t.now)
with_text s (Arr n) = Known Less
with_text s (Handle h) = Refused (Throws OBJECT_AGAINST_STRING)

abbrev pub with_array : ℕ → Peek → Glance
with_array n Absent = with_bool (nat_lt 0 n) Absent
with_array n Null = with_bool (nat_lt 0 n) Null
with_array n (Truth b) = with_bool (nat_lt 0 n) (Truth b)
with_array n (Int j) = Known More
with_array n (Str t) = Known More
with_array n (Arr k) = counted (order_by (nat_cmp n k))
with_array n (Handle h) = Known Less

abbrev pub with_object : Obj → Peek → Glance
with_object g Absent = with_bool true Absent
with_object g Null = with_bool true Null
with_object g (Truth b) = with_bool true (Truth b)
with_object g (Int j) = Known More
with_object g (Str t) = Refused (Throws OBJECT_AGAINST_STRING)
with_object g (Arr k) = Known More
with_object g (Handle h) = cond (nat_eq g.0 h.0) (Known Same) (Objects g h)

unfoldable pub at_a_glance : Peek → Peek → Glance
at_a_glance Absent right = with_null right
at_a_glance Null right = with_null right
at_a_glance (Truth b) right = with_bool b right
at_a_glance (Int i) right = with_int i right
at_a_glance (Str t) right = with_text t.now right
at_a_glance (Arr n) right = with_array n right
at_a_glance (Handle h) right = with_object h right

abbrev pub like_null : Peek → Likeness
like_null Absent = like.Known true
like_null Null = like.Known true
like_null right = like.Known false

abbrev pub like_bool : Bool → Peek → Likeness
like_bool a (Truth b) = like.Known (bool_eq a b)
like_bool a right = like.Known false

abbrev pub like_int : ℤ → Peek → Likeness
like_int i (Int j) = like.Known (int_eq i j)
like_int i right = like.Known false

abbrev pub like_text : List ℕ → Peek → Likeness
like_text s (Str t) = like.Known (pointwise nat_eq s t.now)
like_text s right = like.Known false

abbrev pub like_array : ℕ → Peek → Likeness
like_array n (Arr k) = cond (nat_eq n k) like.Arrays (like.Known false)
like_array n right = like.Known false

abbrev pub like_object : Obj → Peek → Likeness
like_object g (Handle h) = like.Known (nat_eq g.0 h.0)
like_object g right = like.Known false

unfoldable pub identity_at_a_glance : Peek → Peek → Likeness
identity_at_a_glance Absent right = like_null right
identity_at_a_glance Null right = like_null right
identity_at_a_glance (Truth b) right = like_bool b right
identity_at_a_glance (Int i) right = like_int i right
identity_at_a_glance (Str t) right = like_text t.now right
identity_at_a_glance (Arr n) right = like_array n right
identity_at_a_glance (Handle h) right = like_object h right

abbrev pub is_missing : Peek → Bool
is_missing Absent = true
is_missing right = false

-- what a value that was looked at is; what is missing counts as null
abbrev pub Stands : Peek → Content → Type 0
Stands Absent c = c ≡ null
Stands Null c = c ≡ null
Stands (Truth b) c = c ≡ truth b
Stands (Int i) c = c ≡ int i
Stands (Str t) c = c ≡ text t.now
Stands (Arr n) c = (t : Listing ℕ) × (c ≡ array t) × (n ≡ count_of t)
Stands (Handle h) c = c ≡ object h.0

-- what a look tells holds of two contents
abbrev pub Tells : (Content → Content → Compared) → Mem → Content → Content → Glance → Type 0
Tells inner m c d (Known o) = order_by_rules inner m c d ≡ Ok o
Tells inner m c d (Refused s) = order_by_rules inner m c d ≡ Err s
Tells inner m c d Arrays = (s : Listing ℕ) × ((t : Listing ℕ) × (c ≡ array s) × (d ≡ array t) × (count_of s ≡ count_of t))
Tells inner m c d (Objects g h) = (c ≡ object g.0) × (d ≡ object h.0) × (nat_eq g.0 h.0 ≡ false)

abbrev pub TellsLikeness : (Content → Content → Identified) → Mem → Content → Content → Likeness → Type 0
TellsLikeness inner m c d (like.Known b) = same_by_rules inner m c d ≡ Ok b
TellsLikeness inner m c d like.Arrays = (s : Listing ℕ) × ((t : Listing ℕ) × (c ≡ array s) × (d ≡ array t) × (count_of s ≡ count_of t))
