-- What a look at two values tells holds of them.
use Rattle.std.proofs.Common.{◌≡◌, ℕ, refl, sym, ◌∙◌, ap, List, Option, Some, None, Result, Ok, Err, Bool, true, false}
use Rattle.std.specs.Prelude.{nat_eq, nat_lt, cond, ℤ}
use Rattle.std.specs.Ordering.{nat_cmp}
use Rattle.std.specs.declared.cmp.Ordering.TheVariants.{Less as Below, Equal, Greater}
use Rattle.std.proofs.lemmas.Bool.{eqb-true}
use Rattle.php_value.specs.declared.fault.Fault.{Fault}
use Rattle.php_value.specs.declared.ordering.Order.{Order}
use Rattle.php_value.specs.declared.ordering.Order.TheVariants.{Less, Same, More, Apart}
use Rattle.php_value.specs.Comparison.{order_by}
use Rattle.php_entries.specs.Listing.{Listing, count_of}
use Rattle.php_memdef.specs.declared.names.Obj.{Obj}
use Rattle.php_memdef.specs.declared.answer.Peek.{Peek}
use Rattle.php_memdef.specs.declared.answer.Peek.TheVariants.{Absent, Null, Bool as Truth, Int, Str, Arr, Obj as Handle}
use Rattle.php_memdef.specs.Contents.{Content, null, truth, int, text, array, object, Mem, object_of}
use Rattle.php_memdef.specs.Views.{Shows}
use Rattle.php_compare.specs.Outcomes.{Compared, Identified, unless_same, and_then, or_ends}
use Rattle.php_compare.specs.Ordering.{order_by_rules, order_of_pairs, element_pairs, order_of_members}
use Rattle.php_compare.specs.Identity.{same_entries}
use Rattle.php_compare.specs.Places.{or_null}
use Rattle.php_glance.specs.declared.glance.Glance.TheVariants.{Known, Objects}
use Rattle.php_glance.specs.declared.glance.Likeness.TheVariants as like
use Rattle.php_glance.specs.Glances.{glance_by, counted, with_bool, with_null, with_int, with_text, with_array, with_object, at_a_glance, like_null, like_bool, like_int, like_text, like_array, like_object, identity_at_a_glance, is_missing, Stands, Tells, TellsLikeness}

pub stands : (p : Peek) (o : Option Content) → Shows p o → Stands p (or_null o)
stands Absent o e = ap or_null e
stands Null o e = ap or_null e
stands (Truth b) o e = ap or_null e
stands (Int j) o e = ap or_null e
stands (Str t) o e = ap or_null e
stands (Arr k) o e = (e.0, ap or_null e.1, e.2)
stands (Handle h) o e = ap or_null e

pub missing : (p : Peek) (o : Option Content) → Shows p o → is_missing p ≡ true → o ≡ None
missing Absent o e t = e
missing Null o e t = cc
missing (Truth b) o e t = cc
missing (Int j) o e t = cc
missing (Str s) o e t = cc
missing (Arr k) o e t = cc
missing (Handle h) o e t = cc

there_if : (o : Option Content) (c : Content) → o ≡ Some c → o ≡ Some (or_null o)
there_if o c e = e ∙ ap Some (sym (ap or_null e))

pub there : (p : Peek) (o : Option Content) → Shows p o → is_missing p ≡ false → o ≡ Some (or_null o)
there Absent o e t = cc
there Null o e t = there_if o null e
there (Truth b) o e t = there_if o (truth b) e
there (Int j) o e t = there_if o (int j) e
there (Str s) o e t = there_if o (text s.now) e
there (Arr k) o e t = there_if o (array e.0) e.1
there (Handle h) o e t = there_if o (object h.0) e

same_count_by : (a b : Bool) (x y : ℕ) → nat_eq x y ≡ b → order_by (cond a Below (cond b Equal Greater)) ≡ Same → x ≡ y
same_count_by true b x y h e = cc
same_count_by false true x y h e = eqb-true x y h
same_count_by false false x y h e = cc

pub same_count : (x y : ℕ) → order_by (nat_cmp x y) ≡ Same → x ≡ y
same_count x y e = same_count_by (nat_lt x y) (nat_eq x y) x y refl e

module _ (inner : Content → Content → Compared) (m : Mem) where
  tells_by : (c d : Content) (r : Result Order Fault) → order_by_rules inner m c d ≡ or_ends r → Tells inner m c d (glance_by r)
  tells_by c d (Ok o) e = e
  tells_by c d (Err f) e = e

  tells_bool : (a : Bool) (q : Peek) (d : Content) → Stands q d → Tells inner m (truth a) d (with_bool a q)
  tells_bool a Absent d e = rw e refl
  tells_bool a Null d e = rw e refl
  tells_bool a (Truth b) d e = rw e refl
  tells_bool a (Int j) d e = rw e refl
  tells_bool a (Str t) d e = rw e refl
  tells_bool a (Arr k) d e = rw (e.1, e.2) refl
  tells_bool a (Handle h) d e = rw e refl

  tells_null : (q : Peek) (d : Content) → Stands q d → Tells inner m null d (with_null q)
  tells_null Absent d e = rw e refl
  tells_null Null d e = rw e refl
  tells_null (Truth b) d e = rw e refl
  tells_null (Int j) d e = rw e refl
  tells_null (Str t) d e = tells_by null d _ (rw e refl)
  tells_null (Arr k) d e = rw (e.1, e.2) refl
  tells_null (Handle h) d e = rw e refl

  tells_int : (i : ℤ) (q : Peek) (d : Content) → Stands q d → Tells inner m (int i) d (with_int i q)
  tells_int i Absent d e = rw e refl
  tells_int i Null d e = rw e refl
  tells_int i (Truth b) d e = rw e refl
  tells_int i (Int j) d e = rw e refl
  tells_int i (Str t) d e = tells_by (int i) d _ (rw e refl)
  tells_int i (Arr k) d e = rw e.1 refl
  tells_int i (Handle h) d e = rw e refl

  tells_text : (s : List ℕ) (q : Peek) (d : Content) → Stands q d → Tells inner m (text s) d (with_text s q)
  tells_text s Absent d e = tells_by (text s) d _ (rw e refl)
  tells_text s Null d e = tells_by (text s) d _ (rw e refl)
  tells_text s (Truth b) d e = rw e refl
  tells_text s (Int j) d e = tells_by (text s) d _ (rw e refl)
  tells_text s (Str t) d e = tells_by (text s) d _ (rw e refl)
  tells_text s (Arr k) d e = rw e.1 refl
  tells_text s (Handle h) d e = rw e refl

  tells_counted : (s t : Listing ℕ) (o : Order) → order_by (nat_cmp (count_of s) (count_of t)) ≡ o → Tells inner m (array s) (array t) (counted o)
  tells_counted s t Less e = ap (λ o. unless_same (Ok o) (order_of_pairs inner m (element_pairs s.entries t))) e
  tells_counted s t Same e = (s, (t, refl, refl, same_count (count_of s) (count_of t) e))
  tells_counted s t More e = ap (λ o. unless_same (Ok o) (order_of_pairs inner m (element_pairs s.entries t))) e
  tells_counted s t Apart e = ap (λ o. unless_same (Ok o) (order_of_pairs inner m (element_pairs s.entries t))) e

  tells_array_of : (s : Listing ℕ) (q : Peek) (d : Content) → Stands q d → Tells inner m (array s) d (with_array (count_of s) q)
  tells_array_of s Absent d e = rw e refl
  tells_array_of s Null d e = rw e refl
  tells_array_of s (Truth b) d e = rw e refl
  tells_array_of s (Int j) d e = rw e refl
  tells_array_of s (Str t) d e = rw e refl
  tells_array_of s (Arr k) d e = rw (e.1, e.2) (tells_counted s e.0 _ refl)
  tells_array_of s (Handle h) d e = rw e refl

  tells_array : (s : Listing ℕ) (n : ℕ) (q : Peek) (d : Content) → n ≡ count_of s → Stands q d → Tells inner m (array s) d (with_array n q)
  tells_array s n q d h e = rw h (tells_array_of s q d e)

  tells_two : (g h : Obj) (b : Bool) → nat_eq g.0 h.0 ≡ b → Tells inner m (object g.0) (object h.0) (cond b (Known Same) (Objects g h))
  tells_two g h true e = ap (λ b. cond b (Ok Same) (order_of_members inner m (object_of m g.0) (object_of m h.0))) e
  tells_two g h false e = (refl, refl, e)

  tells_object : (g : Obj) (q : Peek) (d : Content) → Stands q d → Tells inner m (object g.0) d (with_object g q)
  tells_object g Absent d e = rw e refl
  tells_object g Null d e = rw e refl
  tells_object g (Truth b) d e = rw e refl
  tells_object g (Int j) d e = rw e refl
  tells_object g (Str t) d e = rw e refl
  tells_object g (Arr k) d e = rw e.1 refl
  tells_object g (Handle h) d e = rw e (tells_two g h _ refl)

  pub tells : (p q : Peek) (c d : Content) → Stands p c → Stands q d → Tells inner m c d (at_a_glance p q)
  unfolding at_a_glance
  tells Absent q c d e f = rw e (tells_null q d f)
  tells Null q c d e f = rw e (tells_null q d f)
  tells (Truth b) q c d e f = rw e (tells_bool b q d f)
  tells (Int j) q c d e f = rw e (tells_int j q d f)
  tells (Str t) q c d e f = rw e (tells_text t.now q d f)
  tells (Arr k) q c d e f = rw e.1 (tells_array e.0 k q d e.2 f)
  tells (Handle h) q c d e f = rw e (tells_object h q d f)

module _ (inner : Content → Content → Identified) (m : Mem) where
  tells_like_null : (q : Peek) (d : Content) → Stands q d → TellsLikeness inner m null d (like_null q)
  tells_like_null Absent d e = rw e refl
  tells_like_null Null d e = rw e refl
  tells_like_null (Truth b) d e = rw e refl
  tells_like_null (Int j) d e = rw e refl
  tells_like_null (Str t) d e = rw e refl
  tells_like_null (Arr k) d e = rw e.1 refl
  tells_like_null (Handle h) d e = rw e refl

  tells_like_bool : (a : Bool) (q : Peek) (d : Content) → Stands q d → TellsLikeness inner m (truth a) d (like_bool a q)
  tells_like_bool a Absent d e = rw e refl
  tells_like_bool a Null d e = rw e refl
  tells_like_bool a (Truth b) d e = rw e refl
  tells_like_bool a (Int j) d e = rw e refl
  tells_like_bool a (Str t) d e = rw e refl
  tells_like_bool a (Arr k) d e = rw e.1 refl
  tells_like_bool a (Handle h) d e = rw e refl

  tells_like_int : (i : ℤ) (q : Peek) (d : Content) → Stands q d → TellsLikeness inner m (int i) d (like_int i q)
  tells_like_int i Absent d e = rw e refl
  tells_like_int i Null d e = rw e refl
  tells_like_int i (Truth b) d e = rw e refl
  tells_like_int i (Int j) d e = rw e refl
  tells_like_int i (Str t) d e = rw e refl
  tells_like_int i (Arr k) d e = rw e.1 refl
  tells_like_int i (Handle h) d e = rw e refl

  tells_like_text : (s : List ℕ) (q : Peek) (d : Content) → Stands q d → TellsLikeness inner m (text s) d (like_text s q)
  tells_like_text s Absent d e = rw e refl
  tells_like_text s Null d e = rw e refl
  tells_like_text s (Truth b) d e = rw e refl
  tells_like_text s (Int j) d e = rw e refl
  tells_like_text s (Str t) d e = rw e refl
  tells_like_text s (Arr k) d e = rw e.1 refl
  tells_like_text s (Handle h) d e = rw e refl

  tells_like_arrays : (s t : Listing ℕ) (b : Bool) → nat_eq (count_of s) (count_of t) ≡ b → TellsLikeness inner m (array s) (array t) (cond b like.Arrays (like.Known false))
  tells_like_arrays s t true e = (s, (t, refl, refl, eqb-true (count_of s) (count_of t) e))
  tells_like_arrays s t false e = ap (λ b. and_then (Ok b) (same_entries inner m s.entries t.entries)) e

  tells_like_array_of : (s : Listing ℕ) (q : Peek) (d : Content) → Stands q d → TellsLikeness inner m (array s) d (like_array (count_of s) q)
  tells_like_array_of s Absent d e = rw e refl
  tells_like_array_of s Null d e = rw e refl
  tells_like_array_of s (Truth b) d e = rw e refl
  tells_like_array_of s (Int j) d e = rw e refl
  tells_like_array_of s (Str t) d e = rw e refl
  tells_like_array_of s (Arr k) d e = rw (e.1, e.2) (tells_like_arrays s e.0 _ refl)
  tells_like_array_of s (Handle h) d e = rw e refl

  tells_like_array : (s : Listing ℕ) (n : ℕ) (q : Peek) (d : Content) → n ≡ count_of s → Stands q d → TellsLikeness inner m (array s) d (like_array n q)
  tells_like_array s n q d h e = rw h (tells_like_array_of s q d e)

  tells_like_object : (g : Obj) (q : Peek) (d : Content) → Stands q d → TellsLikeness inner m (object g.0) d (like_object g q)
  tells_like_object g Absent d e = rw e refl
  tells_like_object g Null d e = rw e refl
  tells_like_object g (Truth b) d e = rw e refl
  tells_like_object g (Int j) d e = rw e refl
  tells_like_object g (Str t) d e = rw e refl
  tells_like_object g (Arr k) d e = rw e.1 refl
  tells_like_object g (Handle h) d e = rw e refl

  pub tells_likeness : (p q : Peek) (c d : Content) → Stands p c → Stands q d → TellsLikeness inner m c d (identity_at_a_glance p q)
  unfolding identity_at_a_glance
  tells_likeness Absent q c d e f = rw e (tells_like_null q d f)
  tells_likeness Null q c d e f = rw e (tells_like_null q d f)
  tells_likeness (Truth b) q c d e f = rw e (tells_like_bool b q d f)
  tells_likeness (Int j) q c d e f = rw e (tells_like_int j q d f)
  tells_likeness (Str t) q c d e f = rw e (tells_like_text t.now q d f)
  tells_likeness (Arr k) q c d e f = rw e.1 (tells_like_array e.0 k q d e.2 f)
  tells_likeness (Handle h) q c d e f = rw e (tells_like_object h q d f)
