-- What comes first decides, and what a call comes to along equations.
use Rattle.std.proofs.Common.{◌≡◌, ℕ, zero, suc, ◌-◌, ◌<◌, refl, sym, ◌∙◌, ap, ◌∷◌, Option, Some, None, Result, Ok, Err, arith, subst}
use Rattle.std.specs.Prelude.{Bool, true, false, option_map}
use Rattle.php_value.specs.declared.fault.Stopped.{Stopped}
use Rattle.php_value.specs.declared.fault.Stopped.TheVariants.{Fault as Ends, Throws, NoMemory}
use Rattle.php_value.specs.declared.ordering.Order.{Order}
use Rattle.php_value.specs.declared.error_kind.TheConstants.ErrorKind.{NESTING_TOO_DEEP}
use Rattle.std.specs.Result.{IsErr, IsErrAnd}
use Rattle.std.proofs.lemmas.Bool.{false≢true}
use Rattle.php_compare.specs.Places.{or_null}
use Rattle.php_value.specs.declared.ordering.Order.TheVariants.{Less, Same, More, Apart}
use Rattle.php_value.specs.Comparison.{is_same}
use Rattle.php_memdef.specs.Contents.{Content, Mem, content_of}
use Rattle.php_compare.specs.Outcomes.{Compared, Identified, unless_same, and_then}
use Rattle.php_compare.specs.Ordering.{Pairs, order_nested, order_in, order_by_rules, order_of_pairs}
use Rattle.php_compare.specs.Identity.{same_nested, same_in, same_by_rules}
use Rattle.php_lib.specs.Answers.{ComesTo}
use Rattle.php_lib.specs.Comparing.{order_of_found}

module _ {A : Type 0} where
  pub comes : (r w : Result A Stopped) → r ≡ w → ComesTo r w
  comes (Ok a) w e = e
  comes (Err (Ends f)) w e = e
  comes (Err (Throws k)) w e = e
  comes (Err NoMemory) w e = tt

  pub comes_along : (r w v : Result A Stopped) → ComesTo r w → w ≡ v → ComesTo r v
  comes_along r w v h e = subst (λ (x : Result A Stopped). ComesTo r x) e h

pub stops_first : (s : Stopped) (w rest : Compared) → ComesTo {A = Order} (Err s) w → ComesTo {A = Order} (Err s) (unless_same w rest)
stops_first (Ends f) w rest e = ap (λ (x : Compared). unless_same x rest) e
stops_first (Throws k) w rest e = ap (λ (x : Compared). unless_same x rest) e
stops_first NoMemory w rest e = tt

settled_by : (o : Order) (rest : Compared) → is_same o ≡ false → Ok o ≡ unless_same (Ok o) rest
settled_by Less rest e = refl
settled_by Same rest e = cc
settled_by More rest e = refl
settled_by Apart rest e = refl

pub decides_first : (o : Order) (w rest : Compared) → Ok o ≡ w → is_same o ≡ false → Ok o ≡ unless_same w rest
decides_first o w rest e t = settled_by o rest t ∙ ap (λ (x : Compared). unless_same x rest) e

goes_on_by : (o : Order) (rest : Compared) → is_same o ≡ true → unless_same (Ok o) rest ≡ rest
goes_on_by Less rest e = cc
goes_on_by Same rest e = refl
goes_on_by More rest e = cc
goes_on_by Apart rest e = cc

pub goes_on : (o : Order) (w rest : Compared) → Ok o ≡ w → is_same o ≡ true → unless_same w rest ≡ rest
goes_on o w rest e t = sym (ap (λ (x : Compared). unless_same x rest) e) ∙ goes_on_by o rest t

pub pair_first : (inner : Content → Content → Compared) (m : Mem) (s : ℕ) (o : Option ℕ) (rest : Pairs) → order_of_pairs inner m ((s, o) ∷ rest) ≡ unless_same (order_of_found inner (Some (content_of m s)) (option_map (content_of m) o)) (order_of_pairs inner m rest)
pair_first inner m s None rest = refl
pair_first inner m s (Some t) rest = refl

pub one_level : (m : Mem) (n : ℕ) (c d : Content) → 0 < n → order_nested m n c d ≡ order_by_rules (order_nested m (n - 1)) m c d
unfolding order_nested
one_level m zero c d h = absurd (omega (arith, h))
one_level m (suc n) c d h = ap (λ (k : ℕ). order_by_rules (order_nested m k) m c d) (let e : n ≡ suc n - 1 = omega arith in e)

pub one_level_of_identity : (m : Mem) (n : ℕ) (c d : Content) → 0 < n → same_nested m n c d ≡ same_by_rules (same_nested m (n - 1)) m c d
unfolding same_nested
one_level_of_identity m zero c d h = absurd (omega (arith, h))
one_level_of_identity m (suc n) c d h = ap (λ (k : ℕ). same_by_rules (same_nested m k) m c d) (let e : n ≡ suc n - 1 = omega arith in e)

pub stops_before : (s : Stopped) (w rest : Identified) → ComesTo {A = Bool} (Err s) w → ComesTo {A = Bool} (Err s) (and_then w rest)
stops_before (Ends f) w rest e = ap (λ (x : Identified). and_then x rest) e
stops_before (Throws k) w rest e = ap (λ (x : Identified). and_then x rest) e
stops_before NoMemory w rest e = tt

pub whole_order : (m : Mem) (c d : Content) → order_by_rules (order_nested m 256) m c d ≡ order_in m c d
unfolding order_nested
whole_order m c d = refl

pub whole_identity : (m : Mem) (c d : Content) → same_by_rules (same_nested m 256) m c d ≡ same_in m c d
unfolding same_nested
whole_identity m c d = refl

-- what `?` hands on
pub residual : {A : Type 0} (r : Result A Stopped) (e : Stopped) → IsErr r × IsErrAnd r (λ (x : Stopped). x ≡ e) → r ≡ Err e
residual (Ok a) e h = absurd (false≢true h.0)
residual (Err x) e h = ap Err h.1

pub too_deep : (m : Mem) (n : ℕ) (c d : Option Content) (x : Content) → n ≡ 0 → d ≡ Some x → Err (Throws NESTING_TOO_DEEP) ≡ order_of_found (order_nested m n) c d
unfolding order_nested
too_deep m n c d x e f = rw (e, f) refl

pub level_below : (m : Mem) (n : ℕ) (c d : Option Content) → 0 < n → d ≡ Some (or_null d) → order_by_rules (order_nested m (n - 1)) m (or_null c) (or_null d) ≡ order_of_found (order_nested m n) c d
level_below m n c d h e = sym (one_level m n (or_null c) (or_null d) h) ∙ ap (order_of_found (order_nested m n) c) (sym e)

pub identity_too_deep : (m : Mem) (n : ℕ) (c d : Content) → n ≡ 0 → Err (Throws NESTING_TOO_DEEP) ≡ same_nested m n c d
unfolding same_nested
identity_too_deep m n c d e = rw e refl
