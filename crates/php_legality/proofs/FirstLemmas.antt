-- The first of several faults: how going over them finds it.
use Rattle.std.proofs.Common.{◌≡◌, Bool, true, false, cond, Option, Some, None, List, [], ◌∷◌, ◌++◌, refl, ◌∙◌, arith, subst}
use mathlib.Core.Logic.{inl, inr}
use Rattle.std.proofs.lemmas.Grind.{common_steps}
use Rattle.php_legality.specs.declared.fault.Fault.{Fault}
use Rattle.php_legality.specs.Lists.{Has}
use Rattle.php_legality.specs.First.{IsNoLater, IsFirst, is_before, sooner, first_from}

pub first_from_joined : (met : Option Fault) (xs ys : List Fault) → first_from met (xs ++ ys) ≡ first_from (first_from met xs) ys
first_from_joined met [] ys = refl
first_from_joined met (x ∷ xs) ys = first_from_joined (sooner met x) xs ys

-- ---- the order

pub no_later_self : (a : Fault) → IsNoLater a a
no_later_self a = inr (refl, omega arith)

pub no_later_trans : (a b c : Fault) → IsNoLater a b → IsNoLater b c → IsNoLater a c
no_later_trans a b c (inl p) (inl q) = inl (omega (arith, p, q))
no_later_trans a b c (inl p) (inr q) = inl (omega (arith, p, q.0))
no_later_trans a b c (inr p) (inl q) = inl (omega (arith, p.0, q))
no_later_trans a b c (inr p) (inr q) = inr (p.0 ∙ q.0, omega (arith, p.1, q.1))

before_is_no_later : (a b : Fault) → is_before a b ≡ true → IsNoLater a b
before_is_no_later a b is = grind (arith, common_steps)

not_before_is_no_later : (a b : Fault) → is_before b a ≡ false → IsNoLater a b
not_before_is_no_later a b is = grind (arith, common_steps)

-- ---- the first one

-- a further one that goes no earlier
wider : (x m : Fault) (xs : List Fault) (r : Option Fault) → IsNoLater x m → IsFirst (x ∷ xs) r → IsFirst (m ∷ x ∷ xs) r
wider x m xs None later h = absurd (cc)
wider x m xs (Some a) later h = (inr h.0, each)
  where
    each : (b : Fault) → Has (m ∷ x ∷ xs) b → IsNoLater a b
    each b (inl is) = subst (IsNoLater a) is (no_later_trans a x m (h.1 x (inl refl)) later)
    each b (inr has) = h.1 b has

-- one that goes no earlier, in second place
wider_second : (x m : Fault) (xs : List Fault) (r : Option Fault) → IsNoLater m x → IsFirst (m ∷ xs) r → IsFirst (m ∷ x ∷ xs) r
wider_second x m xs None later h = absurd (cc)
wider_second x m xs (Some a) later h = (among h.0, each)
  where
    among : Has (m ∷ xs) a → Has (m ∷ x ∷ xs) a
    among (inl is) = inl is
    among (inr has) = inr (inr has)

    each : (b : Fault) → Has (m ∷ x ∷ xs) b → IsNoLater a b
    each b (inl is) = h.1 b (inl is)
    each b (inr (inl is)) = subst (IsNoLater a) is (no_later_trans a m x (h.1 m (inl refl)) later)
    each b (inr (inr has)) = h.1 b (inr has)

only_one : (m b : Fault) → Has (m ∷ []) b → IsNoLater m b
only_one m b (inl is) = subst (IsNoLater m) is (no_later_self m)
only_one m b (inr has) = absurd has

first_behind : (m : Fault) (xs : List Fault) → IsFirst (m ∷ xs) (first_from (Some m) xs)
first_behind m [] = (inl refl, only_one m)
first_behind m (x ∷ xs) = by_test (is_before x m) refl (first_behind x xs) (first_behind m xs)
  where
    by_test : (t : Bool) → is_before x m ≡ t → IsFirst (x ∷ xs) (first_from (Some x) xs) → IsFirst (m ∷ xs) (first_from (Some m) xs)
        → IsFirst (m ∷ x ∷ xs) (first_from (cond t (Some x) (Some m)) xs)
    by_test true is of_x of_m = wider x m xs (first_from (Some x) xs) (before_is_no_later x m is) of_x
    by_test false is of_x of_m = wider_second x m xs (first_from (Some m) xs) (not_before_is_no_later m x is) of_m

-- going over all of them finds the first
pub first_is_found : (xs : List Fault) → IsFirst xs (first_from None xs)
first_is_found [] = refl
first_is_found (x ∷ xs) = first_behind x xs

-- ---- lists with the same faults

none_has : {A : Type 0} (xs : List A) → ((x : A) → Has xs x → ⊥) → xs ≡ []
none_has [] none = refl
none_has (x ∷ xs) none = absurd (none x (inl refl))

pub first_of_same : (xs ys : List Fault) (r : Option Fault) → ((a : Fault) → Has xs a → Has ys a) → ((a : Fault) → Has ys a → Has xs a) → IsFirst xs r → IsFirst ys r
first_of_same xs ys None forth back h = none_has ys (λ a has. subst (λ zs. Has zs a) h (back a has))
first_of_same xs ys (Some a) forth back h = (forth a h.0, λ b has. h.1 b (back b has))
