-- The first of some numbers that is too deep, and lists that begin alike.
use Rattle.std.proofs.Common.{◌≡◌, ◌≤◌, ◌<◌, ℕ, zero, suc, ◌+◌, Bool, true, false, Option, Some, None, List, [], ◌∷◌, ◌++◌, take, length, refl, sym, ◌∙◌, ap, arith}
use Rattle.std.specs.Prelude.{nat_lt}
use Rattle.php_grammar.specs.expression.Machine.{pick}
use Rattle.php_grammar.specs.TooDeep.{nesting_limit, one_further, first_too_deep}

none_behind : (o : Option ℕ) → one_further o ≡ None → o ≡ None
none_behind None h = refl
none_behind (Some k) h = cc

some_behind : (o : Option ℕ) (k : ℕ) → one_further o ≡ Some (suc k) → o ≡ Some k
some_behind None k h = cc
some_behind (Some j) k h = cc

-- none of some numbers, and so none of those before a place
none_by : (b : Bool) (o p : Option ℕ) → pick b (Some 0) (one_further o) ≡ None → (o ≡ None → p ≡ None) → pick b (Some 0) (one_further p) ≡ None
none_by true o p h next = cc
none_by false o p h next = ap one_further (next (none_behind o h))

pub none_before : (d j : ℕ) (ns : List ℕ) → first_too_deep d ns ≡ None → first_too_deep d (take j ns) ≡ None
none_before d zero ns h = refl
none_before d (suc j) [] h = refl
none_before d (suc j) (n ∷ ns) h = none_by (nat_lt nesting_limit (d + n)) (first_too_deep d ns) (first_too_deep d (take j ns)) h (none_before d j ns)

-- the first one at a place, and so none before it
some_by : (b : Bool) (o p : Option ℕ) (k : ℕ) → pick b (Some 0) (one_further o) ≡ Some (suc k) → (o ≡ Some k → p ≡ None) → pick b (Some 0) (one_further p) ≡ None
some_by true o p k h next = cc
some_by false o p k h next = ap one_further (next (some_behind o k h))

pub none_up_to : (d j k : ℕ) (ns : List ℕ) → first_too_deep d ns ≡ Some k → j ≤ k → first_too_deep d (take j ns) ≡ None
none_up_to d zero k ns h low = refl
none_up_to d (suc j) k [] h low = cc
none_up_to d (suc j) zero (n ∷ ns) h low = absurd (omega arith)
none_up_to d (suc j) (suc k) (n ∷ ns) h low = some_by (nat_lt nesting_limit (d + n)) (first_too_deep d ns) (first_too_deep d (take j ns)) k h (λ is. none_up_to d j k ns is (omega arith))

-- ---- lists that begin alike

-- The shorter of two beginnings of a list, with the element behind it, begins the longer one.
pub record Within {A : Type 0} (longer shorter : List A) (x : A) : Type 0 where
  pub between : List A
  pub is : longer ≡ (shorter ++ x ∷ []) ++ between

pub begins_longer : {A : Type 0} (shorter longer : List A) (x : A) (xs more : List A) → shorter ++ x ∷ xs ≡ longer ++ more → length shorter < length longer → Within longer shorter x
begins_longer [] [] x xs more is less = absurd (omega arith)
begins_longer [] (y ∷ longer) x xs more is less = let first : x ≡ y = cc in record { between = longer; is = ap (λ z. z ∷ longer) (sym first) }
begins_longer (a ∷ shorter) [] x xs more is less = absurd (omega arith)
begins_longer (a ∷ shorter) (y ∷ longer) x xs more is less =
    let first : a ≡ y = cc in
    let behind : shorter ++ x ∷ xs ≡ longer ++ more = cc in
    let r = begins_longer shorter longer x xs more behind (omega arith) in
    record { between = r.between; is = ap (λ z. z ∷ longer) (sym first) ∙ ap (λ z. a ∷ z) r.is }
