-- From numbers that are below the limit, one by one, to the first of them that is too deep.
use Rattle.std.proofs.Common.{◌≡◌, ◌≤◌, ◌<◌, ℕ, zero, suc, ◌+◌, Bool, true, false, Option, Some, None, List, [], ◌∷◌, take, refl, ◌∙◌, ap, arith, ltb-true, ltb-false}
use Rattle.std.specs.Prelude.{nat_lt, get_or}
use Rattle.php_grammar.specs.expression.Machine.{pick}
use Rattle.php_grammar.specs.TooDeep.{nesting_limit, one_further, first_too_deep}

abbrev pub AllWithin : ℕ → List ℕ → Type 0
AllWithin depth [] = Unit {0}
AllWithin depth (d ∷ ds) = (depth + d ≤ nesting_limit) × AllWithin depth ds

-- the first of these that is too deep is at a place
abbrev pub SinksAt : ℕ → ℕ → List ℕ → Type 0
SinksAt depth n ds = AllWithin depth (take n ds) × (nesting_limit < depth + get_or ds n 0)

-- ---- one number in front of others

passed : (b : Bool) (m : ℕ) (behind : Option ℕ) → nat_lt nesting_limit m ≡ b → m ≤ nesting_limit → pick b (Some 0) (one_further behind) ≡ one_further behind
passed true m behind is h = absurd (omega (arith, ltb-true nesting_limit m is))
passed false m behind is h = refl

found : (b : Bool) (m : ℕ) (behind : Option ℕ) → nat_lt nesting_limit m ≡ b → nesting_limit < m → pick b (Some 0) (one_further behind) ≡ Some 0
found true m behind is h = refl
found false m behind is h = absurd (omega (arith, ltb-false nesting_limit m is))

-- ---- all of them

pub none_deep : (depth : ℕ) (ds : List ℕ) → AllWithin depth ds → first_too_deep depth ds ≡ None
none_deep depth [] h = refl
none_deep depth (d ∷ ds) h =
    passed (nat_lt nesting_limit (depth + d)) (depth + d) (first_too_deep depth ds) refl h.0 ∙ ap one_further (none_deep depth ds h.1)

pub first_deep : (depth n : ℕ) (ds : List ℕ) → depth ≤ nesting_limit → SinksAt depth n ds → first_too_deep depth ds ≡ Some n
first_deep depth n [] low h = absurd (omega (arith, h.1))
first_deep depth zero (d ∷ ds) low h = found (nat_lt nesting_limit (depth + d)) (depth + d) (first_too_deep depth ds) refl h.1
first_deep depth (suc n) (d ∷ ds) low h =
    passed (nat_lt nesting_limit (depth + d)) (depth + d) (first_too_deep depth ds) refl h.0.0 ∙ ap one_further (first_deep depth n ds low (h.0.1, h.1))
