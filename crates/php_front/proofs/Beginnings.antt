-- The first tokens of some, and the first of some numbers that is too deep.
use Rattle.std.proofs.Common.{◌≡◌, ◌≤◌, ◌<◌, ◌⊎◌, inl, inr, ℕ, zero, suc, ◌+◌, Bool, true, false, Option, Some, None, List, [], ◌∷◌, ◌++◌, take, map, refl, sym, ◌∙◌, ap, arith, append_assoc}
use Rattle.std.specs.Prelude.{nat_lt}
use Rattle.std.proofs.lemmas.Bool.{cases_lt}
use Rattle.php_token.specs.Token.{Token}
use Rattle.php_ast.specs.Symbol.{Symbol, symbol}
use Rattle.php_ast.specs.declaration.Tree.{Script}
use Rattle.php_grammar.specs.Begins.{BeginsScript}
use Rattle.php_grammar.specs.TooDeep.{nesting_limit, one_further, first_too_deep}
use Rattle.php_grammar.specs.expression.Machine.{Nothing, pick}
use Rattle.php_grammar.specs.declaration.Laws.{SpellsScript}
use Rattle.php_parse_script.specs.Exact.{first_symbols}

-- ---- numbers in order

pub order : (k j : ℕ) → (k ≡ j) ⊎ (k < j) ⊎ (j < k)
order k j = elim (cases_lt k j) [
  | inl less ↦ inr (inl less)
  | inr no_less ↦ elim (cases_lt j k) [
    | inl more ↦ inr (inr more)
    | inr no_more ↦ inl (omega arith)
  ]
]

-- ---- the first tokens

-- A longer list begins with a shorter one.
pub record GoesOn (shorter longer : List Symbol) : Type 0 where
  pub more : List Symbol
  pub is : longer ≡ shorter ++ more

pub first_go_on : (j k : ℕ) (tokens : List Token) → j ≤ k → GoesOn (first_symbols tokens j) (first_symbols tokens k)
first_go_on zero k tokens le = record { more = first_symbols tokens k; is = refl }
first_go_on (suc j) zero tokens le = absurd (omega arith)
first_go_on (suc j) (suc k) [] le = record { more = []; is = refl }
first_go_on (suc j) (suc k) (t ∷ tokens) le =
    let r = first_go_on j k tokens (omega arith) in record { more = r.more; is = ap (λ w. symbol t ∷ w) r.is }

-- all tokens begin with the first of them
pub all_go_on : (j : ℕ) (tokens : List Token) → GoesOn (first_symbols tokens j) (map symbol tokens)
all_go_on zero tokens = record { more = map symbol tokens; is = refl }
all_go_on (suc j) [] = record { more = []; is = refl }
all_go_on (suc j) (t ∷ tokens) = let r = all_go_on j tokens in record { more = r.more; is = ap (λ w. symbol t ∷ w) r.is }

-- what a longer list spells or begins, begins with the shorter one
pub respelled : (s : Script Nothing) (shorter longer more : List Symbol) (g : GoesOn shorter longer) → SpellsScript s (longer ++ more) → SpellsScript s (shorter ++ (g.more ++ more))
respelled s shorter longer more g spelled = (spelled.0, spelled.1 ∙ ap (λ w. w ++ more) g.is ∙ append_assoc shorter g.more more)

pub begins_before : (shorter longer : List Symbol) → GoesOn shorter longer → BeginsScript longer → BeginsScript shorter
begins_before shorter longer g b = record { tree = b.tree; rest = g.more ++ b.rest; spelled = respelled b.tree shorter longer b.rest g b.spelled }

-- ---- numbers

some_behind : (o : Option ℕ) (k : ℕ) → one_further o ≡ Some (suc k) → o ≡ Some k
some_behind None k h = cc
some_behind (Some j) k h = cc

some_by : (b : Bool) (o p : Option ℕ) (k : ℕ) → pick b (Some 0) (one_further o) ≡ Some (suc k) → (o ≡ Some k → p ≡ Some k) → pick b (Some 0) (one_further p) ≡ Some (suc k)
some_by true o p k h next = cc
some_by false o p k h next = ap one_further (next (some_behind o k h))

at_once : (b : Bool) (o p : Option ℕ) → pick b (Some 0) (one_further o) ≡ Some 0 → pick b (Some 0) (one_further p) ≡ Some 0
at_once true o p h = refl
at_once false None p h = cc
at_once false (Some k) p h = cc

-- the first one that is too deep is that of the numbers up to it
pub deep_there : (d j k : ℕ) (ns : List ℕ) → first_too_deep d ns ≡ Some k → k < j → first_too_deep d (take j ns) ≡ Some k
deep_there d zero k ns h low = absurd (omega arith)
deep_there d (suc j) k [] h low = cc
deep_there d (suc j) zero (n ∷ ns) h low = at_once (nat_lt nesting_limit (d + n)) (first_too_deep d ns) (first_too_deep d (take j ns)) h
deep_there d (suc j) (suc k) (n ∷ ns) h low =
    some_by (nat_lt nesting_limit (d + n)) (first_too_deep d ns) (first_too_deep d (take j ns)) k h (λ is. deep_there d j k ns is (omega arith))
