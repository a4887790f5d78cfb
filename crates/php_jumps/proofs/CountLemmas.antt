-- Comparing a level with numbers that stand still at the type's end.
use Rattle.std.proofs.Common.{◌≡◌, ℕ, ◌<◌, min, Bool, true, false, ◌||◌, nat_lt, Option, Some, None, List, ◌++◌, refl, sym, ◌∙◌, ap, arith}
use Rattle.std.proofs.lemmas.Grind.{common_steps}
use Rattle.php_legality.specs.declared.fault.Fault.{Fault}
use Rattle.php_legality.specs.Lists.{where_true}
use Rattle.php_legality.specs.First.{first_from}
use Rattle.php_legality.proofs.FirstLemmas.{first_from_joined}
use Rattle.php_legality.specs.Rows.{leaves_finally}
use Rattle.php_jumps.specs.Counts.{greatest, free_loops}

pub compares : (loops n : ℕ) → n < 9223372036854775808 → nat_lt (min loops greatest) n ≡ nat_lt loops n
compares loops n small = by_test (nat_lt (min loops greatest) n) (nat_lt loops n) refl refl
  where
    by_test : (a b : Bool) → nat_lt (min loops greatest) n ≡ a → nat_lt loops n ≡ b → a ≡ b
    by_test true true p q = refl
    by_test false false p q = refl
    by_test true false p q = absurd (grind (arith, common_steps))
    by_test false true p q = absurd (grind (arith, common_steps))

pub compares_free : (inner : Option ℕ) (n : ℕ) → n < 9223372036854775808 → nat_lt (free_loops inner) n ≡ leaves_finally n inner
compares_free None n small = by_test (nat_lt greatest n) refl
  where
    by_test : (a : Bool) → nat_lt greatest n ≡ a → a ≡ false
    by_test true p = absurd (grind (arith, common_steps))
    by_test false p = refl
compares_free (Some inner) n small = compares inner n small

-- one kind of fault behind another one
pub two_faults : (met between last : Option Fault) (a b x y : Bool) (f g : Fault) → between ≡ first_from met (where_true a f) → last ≡ first_from between (where_true b g) → a ≡ x → b ≡ y
    → last ≡ first_from met (where_true x f ++ where_true y g)
two_faults met between last a b x y f g first next ax by =
    next ∙ ap (λ m. first_from m (where_true b g)) first ∙ ap (λ t. first_from (first_from met (where_true t f)) (where_true b g)) ax
    ∙ ap (λ t. first_from (first_from met (where_true x f)) (where_true t g)) by ∙ sym (first_from_joined met (where_true x f) (where_true y g))
