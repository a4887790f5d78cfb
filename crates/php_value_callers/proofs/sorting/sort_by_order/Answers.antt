use Rattle.std.proofs.Common.{◌≡◌, Bool, true, false, cond, refl, rules, arith, is_lt}
use Rattle.std.specs.Cmp.{IsStrictWeakOrder}
use Rattle.std.specs.Ordering.{int_cmp}
use Rattle.std.specs.Prelude.{ℤ, int_lt}
use Rattle.std.specs.declared.cmp.Ordering.TheVariants.{Less, Equal, Greater}
use Rattle.std.proofs.lemmas.Fn.{always_returns_same}
use Rattle.std.proofs.lemmas.Int.{ints}
use Rattle.php_value_callers.proofs.sorting.sort_by_order.Goals as goal

is_lt-int_cmp : (x y : ℤ) → is_lt (int_cmp x y) ≡ int_lt x y
is_lt-int_cmp x y = by_tests (int_lt x y) (int_lt y x) where
  by_tests : (b c : Bool) → is_lt (cond b Less (cond c Greater Equal)) ≡ b
  by_tests true c = refl
  by_tests false true = refl
  by_tests false false = refl

int_lt-one_way : (x y : ℤ) → int_lt x y ≡ true → int_lt y x ≡ false
int_lt-one_way x y h = grind (arith, ints)

int_lt-chain : (x y z : ℤ) → int_lt x y ≡ false → int_lt y z ≡ false → int_lt x z ≡ false
int_lt-chain x y z g h = grind (arith, ints)

-- integers in their order
int_order : IsStrictWeakOrder (λ x y. is_lt (int_cmp x y))
int_order = record {
  one_way = λ x y h. rw is_lt-int_cmp (int_lt-one_way x y (rw is_lt-int_cmp at h));
  chain = λ x y z g h. rw is_lt-int_cmp (int_lt-chain x y z (rw is_lt-int_cmp at g) (rw is_lt-int_cmp at h));
}

pub returns-clause-sorted : goal.returns-clause-sorted
returns-clause-sorted c =
    c.in_ok-sort_by.ensures.sorted (λ x y. is_lt (int_cmp x y)) int_order (always_returns_same _ _ _ (λ a r q k. search rules))
