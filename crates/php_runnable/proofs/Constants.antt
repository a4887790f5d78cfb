-- Constants that no script defines are within their limits.
use Rattle.std.proofs.Common.{ℕ, nat_eq, Bool, true, false, cond, List, [], ◌∷◌, Option, Some, None, arith}
use Rattle.std.specs.Prelude.{codes}
use Rattle.std.specs.Cmp.Lexicographic.{pointwise}
use Rattle.std.specs.Str.{str_eq_ignore_ascii_case}
use Rattle.php_value.specs.declared.scalar.Scalar.{Scalar}
use Rattle.php_value.specs.declared.scalar.Scalar.TheVariants as scalar
use Rattle.php_memdef.specs.Conditions.{IsScalarWithin}
use Rattle.php_meaning.specs.Constants.{Rows, value_in, int_constants, library_constants, constant_of}

-- a value within its limits, where there is one
abbrev pub IsWithin : Option Scalar → Type 0
IsWithin None = Unit {0}
IsWithin (Some v) = IsScalarWithin v

abbrev AreWithin : Rows → Type 0
AreWithin [] = Unit {0}
AreWithin ((m, v) ∷ rows) = IsScalarWithin v × AreWithin rows

cond-within : (t : Bool) (a b : Option Scalar) → IsWithin a → IsWithin b → IsWithin (cond t a b)
cond-within true a b h k = h
cond-within false a b h k = k

rows-within : (rows : Rows) (n : List ℕ) → AreWithin rows → IsWithin (value_in rows n)
rows-within [] n h = tt
rows-within ((m, v) ∷ rows) n h = cond-within (pointwise nat_eq n m) (Some v) (value_in rows n) h.0 (rows-within rows n h.1)

ints-within : AreWithin int_constants
unfolding int_constants
ints-within = (
  record { sfits = omega arith },
  (
    record { sfits = omega arith },
    (
      record { sfits = omega arith },
      (
        record { sfits = omega arith },
        (record { sfits = omega arith }, (record { sfits = omega arith }, (record { sfits = omega arith }, (record { sfits = omega arith }, tt)))),
      ),
    ),
  ),
)

pub constant-within : (n : List ℕ) → IsWithin (constant_of n)
unfolding constant_of
constant-within n =
    cond-within (str_eq_ignore_ascii_case n (codes "true")) (Some (scalar.Bool true))
    (cond (str_eq_ignore_ascii_case n (codes "false")) (Some (scalar.Bool false)) (cond (str_eq_ignore_ascii_case n (codes "null")) (Some scalar.Null) (value_in library_constants n))) tt
    (cond-within (str_eq_ignore_ascii_case n (codes "false")) (Some (scalar.Bool false)) (cond (str_eq_ignore_ascii_case n (codes "null")) (Some scalar.Null) (value_in library_constants n)) tt
    (cond-within (str_eq_ignore_ascii_case n (codes "null")) (Some scalar.Null) (value_in library_constants n) tt
    (rows-within library_constants n (omega arith, ints-within))))
