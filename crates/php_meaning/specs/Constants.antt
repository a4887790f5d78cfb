-- Constants that no script defines.
use Rattle.std.specs.Prelude.{ℕ, nat_eq, true, false, cond, pos, negsuc, List, [], ◌∷◌, Option, Some, None, codes}
use Rattle.std.specs.Cmp.Lexicographic.{pointwise}
use Rattle.std.specs.Str.{str_eq_ignore_ascii_case}
use Rattle.php_value.specs.declared.scalar.Scalar.{Scalar}
use Rattle.php_value.specs.declared.scalar.Scalar.TheVariants as scalar

-- names with what they stand for
abbrev pub Rows : Type 0
Rows = List (List ℕ × Scalar)

-- what the first row of a name has; letter case counts
abbrev pub value_in : Rows → List ℕ → Option Scalar
value_in [] n = None
value_in ((m, v) ∷ rows) n = cond (pointwise nat_eq n m) (Some v) (value_in rows n)

-- the ints of the library
unfoldable pub int_constants : Rows
int_constants =
    (codes "PHP_INT_MAX", scalar.Int (pos 9223372036854775807)) ∷
    (codes "PHP_INT_MIN", scalar.Int (negsuc 9223372036854775807)) ∷
    (codes "PHP_INT_SIZE", scalar.Int (pos 8)) ∷
    (codes "SORT_REGULAR", scalar.Int (pos 0)) ∷
    (codes "SORT_STRING", scalar.Int (pos 2)) ∷
    (codes "STR_PAD_LEFT", scalar.Int (pos 0)) ∷
    (codes "STR_PAD_RIGHT", scalar.Int (pos 1)) ∷
    (codes "STR_PAD_BOTH", scalar.Int (pos 2)) ∷ []

-- with its one text, a line feed
abbrev pub library_constants : Rows
library_constants = (codes "PHP_EOL", scalar.Str (10 ∷ [])) ∷ int_constants

-- these three may be written in any letter case, the library's in their own alone
unfoldable pub constant_of : List ℕ → Option Scalar
constant_of n =
    cond (str_eq_ignore_ascii_case n (codes "true")) (Some (scalar.Bool true))
    (cond (str_eq_ignore_ascii_case n (codes "false")) (Some (scalar.Bool false))
    (cond (str_eq_ignore_ascii_case n (codes "null")) (Some scalar.Null)
    (value_in library_constants n)))
