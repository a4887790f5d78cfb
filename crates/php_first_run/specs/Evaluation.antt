-- What expressions are worth.
use Rattle.std.specs.Prelude.{ℕ, ℤ, pos, ◌+ℤ◌, ◌-ℤ◌, ◌*ℤ◌, List, Option, Some, None, slice_get, unwrap_or, if◌then◌else◌}
use Rattle.php_value.specs.Decimal.{fits_int}
use Rattle.php_first_tree.specs.Expression.{Expression, int, variable, group, times, plus, minus}
use Rattle.php_first_run.specs.declared.value.Value.{Value}
use Rattle.php_first_run.specs.declared.value.Value.TheVariants.{Null, Int}

-- null counts as 0
abbrev pub number_of : Value → ℤ
number_of Null = pos 0
number_of (Int n) = n

-- the integer as a value; None is an overflow
abbrev pub value_of : ℤ → Option Value
value_of n = if fits_int n then Some (Int n) else None

-- the operation on two numbers, the left one first; None where a part or the result overflows
abbrev pub calculated : (ℤ → ℤ → ℤ) → Option Value → Option Value → Option Value
calculated operation None right = None
calculated operation (Some left) None = None
calculated operation (Some left) (Some right) = value_of (operation (number_of left) (number_of right))

-- what a variable holds; one that was never assigned is null
abbrev pub value_at : List Value → ℕ → Value
value_at values k = unwrap_or (slice_get values k) Null

-- The value of an expression over the values of the variables; None is an overflow.
abbrev pub evaluated : List Value → Expression → Option Value
evaluated values (int n) = Some (Int n)
evaluated values (variable k) = Some (value_at values k)
evaluated values (group e) = evaluated values e
evaluated values (times l r) = calculated ◌*ℤ◌ (evaluated values l) (evaluated values r)
evaluated values (plus l r) = calculated ◌+ℤ◌ (evaluated values l) (evaluated values r)
evaluated values (minus l r) = calculated ◌-ℤ◌ (evaluated values l) (evaluated values r)
