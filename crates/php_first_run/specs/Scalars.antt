-- The values of variables as scalars.
use Rattle.std.specs.Prelude.{Option, Some, None, Result, Ok, Err}
use Rattle.php_value.specs.declared.fault.Stopped.{Stopped}
use Rattle.php_value.specs.declared.scalar.Scalar.{Scalar}
use Rattle.php_value.specs.declared.scalar.Scalar.TheVariants as scalar
use Rattle.php_first_run.specs.declared.value.Value.{Value}
use Rattle.php_first_run.specs.declared.value.Value.TheVariants.{Null, Int}

abbrev pub scalar_of : Value → Scalar
scalar_of Null = scalar.Null
scalar_of (Int n) = scalar.Int n

-- the integer that an operation gave, if it gave one
abbrev pub int_in : Result Scalar Stopped → Option Value
int_in (Ok scalar.Null) = None
int_in (Ok (scalar.Bool b)) = None
int_in (Ok (scalar.Int n)) = Some (Int n)
int_in (Ok (scalar.Str t)) = None
int_in (Err stopped) = None
