-- What a scalar is as a bool, as an integer and as a text, and as a value of a declared type.
use Rattle.std.specs.Prelude.{ℕ, Bool, true, false, not, ◌||◌, List, [], ◌∷◌, ℤ, pos, nat_eq, Result, Ok, Err}
use Rattle.std.specs.Cmp.Lexicographic.{pointwise}
use Rattle.std.specs.Fmt.{signed_decimal}
use Rattle.std.specs.Ordering.{int_eq}
use Rattle.php_value.specs.declared.fault.Fault.{Fault}
use Rattle.php_value.specs.declared.fault.Fault.TheVariants.{FloatNeeded}
use Rattle.php_value.specs.declared.fault.Stopped.{Stopped}
use Rattle.php_value.specs.declared.fault.Stopped.TheVariants.{Fault as Ends, Throws}
use Rattle.php_value.specs.declared.form.Form.{Form}
use Rattle.php_value.specs.declared.form.Form.TheVariants.{None as NoNumber, Int as IntForm, LeadInt, Float, LeadFloat}
use Rattle.php_value.specs.declared.scalar.Scalar.{Scalar}
use Rattle.php_value.specs.declared.scalar.Scalar.TheVariants.{Null, Bool as Truth, Int, Str}
use Rattle.php_value.specs.declared.scalar_type.ScalarType.{ScalarType}
use Rattle.php_value.specs.declared.scalar_type.ScalarType.TheVariants.{Int as IntType, Str as StrType, Bool as BoolType}
use Rattle.php_value.specs.Form.{form_of}
use Rattle.php_value.specs.Key.{bit_of}
use Rattle.php_value.specs.declared.error_kind.TheConstants.ErrorKind.{TYPE_MISMATCH}

-- neither the empty text nor the text `0`, whose byte is 48
abbrev pub has_truth : List ℕ → Bool
has_truth t = not (pointwise nat_eq t [] || pointwise nat_eq t (48 ∷ []))

abbrev pub bool_of : Scalar → Bool
bool_of Null = false
bool_of (Truth b) = b
bool_of (Int z) = not (int_eq z (pos 0))
bool_of (Str t) = has_truth t

-- a text that begins with an integer is that integer, and one that begins with no number is 0
abbrev pub int_of_form : Form → Result ℤ Fault
int_of_form NoNumber = Ok (pos 0)
int_of_form (IntForm z) = Ok z
int_of_form (LeadInt z) = Ok z
int_of_form Float = Err FloatNeeded
int_of_form LeadFloat = Err FloatNeeded

abbrev pub int_of : Scalar → Result ℤ Fault
int_of Null = Ok (pos 0)
int_of (Truth b) = Ok (bit_of b)
int_of (Int z) = Ok z
int_of (Str t) = int_of_form (form_of t)

-- `1`, whose byte is 49, for true
abbrev pub text_of : Scalar → List ℕ
text_of Null = []
text_of (Truth true) = 49 ∷ []
text_of (Truth false) = []
text_of (Int z) = signed_decimal z
text_of (Str t) = t

-- the integer that a text begins with
abbrev pub fitting_form : Form → Result ℤ Stopped
fitting_form NoNumber = Err (Throws TYPE_MISMATCH)
fitting_form (IntForm z) = Ok z
fitting_form (LeadInt z) = Ok z
fitting_form Float = Err (Ends FloatNeeded)
fitting_form LeadFloat = Err (Ends FloatNeeded)

abbrev pub fitting_int : List ℕ → Result ℤ Stopped
fitting_int t = fitting_form (form_of t)

abbrev pub as_scalar : Result ℤ Stopped → Result Scalar Stopped
as_scalar (Ok z) = Ok (Int z)
as_scalar (Err e) = Err e

-- what each type takes besides its own values, unless types are strict
abbrev pub converted : ScalarType → Scalar → Result Scalar Stopped
converted IntType (Truth b) = Ok (Int (bit_of b))
converted IntType (Str t) = as_scalar (fitting_int t)
converted StrType (Int z) = Ok (Str (signed_decimal z))
converted StrType (Truth b) = Ok (Str (text_of (Truth b)))
converted BoolType (Int z) = Ok (Truth (bool_of (Int z)))
converted BoolType (Str t) = Ok (Truth (bool_of (Str t)))
converted t v = Err (Throws TYPE_MISMATCH)

-- a type takes its own values as they are
abbrev pub coerced : ScalarType → Bool → Scalar → Result Scalar Stopped
coerced IntType is_strict (Int z) = Ok (Int z)
coerced StrType is_strict (Str t) = Ok (Str t)
coerced BoolType is_strict (Truth b) = Ok (Truth b)
coerced t true v = Err (Throws TYPE_MISMATCH)
coerced t false v = converted t v
