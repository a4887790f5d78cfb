-- What scalars are as other types.
use Rattle.std.specs.Prelude.{◌≡◌, [], codes, true, false, pos, negsuc, Ok, Err, refl}
use Rattle.std.specs.Fmt.{digits}
use Rattle.php_value.specs.declared.fault.Fault.TheVariants.{FloatNeeded}
use Rattle.php_value.specs.declared.fault.Stopped.TheVariants.{Throws}
use Rattle.php_value.specs.declared.scalar.Scalar.TheVariants.{Null, Bool as Truth, Int, Str}
use Rattle.php_value.specs.declared.scalar_type.ScalarType.TheVariants.{Int as IntType, Str as StrType, Bool as BoolType}
use Rattle.php_value.specs.Conversion.{bool_of, int_of, text_of, coerced}
use Rattle.php_value.specs.declared.error_kind.TheConstants.ErrorKind.{TYPE_MISMATCH}

pub zero_is_false : bool_of (Int (pos 0)) ≡ false
zero_is_false = refl

pub negative_is_true : bool_of (Int (negsuc 0)) ≡ true
negative_is_true = refl

pub empty_text_is_false : bool_of (Str []) ≡ false
empty_text_is_false = refl

pub zero_digit_is_false : bool_of (Str (codes "0")) ≡ false
zero_digit_is_false = refl

pub two_zero_digits_are_true : bool_of (Str (codes "00")) ≡ true
two_zero_digits_are_true = refl

pub leading_int : int_of (Str (codes "12abc")) ≡ Ok (pos 12)
leading_int = refl

pub letters_are_zero : int_of (Str (codes "abc")) ≡ Ok (pos 0)
letters_are_zero = refl

pub float_text : int_of (Str (codes "1.5")) ≡ Err FloatNeeded
float_text = refl

pub text_of_a_negative_int : text_of (Int (negsuc 4)) ≡ codes "-5"
unfolding digits
text_of_a_negative_int = refl

pub text_of_true : text_of (Truth true) ≡ codes "1"
text_of_true = refl

pub text_of_false : text_of (Truth false) ≡ []
text_of_false = refl

pub numeric_text_fits_int : coerced IntType false (Str (codes "7")) ≡ Ok (Int (pos 7))
numeric_text_fits_int = refl

pub leading_int_fits_int : coerced IntType false (Str (codes "7x")) ≡ Ok (Int (pos 7))
leading_int_fits_int = refl

pub letters_fit_no_int : coerced IntType false (Str (codes "x")) ≡ Err (Throws TYPE_MISMATCH)
letters_fit_no_int = refl

pub strict_int_takes_no_text : coerced IntType true (Str (codes "7")) ≡ Err (Throws TYPE_MISMATCH)
strict_int_takes_no_text = refl

pub null_fits_no_type : coerced StrType false Null ≡ Err (Throws TYPE_MISMATCH)
null_fits_no_type = refl

pub text_fits_bool : coerced BoolType false (Str (codes "0")) ≡ Ok (Truth false)
text_fits_bool = refl
