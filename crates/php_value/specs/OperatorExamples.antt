-- What operators give.
use Rattle.std.specs.Prelude.{◌≡◌, [], ◌∷◌, codes, true, pos, negsuc, Ok, Err, refl}
use Rattle.std.specs.Fmt.{digits}
use Rattle.php_value.specs.declared.fault.Fault.TheVariants.{Overflow, InexactQuotient, FloatNeeded}
use Rattle.php_value.specs.declared.fault.Stopped.TheVariants.{Fault as Ends, Throws}
use Rattle.php_value.specs.declared.op.Op.TheVariants.{Add, Sub, Pow, Div, Mod, Shl, Shr, And, Or, Xor, Concat}
use Rattle.php_value.specs.declared.scalar.Scalar.TheVariants.{Null, Bool as Truth, Int, Str}
use Rattle.php_value.specs.declared.error_kind.TheConstants.ErrorKind.{UNSUPPORTED_OPERANDS, NOT_COUNTABLE, DIVISION_BY_ZERO, ARITHMETIC}
use Rattle.php_value.specs.Operator.{arith_of, complement_of, counted_up, counted_down}

pub sum_past_the_end : arith_of Add (Int (pos 9223372036854775807)) (Int (pos 1)) ≡ Err (Ends Overflow)
sum_past_the_end = refl

pub sum_with_a_text : arith_of Add (Str (codes "12abc")) (Int (pos 1)) ≡ Ok (Int (pos 13))
sum_with_a_text = refl

pub null_counts_as_zero : arith_of Sub Null (Truth true) ≡ Ok (Int (negsuc 0))
null_counts_as_zero = refl

pub left_fault_comes_first : arith_of Div (Str (codes "1.5")) (Int (pos 0)) ≡ Err (Ends FloatNeeded)
left_fault_comes_first = refl

pub zero_to_the_zero : arith_of Pow (Int (pos 0)) (Int (pos 0)) ≡ Ok (Int (pos 1))
zero_to_the_zero = refl

pub power_past_the_end : arith_of Pow (Int (pos 2)) (Int (pos 63)) ≡ Err (Ends Overflow)
power_past_the_end = refl

pub least_power : arith_of Pow (Int (negsuc 1)) (Int (pos 63)) ≡ Ok (Int (negsuc 9223372036854775807))
least_power = refl

pub negative_exponent : arith_of Pow (Int (pos 1)) (Int (negsuc 0)) ≡ Err (Ends FloatNeeded)
negative_exponent = refl

pub exact_quotient : arith_of Div (Int (pos 6)) (Int (pos 2)) ≡ Ok (Int (pos 3))
exact_quotient = refl

pub inexact_quotient : arith_of Div (Int (pos 7)) (Int (pos 2)) ≡ Err (Ends InexactQuotient)
inexact_quotient = refl

pub quotient_by_zero : arith_of Div (Int (pos 7)) Null ≡ Err (Throws DIVISION_BY_ZERO)
quotient_by_zero = refl

pub quotient_past_the_end : arith_of Div (Int (negsuc 9223372036854775807)) (Int (negsuc 0)) ≡ Err (Ends Overflow)
quotient_past_the_end = refl

pub remainder_of_a_negative : arith_of Mod (Int (negsuc 6)) (Int (pos 3)) ≡ Ok (Int (negsuc 0))
remainder_of_a_negative = refl

pub remainder_by_a_negative : arith_of Mod (Int (pos 7)) (Int (negsuc 2)) ≡ Ok (Int (pos 1))
remainder_by_a_negative = refl

pub remainder_of_the_least : arith_of Mod (Int (negsuc 9223372036854775807)) (Int (negsuc 0)) ≡ Ok (Int (pos 0))
remainder_of_the_least = refl

pub shift_into_the_sign : arith_of Shl (Int (pos 1)) (Int (pos 63)) ≡ Ok (Int (negsuc 9223372036854775807))
shift_into_the_sign = refl

pub shift_out : arith_of Shl (Int (pos 1)) (Int (pos 64)) ≡ Ok (Int (pos 0))
shift_out = refl

pub shift_by_a_negative : arith_of Shl (Int (pos 1)) (Int (negsuc 0)) ≡ Err (Throws ARITHMETIC)
shift_by_a_negative = refl

pub shift_right_rounds_down : arith_of Shr (Int (negsuc 4)) (Int (pos 1)) ≡ Ok (Int (negsuc 2))
shift_right_rounds_down = refl

pub shift_right_of_a_negative : arith_of Shr (Int (negsuc 4)) (Int (pos 64)) ≡ Ok (Int (negsuc 0))
shift_right_of_a_negative = refl

pub bits_of_a_negative : arith_of And (Int (negsuc 0)) (Int (pos 6)) ≡ Ok (Int (pos 6))
bits_of_a_negative = refl

pub bytewise_and : arith_of And (Str (codes "abc")) (Str (codes "  ")) ≡ Ok (Str (codes "  "))
bytewise_and = refl

pub bytewise_or : arith_of Or (Str (codes "abc")) (Str (codes "  b")) ≡ Ok (Str (codes "abc"))
bytewise_or = refl

pub bytewise_or_to_the_longer : arith_of Or (Str (codes "a")) (Str (codes "Bc")) ≡ Ok (Str (codes "cc"))
bytewise_or_to_the_longer = refl

pub bytes_with_an_int : arith_of Xor (Str (codes "5")) (Int (pos 1)) ≡ Ok (Int (pos 4))
bytes_with_an_int = refl

pub texts_joined : arith_of Concat (Int (negsuc 4)) (Truth true) ≡ Ok (Str (codes "-51"))
unfolding digits
texts_joined = refl

pub complement_of_an_int : complement_of (Int (pos 0)) ≡ Ok (Int (negsuc 0))
complement_of_an_int = refl

pub complement_of_a_text : complement_of (Str (codes "a")) ≡ Ok (Str (158 ∷ []))
complement_of_a_text = refl

pub complement_of_a_bool : complement_of (Truth true) ≡ Err (Throws UNSUPPORTED_OPERANDS)
complement_of_a_bool = refl

pub null_counts_up_to_one : counted_up Null ≡ Ok (Int (pos 1))
null_counts_up_to_one = refl

pub null_does_not_count_down : counted_down Null ≡ Ok Null
null_does_not_count_down = refl

pub text_counts_up : counted_up (Str (codes "9")) ≡ Ok (Int (pos 10))
text_counts_up = refl

pub greatest_does_not_count_up : counted_up (Int (pos 9223372036854775807)) ≡ Err (Ends Overflow)
greatest_does_not_count_up = refl

pub letters_do_not_count : counted_up (Str (codes "9a")) ≡ Err (Throws NOT_COUNTABLE)
letters_do_not_count = refl

pub float_text_does_not_count : counted_down (Str (codes "1.5x")) ≡ Err (Ends FloatNeeded)
float_text_does_not_count = refl
