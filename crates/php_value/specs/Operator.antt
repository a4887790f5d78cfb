-- What the operators give.
use Rattle.std.specs.Prelude.{ℕ, ◌-◌, Bool, true, false, List, ◌++◌, length, map, ℤ, pos, negsuc, ◌+ℤ◌, ◌-ℤ◌, ◌*ℤ◌, int_div, int_rem, int_lt, nat_lt, bit_and, bit_or, bit_xor, drop, zip, Result, Ok, Err, if◌then◌else◌}
use Rattle.std.specs.Int.{w64, int_pow, int_shl, int_shr, int_bit_and, int_bit_or, int_bit_xor}
use Rattle.std.specs.Fmt.{signed_decimal}
use Rattle.std.specs.Ordering.{int_eq}
use Rattle.php_value.specs.declared.fault.Fault.{Fault}
use Rattle.php_value.specs.declared.fault.Fault.TheVariants.{Overflow, InexactQuotient, FloatNeeded, StringLimit}
use Rattle.php_value.specs.declared.fault.Stopped.{Stopped}
use Rattle.php_value.specs.declared.fault.Stopped.TheVariants.{Fault as Ends, Throws}
use Rattle.php_value.specs.declared.form.Form.{Form}
use Rattle.php_value.specs.declared.form.Form.TheVariants.{Int as IntForm, Float, LeadFloat}
use Rattle.php_value.specs.declared.op.Op.{Op}
use Rattle.php_value.specs.declared.op.Op.TheVariants.{Add, Sub, Mul, Pow, Div, Mod, Shl, Shr, And, Or, Xor, Concat}
use Rattle.php_value.specs.declared.scalar.Scalar.{Scalar}
use Rattle.php_value.specs.declared.scalar.Scalar.TheVariants.{Null, Bool as Truth, Int, Str}
use Rattle.php_value.specs.Conversion.{int_of, text_of}
use Rattle.php_value.specs.Decimal.{fits_int}
use Rattle.php_value.specs.declared.error_kind.TheConstants.ErrorKind.{UNSUPPORTED_OPERANDS, NOT_COUNTABLE, DIVISION_BY_ZERO, ARITHMETIC}
use Rattle.php_value.specs.Form.{form_of}

-- an integer of 64 bits is the result, and any other overflows
abbrev pub int_result : ℤ → Result Scalar Stopped
int_result z = if fits_int z then Ok (Int z) else Err (Ends Overflow)

-- a text has at most 16,777,216 bytes
abbrev pub joined : List ℕ → Result Scalar Stopped
joined t = if nat_lt 16777216 (length t) then Err (Ends StringLimit) else Ok (Str t)

-- ---- operators on two integers

-- a negative exponent needs a float
abbrev pub power : ℤ → ℤ → Result Scalar Stopped
power x (pos n) = int_result (int_pow x n)
power x (negsuc n) = Err (Ends FloatNeeded)

-- the exact quotient
abbrev pub quotient : ℤ → ℤ → Result Scalar Stopped
quotient x y =
    if int_eq y (pos 0) then Err (Throws DIVISION_BY_ZERO)
    else if int_eq (int_rem x y) (pos 0) then int_result (int_div x y)
    else Err (Ends InexactQuotient)

-- the remainder has the sign of the left
abbrev pub remainder : ℤ → ℤ → Result Scalar Stopped
remainder x y = if int_eq y (pos 0) then Err (Throws DIVISION_BY_ZERO) else Ok (Int (int_rem x y))

-- the low 64 bits of the product with a power of two
abbrev pub shifted_left : ℤ → ℤ → Result Scalar Stopped
shifted_left x (pos n) = Ok (Int (if nat_lt n 64 then int_shl w64 x n else pos 0))
shifted_left x (negsuc n) = Err (Throws ARITHMETIC)

-- the quotient by a power of two, rounded down
abbrev pub shifted_right : ℤ → ℤ → Result Scalar Stopped
shifted_right x (pos n) = Ok (Int (if nat_lt n 64 then int_shr x n else (if int_lt x (pos 0) then negsuc 0 else pos 0)))
shifted_right x (negsuc n) = Err (Throws ARITHMETIC)

abbrev pub on_ints : Op → ℤ → ℤ → Result Scalar Stopped
on_ints Add x y = int_result (x +ℤ y)
on_ints Sub x y = int_result (x -ℤ y)
on_ints Mul x y = int_result (x *ℤ y)
on_ints Pow x y = power x y
on_ints Div x y = quotient x y
on_ints Mod x y = remainder x y
on_ints Shl x y = shifted_left x y
on_ints Shr x y = shifted_right x y
on_ints And x y = Ok (Int (int_bit_and w64 x y))
on_ints Or x y = Ok (Int (int_bit_or w64 x y))
on_ints Xor x y = Ok (Int (int_bit_xor w64 x y))
on_ints Concat x y = joined (signed_decimal x ++ signed_decimal y)

-- ---- operators on two texts

-- byte by byte to the end of the shorter text
abbrev pub common_bytes : (ℕ → ℕ → ℕ) → List ℕ → List ℕ → List ℕ
common_bytes f s t = map (λ p. f p.0 p.1) (zip s t)

-- and then the rest of the longer
abbrev pub or_bytes : List ℕ → List ℕ → List ℕ
or_bytes s t = common_bytes bit_or s t ++ drop (length t) s ++ drop (length s) t

-- ---- operators on two scalars

-- numbers are taken from the left first
abbrev pub with_right : Op → ℤ → Result ℤ Fault → Result Scalar Stopped
with_right op x (Ok y) = on_ints op x y
with_right op x (Err f) = Err (Ends f)

abbrev pub with_left : Op → Result ℤ Fault → Result ℤ Fault → Result Scalar Stopped
with_left op (Ok x) right = with_right op x right
with_left op (Err f) right = Err (Ends f)

abbrev pub on_numbers : Op → Scalar → Scalar → Result Scalar Stopped
on_numbers op a b = with_left op (int_of a) (int_of b)

abbrev pub arith_of : Op → Scalar → Scalar → Result Scalar Stopped
arith_of Concat a b = joined (text_of a ++ text_of b)
arith_of And (Str s) (Str t) = Ok (Str (common_bytes bit_and s t))
arith_of Or (Str s) (Str t) = Ok (Str (or_bytes s t))
arith_of Xor (Str s) (Str t) = Ok (Str (common_bytes bit_xor s t))
arith_of op a b = on_numbers op a b

-- a text is made, which takes memory
abbrev pub makes_text : Op → Scalar → Scalar → Bool
makes_text Concat a b = true
makes_text And (Str s) (Str t) = true
makes_text Or (Str s) (Str t) = true
makes_text Xor (Str s) (Str t) = true
makes_text op a b = false

-- ---- operators on one scalar

-- `~`
abbrev pub complement_of : Scalar → Result Scalar Stopped
complement_of (Int z) = Ok (Int (negsuc 0 -ℤ z))
complement_of (Str t) = Ok (Str (map (λ c. 255 - c) t))
complement_of v = Err (Throws UNSUPPORTED_OPERANDS)

-- the integer that a text is as a whole
abbrev pub countable_form : Form → Result ℤ Stopped
countable_form (IntForm z) = Ok z
countable_form Float = Err (Ends FloatNeeded)
countable_form LeadFloat = Err (Ends FloatNeeded)
countable_form f = Err (Throws NOT_COUNTABLE)

abbrev pub countable : List ℕ → Result ℤ Stopped
countable t = countable_form (form_of t)

abbrev pub counted_from : Op → Result ℤ Stopped → Result Scalar Stopped
counted_from op (Ok z) = on_ints op z (pos 1)
counted_from op (Err e) = Err e

-- `++` adds 1 to an integer and `--` subtracts 1, and a bool stays
abbrev pub counted : Op → Scalar → Scalar → Result Scalar Stopped
counted op begun Null = Ok begun
counted op begun (Truth b) = Ok (Truth b)
counted op begun (Int z) = on_ints op z (pos 1)
counted op begun (Str t) = counted_from op (countable t)

abbrev pub counted_up : Scalar → Result Scalar Stopped
counted_up v = counted Add (Int (pos 1)) v

abbrev pub counted_down : Scalar → Result Scalar Stopped
counted_down v = counted Sub Null v
