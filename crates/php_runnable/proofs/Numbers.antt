-- What is computed of values within their limits is within them.
use Rattle.std.proofs.Common.{◌≡◌, ℕ, zero, suc, ◌-◌, ◌*◌, ◌<◌, ◌^◌, ◌%◌, Bool, true, false, List, ◌++◌, length, Option, Some, None, Result, Ok, Err, ℤ, pos, negsuc, nat_lt, refl, subst, arith, length-append}
use Rattle.std.specs.Prelude.{◌+ℤ◌, ◌*ℤ◌, ◌-ℤ◌, if◌then◌else◌, int_rem, int_lt, int_div, bit_and, bit_or, bit_xor, drop, zip, map, take, ◌&&◌, ◌==◌, unsigned_abs}
use Rattle.std.specs.Int.{w64, int_pow, int_wrap, cast_signed, cast_unsigned, int_shl, int_shr}
use Rattle.std.specs.Int.Bits.{and_lt}
use Rattle.std.specs.Fmt.{signed_decimal}
use Rattle.std.specs.Ordering.{int_eq}
use Rattle.std.proofs.Math.Facts.{Fits-of_z}
use Rattle.std.proofs.Math.Nat.{mod-eq_of_lt, div-le_self}
use Rattle.std.proofs.lemmas.Int.{SFits-int_wrap, fits_signed_from_abs, rem_below, ints}
use Rattle.std.proofs.lemmas.Nat.{or_lt, xor_lt}
use Rattle.std.proofs.lemmas.Bool.{ltb-false}
use Rattle.std.proofs.lemmas.Fmt.{length_signed_le}
use Rattle.std.proofs.lemmas.List.{length-drop, length-map}
use Rattle.std.proofs.lemmas.Slice.Zip.{length-zip}
use Rattle.php_value.specs.declared.fault.Fault.{Fault}
use Rattle.php_value.specs.declared.fault.Fault.TheVariants.{Overflow, InexactQuotient, StringLimit}
use Rattle.php_value.specs.declared.fault.Stopped.{Stopped}
use Rattle.php_value.specs.declared.fault.Stopped.TheVariants.{Fault as Ends, Throws, NoMemory}
use Rattle.php_value.specs.declared.error_kind.TheConstants.ErrorKind.{DIVISION_BY_ZERO}
use Rattle.php_value.specs.declared.op.Op.{Op}
use Rattle.php_value.specs.declared.op.Op.TheVariants.{Add, Sub, Mul, Pow, Div, Mod, Shl, Shr, And, Or, Xor, Concat}
use Rattle.php_value.specs.declared.scalar.Scalar.{Scalar}
use Rattle.php_value.specs.declared.scalar.Scalar.TheVariants.{Null, Bool as Truth, Int, Str}
use Rattle.php_value.specs.Conversion.{int_of_form, int_of, text_of}
use Rattle.php_value.specs.Decimal.{is_numeral, fits_int, written_int}
use Rattle.php_value.specs.Form.{behind_blanks, form_of_number, form_by_prefix, longest_prefix, is_number, kind_of}
use Rattle.php_value.specs.Operator.{int_result, joined, power, quotient, remainder, shifted_left, shifted_right, on_ints, common_bytes, or_bytes, with_right, with_left, on_numbers, arith_of, complement_of, countable_form, countable, counted_from, counted, counted_up, counted_down}
use Rattle.php_value.proofs.Numerals.{fits_int-decides}
use Rattle.std.specs.Str.Parse.{without_leading_sign, signed_digits_value}
use Rattle.php_memdef.specs.Sound.{TEXT_LIMIT, IsInt, IsShort}
use Rattle.php_memdef.specs.Conditions.{IsScalarWithin}

-- a value within its limits, or what stops the operation; memory is never wanted
abbrev pub IsMade : Result Scalar Stopped → Type 0
IsMade (Ok v) = IsScalarWithin v
IsMade (Err (Ends x)) = Unit {0}
IsMade (Err (Throws kind)) = Unit {0}
IsMade (Err NoMemory) = ⊥

-- ---- ints

pub int_result-made : (z : ℤ) → IsMade (int_result z)
int_result-made z = by (fits_int z) refl
  where
    by : (t : Bool) → fits_int z ≡ t → IsMade (if t then Ok (Int z) else Err (Ends Overflow))
    by true e = (fits_int-decides z).0 e
    by false e = tt

power-made : (x y : ℤ) → IsMade (power x y)
power-made x (pos n) = int_result-made (int_pow x n)
power-made x (negsuc n) = tt

rem-fits : (x y : ℤ) → IsInt y → int_eq y (pos 0) ≡ false → IsInt (int_rem x y)
rem-fits x y h e =
    let below = rem_below x y (some y e) in
    fits_signed_from_abs w64 (int_rem x y) (room y h below)
  where
    some : (y : ℤ) → int_eq y (pos 0) ≡ false → 0 < unsigned_abs y
    some (pos zero) e = absurd (cc)
    some (pos (suc n)) e = omega arith
    some (negsuc n) e = omega arith

    room : (y : ℤ) → IsInt y → unsigned_abs (int_rem x y) < unsigned_abs y → unsigned_abs (int_rem x y) < 2 ^ 63
    room (pos n) h below = let s = h.sfits in omega (arith, s, below)
    room (negsuc n) h below = let s = h.sfits in omega (arith, s, below)

quotient-made : (x y : ℤ) → IsMade (quotient x y)
quotient-made x y = by (int_eq y (pos 0)) (int_eq (int_rem x y) (pos 0))
  where
    by : (s t : Bool) → IsMade (if s then Err (Throws DIVISION_BY_ZERO) else if t then int_result (int_div x y) else Err (Ends InexactQuotient))
    by true t = tt
    by false true = int_result-made (int_div x y)
    by false false = tt

remainder-made : (x y : ℤ) → IsInt y → IsMade (remainder x y)
remainder-made x y h = by (int_eq y (pos 0)) refl
  where
    by : (t : Bool) → int_eq y (pos 0) ≡ t → IsMade (if t then Err (Throws DIVISION_BY_ZERO) else Ok (Int (int_rem x y)))
    by true e = tt
    by false e = rem-fits x y h e

-- the signed value of the low bits fits
wrapped-fits : (n : ℕ) → IsInt (cast_signed w64 (n % 2 ^ 64))
unfolding int_wrap
wrapped-fits n = SFits-int_wrap w64 (pos n)

signed-fits : (n : ℕ) → n < 2 ^ 64 → IsInt (cast_signed w64 n)
signed-fits n h = subst (λ k. IsInt (cast_signed w64 k)) (mod-eq_of_lt h) (wrapped-fits n)

bits-below : (x : ℤ) → IsInt x → cast_unsigned w64 x < 2 ^ 64
bits-below x h = (Fits-of_z h).fits

shifted_left-made : (x y : ℤ) → IsMade (shifted_left x y)
shifted_left-made x (pos n) = by (nat_lt n 64)
  where
    by : (t : Bool) → IsInt (if t then int_shl w64 x n else pos 0)
    by true = wrapped-fits (cast_unsigned w64 x * 2 ^ n)
    by false = record { sfits = omega arith }
shifted_left-made x (negsuc n) = tt

shr-fits : (x : ℤ) (n : ℕ) → IsInt x → IsInt (int_shr x n)
shr-fits (pos a) n h = let s = h.sfits in record { sfits = omega (arith, s, div-le_self a (2 ^ n)) }
shr-fits (negsuc a) n h = let s = h.sfits in record { sfits = omega (arith, s, div-le_self a (2 ^ n)) }

shifted_right-made : (x y : ℤ) → IsInt x → IsMade (shifted_right x y)
shifted_right-made x (pos n) h = by (nat_lt n 64) (int_lt x (pos 0))
  where
    by : (s t : Bool) → IsInt (if s then int_shr x n else (if t then negsuc 0 else pos 0))
    by true t = shr-fits x n h
    by false true = record { sfits = omega arith }
    by false false = record { sfits = omega arith }
shifted_right-made x (negsuc n) h = tt

-- ---- texts

short-made : (t : List ℕ) → IsMade (joined t)
short-made t = by (nat_lt TEXT_LIMIT (length t)) refl
  where
    by : (b : Bool) → nat_lt TEXT_LIMIT (length t) ≡ b → IsMade (if b then Err (Ends StringLimit) else Ok (Str t))
    by true e = tt
    by false e = ltb-false TEXT_LIMIT (length t) e

pub joined-made : (t : List ℕ) → IsMade (joined t)
joined-made t = short-made t

pub decimal-short : (z : ℤ) → IsInt z → IsShort (signed_decimal z)
decimal-short (pos n) h = let s = h.sfits in let l = length_signed_le 20 (pos n) (omega (arith, s)) (omega (arith, s)) in omega (arith, l)
decimal-short (negsuc n) h = let s = h.sfits in let l = length_signed_le 20 (negsuc n) (omega (arith, s)) (omega (arith, s)) in omega (arith, l)

common-short : (f : ℕ → ℕ → ℕ) (s t : List ℕ) → IsShort s → IsShort (common_bytes f s t)
common-short f s t h =
    let l = length-map (zip s t) (λ p. f p.0 p.1) in
    let z = length-zip s t in
    omega (arith, l, z, h)

or-short : (s t : List ℕ) → IsShort s → IsShort t → IsShort (or_bytes s t)
or-short s t h k =
    let l = length-map (zip s t) (λ p. bit_or p.0 p.1) in
    let z = length-zip s t in
    let a = length-append (common_bytes bit_or s t) (drop (length t) s) in
    let b = length-append (common_bytes bit_or s t ++ drop (length t) s) (drop (length s) t) in
    let c = length-drop (length t) s in
    let d = length-drop (length s) t in
    omega (arith, l, z, a, b, c, d, h, k)

-- ---- operators

pub on_ints-made : (op : Op) (x y : ℤ) → IsInt x → IsInt y → IsMade (on_ints op x y)
on_ints-made Add x y h k = int_result-made (x +ℤ y)
on_ints-made Sub x y h k = int_result-made (x -ℤ y)
on_ints-made Mul x y h k = int_result-made (x *ℤ y)
on_ints-made Pow x y h k = power-made x y
on_ints-made Div x y h k = quotient-made x y
on_ints-made Mod x y h k = remainder-made x y k
on_ints-made Shl x y h k = shifted_left-made x y
on_ints-made Shr x y h k = shifted_right-made x y h
on_ints-made And x y h k = signed-fits (bit_and (cast_unsigned w64 x) (cast_unsigned w64 y)) (and_lt 64 (cast_unsigned w64 x) (cast_unsigned w64 y) (bits-below x h) (bits-below y k))
on_ints-made Or x y h k = signed-fits (bit_or (cast_unsigned w64 x) (cast_unsigned w64 y)) (or_lt 64 (cast_unsigned w64 x) (cast_unsigned w64 y) (bits-below x h) (bits-below y k))
on_ints-made Xor x y h k = signed-fits (bit_xor (cast_unsigned w64 x) (cast_unsigned w64 y)) (xor_lt 64 (cast_unsigned w64 x) (cast_unsigned w64 y) (bits-below x h) (bits-below y k))
on_ints-made Concat x y h k = short-made (signed_decimal x ++ signed_decimal y)

-- an int of 64 bits, or a fault
abbrev pub IsIntMade : Result ℤ Fault → Type 0
IsIntMade (Ok z) = IsInt z
IsIntMade (Err x) = Unit {0}

abbrev IsWritten : Option ℤ → Type 0
IsWritten None = Unit {0}
IsWritten (Some z) = IsInt z

written-fits : (t : List ℕ) → IsWritten (written_int t)
written-fits t = by (is_numeral (without_leading_sign t)) (fits_int (signed_digits_value 10 t)) refl
  where
    by : (a b : Bool) → fits_int (signed_digits_value 10 t) ≡ b → IsWritten (if a && b then Some (signed_digits_value 10 t) else None)
    by true true e = (fits_int-decides (signed_digits_value 10 t)).0 e
    by true false e = tt
    by false b e = tt

form-made : (o : Option ℤ) (b : Bool) → IsWritten o → IsIntMade (int_of_form (form_of_number o b))
form-made (Some z) true h = h
form-made (Some z) false h = h
form-made None true h = tt
form-made None false h = tt

prefix-made : (t : List ℕ) (o : Option ℕ) → IsIntMade (int_of_form (form_by_prefix t o))
prefix-made t None = record { sfits = omega arith }
prefix-made t (Some n) = form-made (written_int (behind_blanks (take n t))) (n == length t) (written-fits (behind_blanks (take n t)))

pub int_of-made : (v : Scalar) → IsScalarWithin v → IsIntMade (int_of v)
int_of-made Null h = record { sfits = omega arith }
int_of-made (Truth true) h = record { sfits = omega arith }
int_of-made (Truth false) h = record { sfits = omega arith }
int_of-made (Int z) h = h
int_of-made (Str t) h = prefix-made t (longest_prefix is_number (map kind_of t))

right-made : (op : Op) (x : ℤ) (r : Result ℤ Fault) → IsInt x → IsIntMade r → IsMade (with_right op x r)
right-made op x (Ok y) h k = on_ints-made op x y h k
right-made op x (Err f) h k = tt

left-made : (op : Op) (l r : Result ℤ Fault) → IsIntMade l → IsIntMade r → IsMade (with_left op l r)
left-made op (Ok x) r h k = right-made op x r h k
left-made op (Err f) r h k = tt

numbers-made : (op : Op) (a b : Scalar) → IsScalarWithin a → IsScalarWithin b → IsMade (on_numbers op a b)
numbers-made op a b h k = left-made op (int_of a) (int_of b) (int_of-made a h) (int_of-made b k)

abbrev BothShort : Scalar → Scalar → Type 0
BothShort a b = IsScalarWithin a × IsScalarWithin b

and-made : (a b : Scalar) → BothShort a b → IsMade (arith_of And a b)
and-made (Str s) (Str t) h = common-short bit_and s t h.0
and-made (Str s) Null h = numbers-made And (Str s) Null h.0 h.1
and-made (Str s) (Truth c) h = numbers-made And (Str s) (Truth c) h.0 h.1
and-made (Str s) (Int z) h = numbers-made And (Str s) (Int z) h.0 h.1
and-made Null b h = numbers-made And Null b h.0 h.1
and-made (Truth c) b h = numbers-made And (Truth c) b h.0 h.1
and-made (Int z) b h = numbers-made And (Int z) b h.0 h.1

or-made : (a b : Scalar) → BothShort a b → IsMade (arith_of Or a b)
or-made (Str s) (Str t) h = or-short s t h.0 h.1
or-made (Str s) Null h = numbers-made Or (Str s) Null h.0 h.1
or-made (Str s) (Truth c) h = numbers-made Or (Str s) (Truth c) h.0 h.1
or-made (Str s) (Int z) h = numbers-made Or (Str s) (Int z) h.0 h.1
or-made Null b h = numbers-made Or Null b h.0 h.1
or-made (Truth c) b h = numbers-made Or (Truth c) b h.0 h.1
or-made (Int z) b h = numbers-made Or (Int z) b h.0 h.1

xor-made : (a b : Scalar) → BothShort a b → IsMade (arith_of Xor a b)
xor-made (Str s) (Str t) h = common-short bit_xor s t h.0
xor-made (Str s) Null h = numbers-made Xor (Str s) Null h.0 h.1
xor-made (Str s) (Truth c) h = numbers-made Xor (Str s) (Truth c) h.0 h.1
xor-made (Str s) (Int z) h = numbers-made Xor (Str s) (Int z) h.0 h.1
xor-made Null b h = numbers-made Xor Null b h.0 h.1
xor-made (Truth c) b h = numbers-made Xor (Truth c) b h.0 h.1
xor-made (Int z) b h = numbers-made Xor (Int z) b h.0 h.1

pub arith-made : (op : Op) (a b : Scalar) → IsScalarWithin a → IsScalarWithin b → IsMade (arith_of op a b)
arith-made Concat a b h k = short-made (text_of a ++ text_of b)
arith-made And a b h k = and-made a b (h, k)
arith-made Or a b h k = or-made a b (h, k)
arith-made Xor a b h k = xor-made a b (h, k)
arith-made Add a b h k = numbers-made Add a b h k
arith-made Sub a b h k = numbers-made Sub a b h k
arith-made Mul a b h k = numbers-made Mul a b h k
arith-made Pow a b h k = numbers-made Pow a b h k
arith-made Div a b h k = numbers-made Div a b h k
arith-made Mod a b h k = numbers-made Mod a b h k
arith-made Shl a b h k = numbers-made Shl a b h k
arith-made Shr a b h k = numbers-made Shr a b h k

pub complement-made : (v : Scalar) → IsScalarWithin v → IsMade (complement_of v)
complement-made Null h = tt
complement-made (Truth b) h = tt
complement-made (Int (pos n)) h = let s = h.sfits in subst IsInt (turned n) (record { sfits = s })
  where
    turned : (n : ℕ) → negsuc n ≡ negsuc 0 -ℤ pos n
    turned zero = refl
    turned (suc n) = omega (arith, ints)
complement-made (Int (negsuc n)) h = let s = h.sfits in subst IsInt (turned n) (record { sfits = s })
  where
    turned : (n : ℕ) → pos n ≡ negsuc 0 -ℤ negsuc n
    turned n = omega (arith, ints)
complement-made (Str t) h = let l = length-map t (λ c. 255 - c) in omega (arith, l, h)

-- an int of 64 bits, or what stops the operation
abbrev pub IsNumberMade : Result ℤ Stopped → Type 0
IsNumberMade (Ok z) = IsInt z
IsNumberMade (Err (Ends x)) = Unit {0}
IsNumberMade (Err (Throws kind)) = Unit {0}
IsNumberMade (Err NoMemory) = ⊥

countable-made : (o : Option ℤ) (b : Bool) → IsWritten o → IsNumberMade (countable_form (form_of_number o b))
countable-made (Some z) true h = h
countable-made (Some z) false h = tt
countable-made None true h = tt
countable-made None false h = tt

countable_by-made : (t : List ℕ) (o : Option ℕ) → IsNumberMade (countable_form (form_by_prefix t o))
countable_by-made t None = tt
countable_by-made t (Some n) = countable-made (written_int (behind_blanks (take n t))) (n == length t) (written-fits (behind_blanks (take n t)))

counted_from-made : (op : Op) (r : Result ℤ Stopped) → IsNumberMade r → IsMade (counted_from op r)
counted_from-made op (Ok z) h = on_ints-made op z (pos 1) h (record { sfits = omega arith })
counted_from-made op (Err (Ends x)) h = tt
counted_from-made op (Err (Throws kind)) h = tt
counted_from-made op (Err NoMemory) h = h

counted-made : (op : Op) (begun v : Scalar) → IsScalarWithin begun → IsScalarWithin v → IsMade (counted op begun v)
counted-made op begun Null h k = h
counted-made op begun (Truth b) h k = tt
counted-made op begun (Int z) h k = on_ints-made op z (pos 1) k (record { sfits = omega arith })
counted-made op begun (Str t) h k = counted_from-made op (countable t) (countable_by-made t (longest_prefix is_number (map kind_of t)))

pub counted_up-made : (v : Scalar) → IsScalarWithin v → IsMade (counted_up v)
counted_up-made v h = counted-made Add (Int (pos 1)) v (record { sfits = omega arith }) h

pub counted_down-made : (v : Scalar) → IsScalarWithin v → IsMade (counted_down v)
counted_down-made v h = counted-made Sub Null v tt h
