-- Integer literals.
use Rattle.std.specs.Prelude.{ℕ, ◌+◌, ◌-◌, ◌*◌, Bool, not, ◌&&◌, ◌||◌, if◌then◌else◌, ◌==◌, nat_lt, nat_le, [], ◌∷◌, take, drop, slice_index, Option, Some, None, Result, Ok, Err, ℤ, pos, negsuc}
use Rattle.std.specs.Char.{is_ascii_digit, is_ascii_hexdigit}
use Rattle.php_lex_pieces.specs.declared.numbers.NumberFault.{NumberFault}
use Rattle.php_lex_pieces.specs.declared.numbers.NumberFault.TheVariants.{Float, TooLarge, NotOctal}
use Rattle.php_lex_pieces.specs.Bytes.{Text, is_octal_digit, is_binary_digit, run}

abbrev pub digit_value : ℕ → ℕ
digit_value b = if nat_le b 57 then b - 48 else (if nat_le b 70 then b - 55 else b - 87)

-- the number that begins with n and goes on with these digits
abbrev pub value_from : ℕ → ℕ → Text → ℕ
value_from base n [] = n
value_from base n (b ∷ digits) = value_from base (n * base + digit_value b) digits

abbrev pub value : ℕ → Text → ℕ
value base digits = value_from base 0 digits

abbrev pub greatest_int : ℕ
greatest_int = 9223372036854775807

-- `0x` or `0X` and a hexadecimal digit
abbrev pub is_hexadecimal : Text → ℕ → Bool
is_hexadecimal text at =
    slice_index text at == 48 && (slice_index text (at + 1) == 120 || slice_index text (at + 1) == 88) && is_ascii_hexdigit (slice_index text (at + 2))

-- `0b` or `0B` and a binary digit
abbrev pub is_binary : Text → ℕ → Bool
is_binary text at =
    slice_index text at == 48 && (slice_index text (at + 1) == 98 || slice_index text (at + 1) == 66) && is_binary_digit (slice_index text (at + 2))

-- what follows decimal digits makes them a floating-point number: `.`, or `e`, an optional sign and a digit
abbrev pub goes_on_as_float : Text → ℕ → Bool
goes_on_as_float text at =
    let b = slice_index text at in
    let next = slice_index text (at + 1) in
    b == 46 || ((b == 101 || b == 69) && (is_ascii_digit next || ((next == 43 || next == 45) && is_ascii_digit (slice_index text (at + 2)))))

abbrev pub within_int : ℕ → ℕ → Result (ℕ × ℕ) NumberFault
within_int len n = if nat_le n greatest_int then Ok (len, n) else Err TooLarge

-- decimal digits at the front, so many of them
abbrev pub decimal_or_octal : Text → ℕ → Result (ℕ × ℕ) NumberFault
decimal_or_octal text len =
    if goes_on_as_float text len then Err Float
    else (if slice_index text 0 == 48 && nat_lt 1 len
    then (if nat_lt (run is_octal_digit text 0) len then Err NotOctal else within_int len (value 8 (take len text)))
    else within_int len (value 10 (take len text)))

-- the length of the number that begins with the digit at the front, and its value
unfoldable pub number : Text → Result (ℕ × ℕ) NumberFault
number text =
    if is_hexadecimal text 0
    then (let digits = run is_ascii_hexdigit text 2 in within_int (2 + digits) (value 16 (take digits (drop 2 text))))
    else (if is_binary text 0
    then (let digits = run is_binary_digit text 2 in within_int (2 + digits) (value 2 (take digits (drop 2 text))))
    else decimal_or_octal text (run is_ascii_digit text 0))

-- ---- a number as the key of a simple part

-- 1 where a `-` stands at the front
abbrev pub sign_len : Text → ℕ
sign_len text = if slice_index text 0 == 45 then 1 else 0

-- the length of a number with an optional `-`, in one of its forms, or 0
unfoldable pub key_len : Text → ℕ
key_len text =
    let at = sign_len text in
    if is_hexadecimal text at then at + 2 + run is_ascii_hexdigit text (at + 2)
    else (if is_binary text at then at + 2 + run is_binary_digit text (at + 2)
    else (if is_ascii_digit (slice_index text at) then at + run is_ascii_digit text at else 0))

-- a key in canonical decimal form: no 0 in front of other digits, and no `-0`
abbrev pub is_canonical : Text → ℕ → Bool
is_canonical text len =
    let at = sign_len text in
    not (is_hexadecimal text at) && not (is_binary text at) && (not (slice_index text at == 48) || len == 1)

abbrev pub key_value : Text → ℕ → ℕ
key_value text len = value 10 (take (len - sign_len text) (drop (sign_len text) text))

-- a number up to a limit
abbrev pub at_most : ℕ → ℕ → Option ℕ
at_most limit n = if nat_le n limit then Some n else None

abbrev pub positive : Option ℕ → Option ℤ
positive None = None
positive (Some n) = Some (pos n)

abbrev pub negative : Option ℕ → Option ℤ
negative None = None
negative (Some n) = Some (negsuc (n - 1))

-- a canonical key is an int where it fits, the least int included
unfoldable pub int_key : Text → ℕ → Option ℤ
int_key text len =
    if is_canonical text len
    then (if slice_index text 0 == 45 then negative (at_most (greatest_int + 1) (key_value text len)) else positive (at_most greatest_int (key_value text len)))
    else None
