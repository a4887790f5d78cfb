-- The bytes of double quotes and heredocs, outside their parts.
use Rattle.std.specs.Prelude.{ℕ, zero, suc, ◌+◌, ◌-◌, ◌/◌, ◌%◌, min, Bool, true, false, ◌&&◌, ◌||◌, if◌then◌else◌, ◌==◌, nat_eq, nat_lt, nat_le, [], ◌∷◌, ◌++◌, length, take, drop, slice_index}
use Rattle.std.specs.Char.{is_ascii_hexdigit}
use Rattle.std.specs.List.{starts_with}
use Rattle.php_lex_pieces.specs.declared.escapes.Meaning.{Meaning}
use Rattle.php_lex_pieces.specs.declared.escapes.Meaning.TheVariants.{Itself, Byte, Scalar}
use Rattle.php_lex_pieces.specs.Bytes.{Text, is_name_start, is_octal_digit, run, line_end_len, len_before}
use Rattle.php_lex_pieces.specs.Numbers.{value}

-- what ends a template
pub data Delimiter : Type 0 where
  quote : Delimiter
  label : Text → Delimiter

-- ---- heredocs

-- an optional `;` and then LF, CR LF or the end of the file
abbrev pub ends_line : Text → ℕ → Bool
ends_line text at =
    let end = if slice_index text at == 59 then at + 1 else at in
    length text == end || nat_lt 0 (line_end_len text end)

-- a line of the label
unfoldable pub is_label_line : Text → Text → Bool
is_label_line name text = starts_with nat_eq text name && ends_line text (length name)

-- the length of the newline at the front and the label on the line behind it, where they end the text, or 0
unfoldable pub closing_len : Text → Text → ℕ
closing_len name text =
    let newline = line_end_len text 0 in
    if nat_lt 0 newline && is_label_line name (drop newline text) then newline + length name else 0

abbrev pub closes : Text → Text → Bool
closes name text = nat_lt 0 (closing_len name text)

-- how many bytes of a nowdoc stand before its end
abbrev pub nowdoc_len : Text → Text → ℕ
nowdoc_len name text = len_before (closes name) text

-- ---- escapes

-- what a letter or sign behind a backslash stands for, or 0
abbrev pub escaped_byte : ℕ → ℕ
escaped_byte c =
    if c == 110 then 10 else (if c == 116 then 9 else (if c == 114 then 13 else (if c == 118 then 11
    else (if c == 101 then 27 else (if c == 102 then 12 else (if c == 92 then 92 else (if c == 36 then 36 else 0)))))))

-- the low eight bits of what so many digits at a place give
abbrev pub byte_escape : ℕ → Text → ℕ → ℕ → ℕ × Meaning
byte_escape base text at n = (at + n, Byte (value base (take n (drop at text)) % 256))

-- one to three octal digits behind a backslash
abbrev pub octal_escape : Text → ℕ × Meaning
octal_escape text = byte_escape 8 text 1 (min 3 (run is_octal_digit text 1))

-- one or two hexadecimal digits behind `\x`
abbrev pub hexadecimal_escape : Text → ℕ × Meaning
hexadecimal_escape text = byte_escape 16 text 2 (min 2 (run is_ascii_hexdigit text 2))

-- `\u{`, hexadecimal digits of a number up to 10FFFF, and `}`; where that isn't so, no length
unfoldable pub scalar_escape : Text → ℕ × Meaning
scalar_escape text =
    let digits = run is_ascii_hexdigit text 3 in
    let number = value 16 (take digits (drop 3 text)) in
    if nat_lt 0 digits && slice_index text (3 + digits) == 125 && nat_le number 1114111 then (4 + digits, Scalar number) else (0, Itself)

abbrev pub is_quote : Delimiter → Bool
is_quote quote = true
is_quote (label name) = false

-- A backslash at the front with what belongs to it: the length, and what it stands for. A backslash that
-- begins no escape stays, and so does a `{` directly behind it.
unfoldable pub escape : Bool → Text → ℕ × Meaning
escape in_quotes text =
    let c = slice_index text 1 in
    if nat_lt 0 (escaped_byte c) then (2, Byte (escaped_byte c))
    else (if in_quotes && c == 34 then (2, Byte 34)
    else (if is_octal_digit c then octal_escape text
    else (if (c == 120 || c == 88) && is_ascii_hexdigit (slice_index text 2) then hexadecimal_escape text
    else (if c == 117 && slice_index text 2 == 123 then scalar_escape text
    else (if c == 123 then (2, Itself) else (1, Itself))))))

-- `\u{` and hexadecimal digits up to the end of the file
abbrev pub is_cut_escape : Text → Bool
is_cut_escape text = length text == 3 + run is_ascii_hexdigit text 3

-- ---- text

-- what ends the template stands at the front
unfoldable pub ends : Delimiter → Text → Bool
ends quote text = slice_index text 0 == 34
ends (label name) text = closes name text

-- a part begins at the front
unfoldable pub begins_part : Text → Bool
begins_part text =
    let c = slice_index text 1 in
    (slice_index text 0 == 36 && (is_name_start c || c == 123)) || (slice_index text 0 == 123 && c == 36)

-- A byte of text or an escape at the front: the length, and what it stands for. No length where the template
-- ends, a part begins, or an escape is malformed.
unfoldable pub stretch : Delimiter → Text → ℕ × Meaning
stretch by text =
    if slice_index text 0 == 92 then escape (is_quote by) text
    else (if ends by text || begins_part text then (0, Itself) else (1, Itself))

-- the UTF-8 form of a number, in three bytes from D800 to DFFF too
abbrev pub utf8 : ℕ → Text
utf8 n =
    if nat_lt n 128 then n ∷ []
    else (if nat_lt n 2048 then (192 + n / 64) ∷ (128 + n % 64) ∷ []
    else (if nat_lt n 65536 then (224 + n / 4096) ∷ (128 + n / 64 % 64) ∷ (128 + n % 64) ∷ []
    else (240 + n / 262144 % 8) ∷ (128 + n / 4096 % 64) ∷ (128 + n / 64 % 64) ∷ (128 + n % 64) ∷ []))

-- what the first bytes of a text stand for
abbrev pub meant : Text → ℕ × Meaning → Text
meant text (len, Itself) = take len text
meant text (len, Byte b) = b ∷ []
meant text (len, Scalar n) = utf8 n

-- How many bytes of text stand before the template ends, a part begins or an escape is malformed. The number
-- counts the bytes that are left of an escape.
abbrev pub text_len_from : ℕ → Delimiter → Text → ℕ
text_len_from left by [] = 0
text_len_from (suc left) by (b ∷ text) = suc (text_len_from left by text)
text_len_from zero by (b ∷ text) =
    let len = (stretch by (b ∷ text)).0 in if len == 0 then 0 else suc (text_len_from (len - 1) by text)

abbrev pub text_len : Delimiter → Text → ℕ
text_len = text_len_from 0

-- what these bytes stand for
abbrev pub text_value_from : ℕ → Delimiter → Text → Text
text_value_from left by [] = []
text_value_from (suc left) by (b ∷ text) = text_value_from left by text
text_value_from zero by (b ∷ text) =
    let found = stretch by (b ∷ text) in
    if found.0 == 0 then [] else meant (b ∷ text) found ++ text_value_from (found.0 - 1) by text

abbrev pub text_value : Delimiter → Text → Text
text_value = text_value_from 0
