-- Bytes of a text, and runs of bytes of one class. Past the end a text reads as 0.
use Rattle.std.specs.Prelude.{ℕ, suc, ◌+◌, Bool, ◌&&◌, ◌||◌, if◌then◌else◌, ◌==◌, nat_le, List, [], ◌∷◌, drop, slice_index}
use Rattle.std.specs.Char.{is_ascii_alphabetic, is_ascii_digit, is_ascii_hexdigit}
use Rattle.php_lex_pieces.specs.declared.bytes.Class.{Class}
use Rattle.php_lex_pieces.specs.declared.bytes.Class.TheVariants as class
use Rattle.std.specs.List.{prefix_len}

abbrev pub Text : Type 0
Text = List ℕ

-- space, tab, LF, CR
abbrev pub is_blank : ℕ → Bool
is_blank b = b == 32 || b == 9 || b == 10 || b == 13

-- space, tab
abbrev pub is_gap : ℕ → Bool
is_gap b = b == 32 || b == 9

-- an ASCII letter, `_` or a byte from 128 up
abbrev pub is_name_start : ℕ → Bool
is_name_start b = is_ascii_alphabetic b || b == 95 || nat_le 128 b

abbrev pub is_name_byte : ℕ → Bool
is_name_byte b = is_name_start b || is_ascii_digit b

abbrev pub is_octal_digit : ℕ → Bool
is_octal_digit b = nat_le 48 b && nat_le b 55

abbrev pub is_binary_digit : ℕ → Bool
is_binary_digit b = b == 48 || b == 49

-- the test of a class
abbrev pub is_in : Class → ℕ → Bool
is_in class.Blank b = is_blank b
is_in class.Gap b = is_gap b
is_in class.Name b = is_name_byte b
is_in class.Digit b = is_ascii_digit b
is_in class.Octal b = is_octal_digit b
is_in class.Hexadecimal b = is_ascii_hexdigit b
is_in class.Binary b = is_binary_digit b

-- how many bytes of the class stand at a place, one directly after the other
abbrev pub run : (ℕ → Bool) → Text → ℕ → ℕ
run test text at = prefix_len test (drop at text)

-- the length of the name that begins at a place, or 0
abbrev pub name_len : Text → ℕ → ℕ
name_len text at = if is_name_start (slice_index text at) then run is_name_byte text at else 0

-- the length of the LF, CR LF or CR at a place, or 0
abbrev pub newline_len : Text → ℕ → ℕ
newline_len text at =
    let b = slice_index text at in
    if b == 10 then 1 else (if b == 13 then (if slice_index text (at + 1) == 10 then 2 else 1) else 0)

-- the same, where a CR alone is no newline
abbrev pub line_end_len : Text → ℕ → ℕ
line_end_len text at =
    let b = slice_index text at in
    if b == 10 then 1 else (if b == 13 && slice_index text (at + 1) == 10 then 2 else 0)

-- how many bytes stand before the first place from which the test holds; all of them where there is none
abbrev pub len_before : (Text → Bool) → Text → ℕ
len_before test [] = 0
len_before test (b ∷ text) = if test (b ∷ text) then 0 else suc (len_before test text)
