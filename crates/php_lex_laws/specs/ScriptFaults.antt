-- What is no piece of a script, although bytes of a form may stand there.
use Rattle.std.specs.Prelude.{◌≡◌, ◌⊎◌, ℕ, ◌+◌, ◌<◌, Bool, true, false, take, drop, slice_index}
use Rattle.std.specs.Char.{is_ascii_digit, is_ascii_hexdigit}
use Rattle.php_lex.specs.declared.fail.LexFail.{LexFail}
use Rattle.php_lex.specs.declared.fail.LexFail.TheVariants as Fail
use Rattle.php_lex_pieces.specs.Bytes.{Text, is_octal_digit, is_binary_digit}
use Rattle.php_lex_pieces.specs.Comments.{begins_comment, ends_block}
use Rattle.php_lex_pieces.specs.Numbers.{value, greatest_int, goes_on_as_float}
use Rattle.php_lex_pieces.specs.Templates.{closes}
use Rattle.php_lex_laws.specs.Ranges.{AllIn, IsRaw}
use Rattle.php_lex_laws.specs.ScriptForms.{Label, Opens, IsEmpty, name_of, begins_hexadecimal, begins_binary}

pub data ScriptFault : Type 0 where
  endless_comment : ScriptFault
  endless_raw : ScriptFault
  endless_nowdoc : ScriptFault
  float : ScriptFault
  octal_digit : ScriptFault
  large_decimal : ScriptFault
  large_octal : ScriptFault
  large_hexadecimal : ScriptFault
  large_binary : ScriptFault

-- k bytes are of a class, and the byte behind them isn't
abbrev pub AllOf : (ℕ → Bool) → Text → ℕ → Type 0
AllOf test text k = AllIn test text k × (test (slice_index text k) ≡ false)

-- all of the decimal digits there, which no `.` and no exponent makes a float
abbrev pub IsWhole : Text → ℕ → Type 0
IsWhole text k = (0 < k) × (AllOf is_ascii_digit text k × (goes_on_as_float text k ≡ false))

-- all of the digits of a base give a number that is no int
abbrev pub IsTooLarge : ℕ → (ℕ → Bool) → Text → ℕ → Type 0
IsTooLarge base test text k = (0 < k) × (AllOf test text k × (greatest_int < value base (take k text)))

-- no piece stands at the front of the text, nor does a shorter one
abbrev pub IsNoScriptPiece : ScriptFault → Text → Type 0
IsNoScriptPiece endless_comment text = (begins_comment text ≡ true) × ((k : ℕ) → ends_block (drop k (drop 2 text)) ≡ false)
IsNoScriptPiece endless_raw text =
    (slice_index text 0 ≡ 39) × ((k : ℕ) → IsRaw false (drop 1 text) k → slice_index text (1 + k) ≡ 39 → ⊥)
IsNoScriptPiece endless_nowdoc text =
    (l : Label) × (Opens text l × ((l.quote ≡ 39) × (IsEmpty text l false × ((k : ℕ) → closes (name_of text l) (drop k (drop l.start text)) ≡ false))))
IsNoScriptPiece float text =
    ((slice_index text 0 ≡ 46) × (is_ascii_digit (slice_index text 1) ≡ true))
    ⊎ ((k : ℕ) × ((0 < k) × (AllIn is_ascii_digit text k × (goes_on_as_float text k ≡ true))))
IsNoScriptPiece octal_digit text =
    (slice_index text 0 ≡ 48) × ((k : ℕ) × (IsWhole text k × ((i : ℕ) × ((i < k) × (is_octal_digit (slice_index text i) ≡ false)))))
IsNoScriptPiece large_decimal text =
    (slice_index text 0 ≡ 48 → ⊥) × ((k : ℕ) × (IsWhole text k × (greatest_int < value 10 (take k text))))
IsNoScriptPiece large_octal text =
    (slice_index text 0 ≡ 48) × ((k : ℕ) × (IsWhole text k × (AllIn is_octal_digit text k × (greatest_int < value 8 (take k text)))))
IsNoScriptPiece large_hexadecimal text =
    (slice_index text 0 ≡ 48) × ((begins_hexadecimal text ≡ true) × ((k : ℕ) × IsTooLarge 16 is_ascii_hexdigit (drop 2 text) k))
IsNoScriptPiece large_binary text =
    (slice_index text 0 ≡ 48) × ((begins_binary text ≡ true) × ((k : ℕ) × IsTooLarge 2 is_binary_digit (drop 2 text) k))

abbrev pub script_fault : ScriptFault → ℕ → LexFail
script_fault endless_comment line = Fail.Unclosed line
script_fault endless_raw line = Fail.Unclosed line
script_fault endless_nowdoc line = Fail.Unclosed line
script_fault float line = Fail.FloatLiteral line
script_fault octal_digit line = Fail.BadByte line
script_fault large_decimal line = Fail.IntTooLarge line
script_fault large_octal line = Fail.IntTooLarge line
script_fault large_hexadecimal line = Fail.IntTooLarge line
script_fault large_binary line = Fail.IntTooLarge line
