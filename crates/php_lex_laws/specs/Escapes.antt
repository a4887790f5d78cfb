-- The bytes and escapes of which the text of a template consists.
use Rattle.std.specs.Prelude.{◌≡◌, ◌⊎◌, [], ◌∷◌, ℕ, zero, suc, ◌+◌, ◌-◌, ◌<◌, ◌≤◌, true, false, ◌||◌, ◌==◌, take, drop, slice_index}
use Rattle.std.specs.Char.{is_ascii_hexdigit}
use Rattle.php_lex_pieces.specs.Bytes.{Text, is_octal_digit}
use Rattle.php_lex_pieces.specs.Numbers.{value}
use Rattle.php_lex_pieces.specs.Templates.{Delimiter, escaped_byte, is_quote, ends, begins_part}
use Rattle.php_lex_laws.specs.Ranges.{AllIn}

-- `\u{`
abbrev pub BeginsScalar : Text → Type 0
BeginsScalar text = (slice_index text 0 ≡ 92) × ((slice_index text 1 ≡ 117) × (slice_index text 2 ≡ 123))

-- k hexadecimal digits of a number up to 10FFFF, and `}`
abbrev pub IsScalar : Text → ℕ → Type 0
IsScalar text k =
    (0 < k) × (AllIn is_ascii_hexdigit (drop 3 text) k × ((slice_index text (3 + k) ≡ 125) × (value 16 (take k (drop 3 text)) ≤ 1114111)))

pub data EscapeForm : Type 0 where
  letter : EscapeForm
  quote_sign : EscapeForm
  octal_digits : EscapeForm
  hexadecimal_digits : EscapeForm
  scalar : EscapeForm
  brace : EscapeForm
  alone : EscapeForm

-- the first n bytes, of which the first is a backslash, have the form; any backslash may stay, alone or with a `{`
abbrev pub HasEscapeForm : Delimiter → EscapeForm → Text → ℕ → Type 0
HasEscapeForm by letter text n = (0 < escaped_byte (slice_index text 1)) × (n ≡ 2)
HasEscapeForm by quote_sign text n = (is_quote by ≡ true) × ((slice_index text 1 ≡ 34) × (n ≡ 2))
HasEscapeForm by octal_digits text n = (k : ℕ) × (((0 < k) × (k ≤ 3)) × (AllIn is_octal_digit (drop 1 text) k × (n ≡ 1 + k)))
HasEscapeForm by hexadecimal_digits text n =
    ((slice_index text 1 == 120 || slice_index text 1 == 88) ≡ true)
    × ((k : ℕ) × (((0 < k) × (k ≤ 2)) × (AllIn is_ascii_hexdigit (drop 2 text) k × (n ≡ 2 + k))))
HasEscapeForm by scalar text n = BeginsScalar text × ((k : ℕ) × (IsScalar text k × (n ≡ 4 + k)))
HasEscapeForm by brace text n = (slice_index text 1 ≡ 123) × (n ≡ 2)
HasEscapeForm by alone text n = n ≡ 1

-- The first n bytes are a backslash with what belongs to it: they have one of the forms, no longer bytes have one, and it
-- is no malformed `\u{`.
pub record IsEscape (by : Delimiter) (text : Text) (n : ℕ) : Type 0 where
  pub form : EscapeForm
  pub backslash : slice_index text 0 ≡ 92
  pub has : HasEscapeForm by form text n
  pub longest : (other : EscapeForm) (m : ℕ) → HasEscapeForm by other text m → m ≤ n
  pub whole : BeginsScalar text → (k : ℕ) × IsScalar text k

-- one byte, with which neither an escape nor a part begins, nor the end of the template
abbrev pub IsPlain : Delimiter → Text → ℕ → Type 0
IsPlain by text n = ((slice_index text 0 == 92) ≡ false) × ((ends by text ≡ false) × ((begins_part text ≡ false) × (n ≡ 1)))

-- The first k bytes are text of a template, byte for byte and escape for escape. The first number counts the bytes that
-- are left of an escape.
abbrev pub IsInside : ℕ → Delimiter → Text → ℕ → Type 0
IsInside left by text zero = left ≡ 0
IsInside left by [] (suc k) = ⊥
IsInside (suc left) by (b ∷ text) (suc k) = IsInside left by text k
IsInside zero by (b ∷ text) (suc k) = (n : ℕ) × ((IsPlain by (b ∷ text) n ⊎ IsEscape by (b ∷ text) n) × IsInside (n - 1) by text k)
