-- The forms that a piece of a part without braces may have, and those of a part that `${` opens.
use Rattle.std.specs.Prelude.{◌≡◌, ℕ, ◌+◌, ◌-◌, ◌<◌, Bool, true, false, take, drop, slice_index}
use Rattle.std.specs.Char.{is_ascii_digit, is_ascii_hexdigit}
use Rattle.php_token.specs.declared.kind.Punct.TheVariants as Punct
use Rattle.php_token.specs.declared.kind.TokenKind.TheVariants as Kind
use Rattle.php_lex_pieces.specs.Bytes.{Text, is_binary_digit}
use Rattle.php_lex.specs.Modes.{name_read, brackets, member_due, key_due, key_read, turn}
use Rattle.php_lex_pieces.specs.Numbers.{int_key}
use Rattle.php_lex.specs.Pieces.{Piece, one, written, part_end, last_written, number_key}
use Rattle.php_lex_pieces.specs.Words.{word_kind}
use Rattle.php_lex_laws.specs.Ranges.{AllIn, IsName}
use Rattle.php_lex_laws.specs.ScriptForms.{begins_hexadecimal, begins_binary}

-- ---- behind a variable

pub data SubjectForm : Type 0 where
  left_bracket : SubjectForm
  arrow : SubjectForm

abbrev pub HasSubjectForm : SubjectForm → Text → ℕ → Type 0
HasSubjectForm left_bracket text n = (slice_index text 0 ≡ 91) × (n ≡ 1)
HasSubjectForm arrow text n = (slice_index text 0 ≡ 45) × ((slice_index text 1 ≡ 62) × (n ≡ 2))

abbrev pub subject_given : SubjectForm → ℕ → Text → ℕ → Piece
subject_given left_bracket begun text n = written (Kind.Punct Punct.LeftBracket) n text (turn (key_due begun))
subject_given arrow begun text n = written (Kind.Punct Punct.Arrow) n text (turn (member_due begun))

-- ---- a property

pub data NameForm : Type 0 where
  name : NameForm

abbrev pub HasNameForm : NameForm → Text → ℕ → Type 0
HasNameForm name text n = IsName text n

abbrev pub member_given : NameForm → Text → ℕ → Piece
member_given name text n = last_written (word_kind (take n text)) n text

-- ---- a key

pub data KeyForm : Type 0 where
  name_key : KeyForm
  variable_key : KeyForm
  decimal_key : Bool → KeyForm
  hexadecimal_key : Bool → KeyForm
  binary_key : Bool → KeyForm

-- how many bytes a `-` takes that may stand before a number
abbrev pub IsSigned : Bool → Text → ℕ → Type 0
IsSigned true text at = (slice_index text 0 ≡ 45) × (at ≡ 1)
IsSigned false text at = at ≡ 0

-- digits of a class behind so many bytes
abbrev pub AreDigits : (ℕ → Bool) → Text → ℕ → ℕ → Type 0
AreDigits test text at k = (0 < k) × AllIn test (drop at text) k

-- the first n bytes of the text have the form; where the truth value holds, a `-` stands first
abbrev pub HasKeyForm : KeyForm → Text → ℕ → Type 0
HasKeyForm name_key text n = IsName text n
HasKeyForm variable_key text n = (slice_index text 0 ≡ 36) × ((k : ℕ) × (IsName (drop 1 text) k × (n ≡ 1 + k)))
HasKeyForm (decimal_key minus) text n =
    (at : ℕ) × (IsSigned minus text at × ((k : ℕ) × (AreDigits is_ascii_digit text at k × (n ≡ at + k))))
HasKeyForm (hexadecimal_key minus) text n =
    (at : ℕ) × (IsSigned minus text at × ((slice_index text at ≡ 48) × ((begins_hexadecimal (drop at text) ≡ true)
    × ((k : ℕ) × (AreDigits is_ascii_hexdigit text (at + 2) k × (n ≡ at + 2 + k))))))
HasKeyForm (binary_key minus) text n =
    (at : ℕ) × (IsSigned minus text at × ((slice_index text at ≡ 48) × ((begins_binary (drop at text) ≡ true)
    × ((k : ℕ) × (AreDigits is_binary_digit text (at + 2) k × (n ≡ at + 2 + k))))))

-- a number is an int where it is canonical and fits, and else a text
abbrev pub number_given : ℕ → Text → ℕ → Piece
number_given begun text n = number_key begun text n (int_key text n)

abbrev pub key_given : KeyForm → ℕ → Text → ℕ → Piece
key_given name_key begun text n = written Kind.Str n text (turn (key_read begun))
key_given variable_key begun text n = one Kind.Variable n (take (n - 1) (drop 1 text)) (turn (key_read begun))
key_given (decimal_key minus) begun text n = number_given begun text n
key_given (hexadecimal_key minus) begun text n = number_given begun text n
key_given (binary_key minus) begun text n = number_given begun text n

pub data KeyEndForm : Type 0 where
  right_bracket : KeyEndForm

abbrev pub HasKeyEndForm : KeyEndForm → Text → ℕ → Type 0
HasKeyEndForm right_bracket text n = (slice_index text 0 ≡ 93) × (n ≡ 1)

abbrev pub key_end_given : KeyEndForm → Text → ℕ → Piece
key_end_given right_bracket text n = last_written (Kind.Punct Punct.RightBracket) n text

-- ---- behind `${`

abbrev pub name_given : NameForm → ℕ → Text → ℕ → Piece
name_given name begun text n = written Kind.Variable n text (turn (name_read begun))

pub data NameEndForm : Type 0 where
  right_brace : NameEndForm
  left_index : NameEndForm

abbrev pub HasNameEndForm : NameEndForm → Text → ℕ → Type 0
HasNameEndForm right_brace text n = (slice_index text 0 ≡ 125) × (n ≡ 1)
HasNameEndForm left_index text n = (slice_index text 0 ≡ 91) × (n ≡ 1)

abbrev pub name_end_given : NameEndForm → ℕ → Text → ℕ → Piece
name_end_given right_brace begun text n = part_end n
name_end_given left_index begun text n = written (Kind.Punct Punct.LeftBracket) n text (turn (brackets begun))

pub data BraceEndForm : Type 0 where
  last_brace : BraceEndForm

abbrev pub HasBraceEndForm : BraceEndForm → Text → ℕ → Type 0
HasBraceEndForm last_brace text n = (slice_index text 0 ≡ 125) × (n ≡ 1)

abbrev pub brace_end_given : BraceEndForm → ℕ → Piece
brace_end_given last_brace n = part_end n
