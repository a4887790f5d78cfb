-- The forms that a piece of a script may have, each by its bytes alone, apart from what else may stand there.
use Rattle.std.specs.Prelude.{◌≡◌, ◌⊎◌, [], ◌∷◌, ℕ, ◌+◌, ◌-◌, ◌<◌, ◌≤◌, Bool, true, false, ◌||◌, ◌==◌, if◌then◌else◌, nat_eq, List, length, take, drop, slice_index, Some, codes, pos}
use Rattle.std.specs.Char.{is_ascii_digit, is_ascii_hexdigit}
use Rattle.std.specs.List.{starts_with}
use Rattle.std.specs.Str.{str_eq_ignore_ascii_case}
use Rattle.php_token.specs.declared.kind.Cast.{Cast}
use Rattle.php_token.specs.declared.kind.Keyword.TheVariants as Keyword
use Rattle.php_token.specs.declared.kind.Punct.{Punct}
use Rattle.php_token.specs.declared.kind.Punct.TheVariants as PunctKind
use Rattle.php_token.specs.declared.kind.TokenKind.TheVariants as Kind
use Rattle.php_lex_pieces.specs.Bytes.{Text, is_blank, is_gap, is_name_byte, is_octal_digit, is_binary_digit, newline_len, line_end_len}
use Rattle.php_lex_pieces.specs.Comments.{comment_start_len, ends_comment, begins_comment, ends_block, raw_value}
use Rattle.php_lex.specs.Modes.{Mode, outside, quotes, heredoc, stay, enter}
use Rattle.php_lex_pieces.specs.Numbers.{value, greatest_int}
use Rattle.php_lex.specs.Pieces.{Piece, nothing, one, written, integer, part_end, sign_change, is_part_end}
use Rattle.php_lex_pieces.specs.Punctuators.{punctuators}
use Rattle.php_lex_pieces.specs.Templates.{quote, label, is_label_line, closes, closing_len, text_value}
use Rattle.php_lex_pieces.specs.Words.{cast_words, look_up, word_kind}
use Rattle.php_lex_laws.specs.Escapes.{IsInside}
use Rattle.php_lex_laws.specs.Ranges.{AllIn, NoneAt, FirstAt, IsName, IsRaw}

-- Where a heredoc's label stands: the quote around it or 0, its first byte, its length, and the first byte behind its line.
pub record Label : Type 0 where
  pub quote : ℕ
  pub at : ℕ
  pub len : ℕ
  pub start : ℕ

pub data ScriptForm : Type 0 where
  blanks : ScriptForm
  line_comment : ScriptForm
  block_comment : ScriptForm
  word : ScriptForm
  yield_from : ScriptForm
  variable : ScriptForm
  decimal : ScriptForm
  octal : ScriptForm
  hexadecimal : ScriptForm
  binary : ScriptForm
  raw_text : ScriptForm
  quoted_text : ScriptForm
  opening_quote : ScriptForm
  empty_heredoc : Label → ScriptForm
  nowdoc_text : Label → ℕ → ScriptForm
  heredoc_text : Label → ℕ → ScriptForm
  heredoc_line : Label → ScriptForm
  end_tag : ScriptForm
  cast_sign : Cast → ScriptForm
  punctuator_sign : Punct → ScriptForm

-- ---- heredocs

-- the length of a quote, where there is one
abbrev pub quote_len : ℕ → ℕ
quote_len mark = if mark == 0 then 0 else 1

-- `<<<`, spaces and tabs, a label, plain or between two quotes of one kind, and LF or CR LF
pub record Opens (text : Text) (l : Label) : Type 0 where
  pub signs : ((slice_index text 0 ≡ 60) × ((slice_index text 1 ≡ 60) × (slice_index text 2 ≡ 60)))
  pub gap : ℕ
  pub gaps : AllIn is_gap (drop 3 text) gap
  pub place : l.at ≡ 3 + gap + quote_len l.quote
  pub opened : (l.quote ≡ 0) ⊎ (((l.quote ≡ 34) ⊎ (l.quote ≡ 39)) × (slice_index text (3 + gap) ≡ l.quote))
  pub name : IsName (drop l.at text) l.len
  pub closed : (l.quote ≡ 0) ⊎ (slice_index text (l.at + l.len) ≡ l.quote)
  pub newline : 0 < line_end_len text (l.at + l.len + quote_len l.quote)
  pub start : l.start ≡ l.at + l.len + quote_len l.quote + line_end_len text (l.at + l.len + quote_len l.quote)

abbrev pub name_of : Text → Label → Text
name_of text l = take l.len (drop l.at text)

-- the label directly behind the first line
abbrev pub IsEmpty : Text → Label → Bool → Type 0
IsEmpty text l answer = is_label_line (name_of text l) (drop l.start text) ≡ answer

-- ---- numbers

-- digits of a base that give an int
abbrev pub IsInt : ℕ → (ℕ → Bool) → Text → ℕ → Type 0
IsInt base test text k = (0 < k) × (AllIn test text k × (value base (take k text) ≤ greatest_int))

-- `0x` or `0X`
abbrev pub begins_hexadecimal : Text → Bool
begins_hexadecimal text = slice_index text 1 == 120 || slice_index text 1 == 88

-- `0b` or `0B`
abbrev pub begins_binary : Text → Bool
begins_binary text = slice_index text 1 == 98 || slice_index text 1 == 66

-- ---- signs

-- this punctuator of a table stands at the front, and has n bytes
abbrev pub Matches : List (Text × Punct) → Text → Punct → ℕ → Type 0
Matches [] text sign n = ⊥
Matches (row ∷ rows) text sign n =
    ((starts_with nat_eq text row.0 ≡ true) × ((row.1 ≡ sign) × (length row.0 ≡ n))) ⊎ Matches rows text sign n

-- ---- the forms

-- the first n bytes of the text have the form
abbrev pub HasScriptForm : ScriptForm → Text → ℕ → Type 0
HasScriptForm blanks text n = (0 < n) × AllIn is_blank text n
HasScriptForm line_comment text n =
    (0 < comment_start_len text) × ((k : ℕ) × ((n ≡ comment_start_len text + k)
    × ((n ≤ length text) × NoneAt ends_comment (drop (comment_start_len text) text) k)))
HasScriptForm block_comment text n =
    (begins_comment text ≡ true) × ((k : ℕ) × ((n ≡ 4 + k) × FirstAt ends_block (drop 2 text) k))
HasScriptForm word text n = IsName text n
HasScriptForm yield_from text n =
    (IsName text 5 × (str_eq_ignore_ascii_case (codes "yield") (take 5 text) ≡ true))
    × ((b : ℕ) × (((0 < b) × AllIn is_blank (drop 5 text) b)
    × ((IsName (drop (5 + b) text) 4 × (str_eq_ignore_ascii_case (codes "from") (take 4 (drop (5 + b) text)) ≡ true))
    × ((is_name_byte (slice_index text (9 + b)) ≡ false) × (n ≡ 9 + b)))))
HasScriptForm variable text n = (slice_index text 0 ≡ 36) × ((k : ℕ) × (IsName (drop 1 text) k × (n ≡ 1 + k)))
HasScriptForm decimal text n = IsInt 10 is_ascii_digit text n × ((slice_index text 0 ≡ 48) → n ≡ 1)
HasScriptForm octal text n = (slice_index text 0 ≡ 48) × ((1 < n) × IsInt 8 is_octal_digit text n)
HasScriptForm hexadecimal text n =
    (slice_index text 0 ≡ 48) × ((begins_hexadecimal text ≡ true) × ((k : ℕ) × ((n ≡ 2 + k) × IsInt 16 is_ascii_hexdigit (drop 2 text) k)))
HasScriptForm binary text n =
    (slice_index text 0 ≡ 48) × ((begins_binary text ≡ true) × ((k : ℕ) × ((n ≡ 2 + k) × IsInt 2 is_binary_digit (drop 2 text) k)))
HasScriptForm raw_text text n =
    (slice_index text 0 ≡ 39) × ((k : ℕ) × ((n ≡ k + 2) × (IsRaw false (drop 1 text) k × (slice_index text (1 + k) ≡ 39))))
HasScriptForm quoted_text text n =
    (slice_index text 0 ≡ 34) × ((k : ℕ) × ((n ≡ k + 2) × (IsInside 0 quote (drop 1 text) k × (slice_index text (1 + k) ≡ 34))))
HasScriptForm opening_quote text n = (slice_index text 0 ≡ 34) × (n ≡ 1)
HasScriptForm (empty_heredoc l) text n = Opens text l × (IsEmpty text l true × (n ≡ l.start + l.len))
HasScriptForm (nowdoc_text l k) text n =
    Opens text l × ((l.quote ≡ 39) × (IsEmpty text l false × (FirstAt (closes (name_of text l)) (drop l.start text) k
    × (n ≡ l.start + k + closing_len (name_of text l) (drop k (drop l.start text))))))
HasScriptForm (heredoc_text l k) text n =
    Opens text l × (((l.quote == 39) ≡ false) × (IsEmpty text l false × ((IsInside 0 (label (name_of text l)) (drop l.start text) k
    × (closes (name_of text l) (drop k (drop l.start text)) ≡ true))
    × (n ≡ l.start + k + closing_len (name_of text l) (drop k (drop l.start text))))))
HasScriptForm (heredoc_line l) text n = Opens text l × (((l.quote == 39) ≡ false) × (n ≡ l.start))
HasScriptForm end_tag text n = (slice_index text 0 ≡ 63) × ((slice_index text 1 ≡ 62) × (n ≡ 2 + newline_len text 2))
HasScriptForm (cast_sign kind) text n =
    (slice_index text 0 ≡ 40) × ((a : ℕ) × ((k : ℕ) × ((b : ℕ) × ((AllIn is_gap (drop 1 text) a
    × ((IsName (drop (1 + a) text) k × (look_up cast_words (take k (drop (1 + a) text)) ≡ Some kind))
    × (AllIn is_gap (drop (1 + a + k) text) b × (slice_index text (1 + a + k + b) ≡ 41))))
    × (n ≡ 2 + a + k + b)))))
HasScriptForm (punctuator_sign sign) text n = Matches punctuators text sign n

-- ---- what the forms give

-- a sign of its own, or the `}` that ends a part in braces
abbrev pub sign_given : Mode → Punct → Text → ℕ → Piece
sign_given mode sign text n = if is_part_end mode sign then part_end n else written (Kind.Punct sign) n text (sign_change mode sign)

-- the piece that n bytes of the form are
abbrev pub script_given : Mode → ScriptForm → ℕ → Text → ℕ → Piece
script_given mode blanks line text n = nothing n stay
script_given mode line_comment line text n = nothing n stay
script_given mode block_comment line text n = nothing n stay
script_given mode word line text n = written (word_kind (take n text)) n text stay
script_given mode yield_from line text n = written (Kind.Keyword Keyword.YieldFrom) n text stay
script_given mode variable line text n = one Kind.Variable n (take (n - 1) (drop 1 text)) stay
script_given mode decimal line text n = integer n (pos (value 10 (take n text))) stay
script_given mode octal line text n = integer n (pos (value 8 (take n text))) stay
script_given mode hexadecimal line text n = integer n (pos (value 16 (take (n - 2) (drop 2 text)))) stay
script_given mode binary line text n = integer n (pos (value 2 (take (n - 2) (drop 2 text)))) stay
script_given mode raw_text line text n = one Kind.Str n (raw_value false (take (n - 2) (drop 1 text))) stay
script_given mode quoted_text line text n = one Kind.Str n (text_value quote (drop 1 text)) stay
script_given mode opening_quote line text n = one Kind.Quote n [] (enter (quotes line))
script_given mode (empty_heredoc l) line text n = one Kind.Str n [] stay
script_given mode (nowdoc_text l k) line text n = one Kind.Str n (take k (drop l.start text)) stay
script_given mode (heredoc_text l k) line text n = one Kind.Str n (text_value (label (name_of text l)) (drop l.start text)) stay
script_given mode (heredoc_line l) line text n = one Kind.Quote n [] (enter (heredoc (name_of text l) line))
script_given mode end_tag line text n = one (Kind.Punct PunctKind.Semicolon) n (codes ";") (enter outside)
script_given mode (cast_sign kind) line text n = written (Kind.Cast kind) n text stay
script_given mode (punctuator_sign sign) line text n = sign_given mode sign text n
