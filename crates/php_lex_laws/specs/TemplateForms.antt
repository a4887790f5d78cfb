-- The forms that a piece of double quotes or of a heredoc may have.
use Rattle.std.specs.Prelude.{◌≡◌, ℕ, ◌+◌, ◌-◌, ◌<◌, true, false, if◌then◌else◌, [], length, take, drop, slice_index, Some}
use Rattle.std.specs.Char.{is_ascii_hexdigit}
use Rattle.php_lex.specs.declared.fail.LexFail.{LexFail}
use Rattle.php_lex.specs.declared.fail.LexFail.TheVariants as Fail
use Rattle.php_token.specs.declared.kind.TokenKind.TheVariants as Kind
use Rattle.php_lex_pieces.specs.Bytes.{Text}
use Rattle.php_lex.specs.Modes.{braces, name_due, subject, stay, enter, leave}
use Rattle.php_lex.specs.Pieces.{Piece, draft, one, part_begin, goes_on, closing}
use Rattle.php_lex_pieces.specs.Templates.{Delimiter, ends, text_value}
use Rattle.php_lex_laws.specs.Escapes.{BeginsScalar, IsScalar, IsInside}
use Rattle.php_lex_laws.specs.Ranges.{AllIn, IsName}

pub data TemplateForm : Type 0 where
  template_text : TemplateForm
  template_end : TemplateForm
  brace_part : TemplateForm
  name_part : TemplateForm
  variable_part : TemplateForm

-- the first n bytes of the text have the form
abbrev pub HasTemplateForm : Delimiter → TemplateForm → Text → ℕ → Type 0
HasTemplateForm by template_text text n = (0 < n) × IsInside 0 by text n
HasTemplateForm by template_end text n = (ends by text ≡ true) × (n ≡ closing by text)
HasTemplateForm by brace_part text n = (slice_index text 0 ≡ 123) × ((slice_index text 1 ≡ 36) × (n ≡ 1))
HasTemplateForm by name_part text n = (slice_index text 0 ≡ 36) × ((slice_index text 1 ≡ 123) × (n ≡ 2))
HasTemplateForm by variable_part text n = (slice_index text 0 ≡ 36) × ((k : ℕ) × (IsName (drop 1 text) k × (n ≡ 1 + k)))

-- a variable, which is a part or begins one
abbrev pub variable_given : ℕ → Text → ℕ → Piece
variable_given line text n = record {
  len = n;
  opens_part = true;
  token = Some (draft Kind.Variable (take (n - 1) (drop 1 text)));
  ends_part = if goes_on text n then false else true;
  change = if goes_on text n then enter (subject line) else stay;
}

-- the piece that n bytes of the form are
abbrev pub template_given : Delimiter → TemplateForm → ℕ → Text → ℕ → Piece
template_given by template_text line text n = one Kind.Piece n (text_value by text) stay
template_given by template_end line text n = one Kind.Unquote n [] leave
template_given by brace_part line text n = part_begin n (braces line)
template_given by name_part line text n = part_begin n (name_due line)
template_given by variable_part line text n = variable_given line text n

-- ---- what is no piece

pub data TemplateFault : Type 0 where
  cut_escape : TemplateFault
  bad_escape : TemplateFault

-- k hexadecimal digits up to the end of the file
abbrev pub IsCut : Text → ℕ → Type 0
IsCut text k = AllIn is_ascii_hexdigit (drop 3 text) k × (length text ≡ 3 + k)

abbrev pub IsNoTemplatePiece : TemplateFault → Text → Type 0
IsNoTemplatePiece cut_escape text = BeginsScalar text × ((k : ℕ) × IsCut text k)
IsNoTemplatePiece bad_escape text = BeginsScalar text × (((k : ℕ) → IsCut text k → ⊥) × ((k : ℕ) → IsScalar text k → ⊥))

-- the fault, in a template that begins on the first of the lines
abbrev pub template_fault : TemplateFault → ℕ → ℕ → LexFail
template_fault cut_escape begun line = Fail.Unclosed begun
template_fault bad_escape begun line = Fail.BadEscape line
