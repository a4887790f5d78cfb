-- The piece that n bytes give has that length.
use Rattle.std.proofs.Common.{◌≡◌, ℕ, Bool, true, false, cond, Option, Some, None, ℤ, refl}
use Rattle.php_lex_pieces.specs.Bytes.{Text}
use Rattle.php_lex.specs.Modes.{Mode, outside, script, quotes, heredoc, braces, block, name_due, name_read, brackets, index, brace_due, subject, member_due, key_due, key_read}
use Rattle.php_lex_pieces.specs.Numbers.{int_key}
use Rattle.php_lex.specs.Pieces.{Piece, is_part_end, number_key}
use Rattle.php_lex_pieces.specs.Templates.{Delimiter, quote, label}
use Rattle.php_lex_laws.specs.Longest.{Form, given}
use Rattle.php_lex_laws.specs.OutsideForms as outer
use Rattle.php_lex_laws.specs.PartForms as part
use Rattle.php_lex_laws.specs.ScriptForms as form
use Rattle.php_lex_laws.specs.TemplateForms as template

one_of_len : (v : Bool) (a b : Piece) (n : ℕ) → a.len ≡ n → b.len ≡ n → (cond v a b).len ≡ n
one_of_len true a b n one two = one
one_of_len false a b n one two = two

script_len : (mode : Mode) (f : form.ScriptForm) (line : ℕ) (text : Text) (n : ℕ) → (form.script_given mode f line text n).len ≡ n
script_len mode form.blanks line text n = refl
script_len mode form.line_comment line text n = refl
script_len mode form.block_comment line text n = refl
script_len mode form.word line text n = refl
script_len mode form.yield_from line text n = refl
script_len mode form.variable line text n = refl
script_len mode form.decimal line text n = refl
script_len mode form.octal line text n = refl
script_len mode form.hexadecimal line text n = refl
script_len mode form.binary line text n = refl
script_len mode form.raw_text line text n = refl
script_len mode form.quoted_text line text n = refl
script_len mode form.opening_quote line text n = refl
script_len mode (form.empty_heredoc l) line text n = refl
script_len mode (form.nowdoc_text l k) line text n = refl
script_len mode (form.heredoc_text l k) line text n = refl
script_len mode (form.heredoc_line l) line text n = refl
script_len mode form.end_tag line text n = refl
script_len mode (form.cast_sign kind) line text n = refl
script_len mode (form.punctuator_sign sign) line text n = one_of_len (is_part_end mode sign) _ _ n refl refl

outside_len : (f : outer.OutsideForm) (text : Text) (n : ℕ) → (outer.outside_given f text n).len ≡ n
outside_len outer.inline text n = refl
outside_len outer.echo_tag text n = refl
outside_len outer.open_tag text n = refl

template_len : (by : Delimiter) (f : template.TemplateForm) (line : ℕ) (text : Text) (n : ℕ) → (template.template_given by f line text n).len ≡ n
template_len by template.template_text line text n = refl
template_len by template.template_end line text n = refl
template_len by template.brace_part line text n = refl
template_len by template.name_part line text n = refl
template_len by template.variable_part line text n = refl

number_len : (begun : ℕ) (text : Text) (n : ℕ) (found : Option ℤ) → (number_key begun text n found).len ≡ n
number_len begun text n None = refl
number_len begun text n (Some int) = refl

key_len_is : (f : part.KeyForm) (begun : ℕ) (text : Text) (n : ℕ) → (part.key_given f begun text n).len ≡ n
key_len_is part.name_key begun text n = refl
key_len_is part.variable_key begun text n = refl
key_len_is (part.decimal_key minus) begun text n = number_len begun text n (int_key text n)
key_len_is (part.hexadecimal_key minus) begun text n = number_len begun text n (int_key text n)
key_len_is (part.binary_key minus) begun text n = number_len begun text n (int_key text n)

subject_len : (f : part.SubjectForm) (begun : ℕ) (text : Text) (n : ℕ) → (part.subject_given f begun text n).len ≡ n
subject_len part.left_bracket begun text n = refl
subject_len part.arrow begun text n = refl

name_end_len : (f : part.NameEndForm) (begun : ℕ) (text : Text) (n : ℕ) → (part.name_end_given f begun text n).len ≡ n
name_end_len part.right_brace begun text n = refl
name_end_len part.left_index begun text n = refl

member_len : (f : part.NameForm) (text : Text) (n : ℕ) → (part.member_given f text n).len ≡ n
member_len part.name text n = refl

name_len_is : (f : part.NameForm) (begun : ℕ) (text : Text) (n : ℕ) → (part.name_given f begun text n).len ≡ n
name_len_is part.name begun text n = refl

key_end_len : (f : part.KeyEndForm) (text : Text) (n : ℕ) → (part.key_end_given f text n).len ≡ n
key_end_len part.right_bracket text n = refl

brace_end_len : (f : part.BraceEndForm) (n : ℕ) → (part.brace_end_given f n).len ≡ n
brace_end_len part.last_brace n = refl

pub given_len : (mode : Mode) (f : Form mode) (line : ℕ) (text : Text) (n : ℕ) → (given mode f line text n).len ≡ n
given_len outside f line text n = outside_len f text n
given_len script f line text n = script_len script f line text n
given_len (quotes begun) f line text n = template_len quote f line text n
given_len (heredoc name begun) f line text n = template_len (label name) f line text n
given_len (braces begun) f line text n = script_len (braces begun) f line text n
given_len block f line text n = script_len block f line text n
given_len (name_due begun) f line text n = name_len_is f begun text n
given_len (name_read begun) f line text n = name_end_len f begun text n
given_len (brackets begun) f line text n = script_len (brackets begun) f line text n
given_len index f line text n = script_len index f line text n
given_len (brace_due begun) f line text n = brace_end_len f n
given_len (subject begun) f line text n = subject_len f begun text n
given_len (member_due begun) f line text n = member_len f text n
given_len (key_due begun) f line text n = key_len_is f begun text n
given_len (key_read begun) f line text n = key_end_len f text n
