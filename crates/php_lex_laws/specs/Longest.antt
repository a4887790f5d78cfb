-- What a piece is, in each mode, by its bytes: they have a form of the mode, and no longer bytes have one.
use Rattle.std.specs.Prelude.{◌≡◌, ◌⊎◌, ℕ, ◌≤◌}
use Rattle.php_lex.specs.declared.fail.LexFail.{LexFail}
use Rattle.php_lex.specs.declared.fail.LexFail.TheVariants as Fail
use Rattle.php_lex_pieces.specs.Bytes.{Text}
use Rattle.php_lex.specs.Modes.{Mode, outside, script, quotes, heredoc, braces, block, name_due, name_read, brackets, index, brace_due, subject, member_due, key_due, key_read}
use Rattle.php_lex.specs.Pieces.{Piece}
use Rattle.php_lex_pieces.specs.Templates.{quote, label}
use Rattle.php_lex_laws.specs.OutsideForms.{OutsideForm, HasOutsideForm, outside_given}
use Rattle.php_lex_laws.specs.PartForms.{SubjectForm, HasSubjectForm, subject_given, NameForm, HasNameForm, member_given, name_given, KeyForm, HasKeyForm, key_given, KeyEndForm, HasKeyEndForm, key_end_given, NameEndForm, HasNameEndForm, name_end_given, BraceEndForm, HasBraceEndForm, brace_end_given}
use Rattle.php_lex_laws.specs.ScriptFaults.{ScriptFault, IsNoScriptPiece, script_fault}
use Rattle.php_lex_laws.specs.ScriptForms.{ScriptForm, HasScriptForm, script_given}
use Rattle.php_lex_laws.specs.TemplateForms.{TemplateForm, HasTemplateForm, template_given, TemplateFault, IsNoTemplatePiece, template_fault}

-- the forms of a mode
abbrev pub Form : Mode → Type 0
Form outside = OutsideForm
Form script = ScriptForm
Form (quotes begun) = TemplateForm
Form (heredoc name begun) = TemplateForm
Form (braces begun) = ScriptForm
Form block = ScriptForm
Form (name_due begun) = NameForm
Form (name_read begun) = NameEndForm
Form (brackets begun) = ScriptForm
Form index = ScriptForm
Form (brace_due begun) = BraceEndForm
Form (subject begun) = SubjectForm
Form (member_due begun) = NameForm
Form (key_due begun) = KeyForm
Form (key_read begun) = KeyEndForm

-- the first n bytes of the text have the form
abbrev pub HasForm : (mode : Mode) → Form mode → Text → ℕ → Type 0
HasForm outside form text n = HasOutsideForm form text n
HasForm script form text n = HasScriptForm form text n
HasForm (quotes begun) form text n = HasTemplateForm quote form text n
HasForm (heredoc name begun) form text n = HasTemplateForm (label name) form text n
HasForm (braces begun) form text n = HasScriptForm form text n
HasForm block form text n = HasScriptForm form text n
HasForm (name_due begun) form text n = HasNameForm form text n
HasForm (name_read begun) form text n = HasNameEndForm form text n
HasForm (brackets begun) form text n = HasScriptForm form text n
HasForm index form text n = HasScriptForm form text n
HasForm (brace_due begun) form text n = HasBraceEndForm form text n
HasForm (subject begun) form text n = HasSubjectForm form text n
HasForm (member_due begun) form text n = HasNameForm form text n
HasForm (key_due begun) form text n = HasKeyForm form text n
HasForm (key_read begun) form text n = HasKeyEndForm form text n

-- the piece that n bytes of the form are, on that line: their tokens, and what they open and end
abbrev pub given : (mode : Mode) → Form mode → ℕ → Text → ℕ → Piece
given outside form line text n = outside_given form text n
given script form line text n = script_given script form line text n
given (quotes begun) form line text n = template_given quote form line text n
given (heredoc name begun) form line text n = template_given (label name) form line text n
given (braces begun) form line text n = script_given (braces begun) form line text n
given block form line text n = script_given block form line text n
given (name_due begun) form line text n = name_given form begun text n
given (name_read begun) form line text n = name_end_given form begun text n
given (brackets begun) form line text n = script_given (brackets begun) form line text n
given index form line text n = script_given index form line text n
given (brace_due begun) form line text n = brace_end_given form n
given (subject begun) form line text n = subject_given form begun text n
given (member_due begun) form line text n = member_given form text n
given (key_due begun) form line text n = key_given form begun text n
given (key_read begun) form line text n = key_end_given form text n

-- what bars every piece, a shorter one too, although bytes of a form may stand there
abbrev pub Exception : Mode → Type 0
Exception outside = ⊥
Exception script = ScriptFault
Exception (quotes begun) = TemplateFault
Exception (heredoc name begun) = TemplateFault
Exception (braces begun) = ScriptFault
Exception block = ScriptFault
Exception (name_due begun) = ⊥
Exception (name_read begun) = ⊥
Exception (brackets begun) = ScriptFault
Exception index = ScriptFault
Exception (brace_due begun) = ⊥
Exception (subject begun) = ⊥
Exception (member_due begun) = ⊥
Exception (key_due begun) = ⊥
Exception (key_read begun) = ⊥

abbrev pub IsNoPiece : (mode : Mode) → Exception mode → Text → Type 0
IsNoPiece outside exception text = ⊥
IsNoPiece script exception text = IsNoScriptPiece exception text
IsNoPiece (quotes begun) exception text = IsNoTemplatePiece exception text
IsNoPiece (heredoc name begun) exception text = IsNoTemplatePiece exception text
IsNoPiece (braces begun) exception text = IsNoScriptPiece exception text
IsNoPiece block exception text = IsNoScriptPiece exception text
IsNoPiece (name_due begun) exception text = ⊥
IsNoPiece (name_read begun) exception text = ⊥
IsNoPiece (brackets begun) exception text = IsNoScriptPiece exception text
IsNoPiece index exception text = IsNoScriptPiece exception text
IsNoPiece (brace_due begun) exception text = ⊥
IsNoPiece (subject begun) exception text = ⊥
IsNoPiece (member_due begun) exception text = ⊥
IsNoPiece (key_due begun) exception text = ⊥
IsNoPiece (key_read begun) exception text = ⊥

-- the fault where one of the exceptions stands
abbrev pub fault_of : (mode : Mode) → Exception mode → ℕ → LexFail
fault_of outside exception line = Fail.BadByte line
fault_of script exception line = script_fault exception line
fault_of (quotes begun) exception line = template_fault exception begun line
fault_of (heredoc name begun) exception line = template_fault exception begun line
fault_of (braces begun) exception line = script_fault exception line
fault_of block exception line = script_fault exception line
fault_of (name_due begun) exception line = Fail.BadEscape line
fault_of (name_read begun) exception line = Fail.BadEscape line
fault_of (brackets begun) exception line = script_fault exception line
fault_of index exception line = script_fault exception line
fault_of (brace_due begun) exception line = Fail.BadEscape line
fault_of (subject begun) exception line = Fail.BadEscape line
fault_of (member_due begun) exception line = Fail.BadEscape line
fault_of (key_due begun) exception line = Fail.BadEscape line
fault_of (key_read begun) exception line = Fail.BadEscape line

-- The fault where no bytes have a form of the mode, and no exception stands. Outside the tags and in a template there is
-- always a form or an exception.
abbrev pub IsOtherFault : Mode → ℕ → LexFail → Type 0
IsOtherFault outside line fault = ⊥
IsOtherFault script line fault = fault ≡ Fail.BadByte line
IsOtherFault (quotes begun) line fault = ⊥
IsOtherFault (heredoc name begun) line fault = ⊥
IsOtherFault (braces begun) line fault = fault ≡ Fail.BadByte line
IsOtherFault block line fault = fault ≡ Fail.BadByte line
IsOtherFault (name_due begun) line fault = fault ≡ Fail.BadEscape line
IsOtherFault (name_read begun) line fault = fault ≡ Fail.BadEscape line
IsOtherFault (brackets begun) line fault = fault ≡ Fail.BadByte line
IsOtherFault index line fault = fault ≡ Fail.BadByte line
IsOtherFault (brace_due begun) line fault = fault ≡ Fail.BadEscape line
IsOtherFault (subject begun) line fault = fault ≡ Fail.BadEscape line
IsOtherFault (member_due begun) line fault = fault ≡ Fail.BadEscape line
IsOtherFault (key_due begun) line fault = fault ≡ Fail.BadEscape line
IsOtherFault (key_read begun) line fault = fault ≡ Fail.BadEscape line

-- no exception stands at the front of the text
abbrev pub NoException : Mode → Text → Type 0
NoException mode text = (exception : Exception mode) → IsNoPiece mode exception text → ⊥

-- no bytes at the front of the text have a form
abbrev pub NoForm : Mode → Text → Type 0
NoForm mode text = (form : Form mode) (n : ℕ) → HasForm mode form text n → ⊥

-- The first n bytes are a piece of the mode: they have that form, no longer bytes have a form of the mode, and no
-- exception stands there.
pub record IsPieceAt (mode : Mode) (text : Text) (n : ℕ) (form : Form mode) : Type 0 where
  pub has : HasForm mode form text n
  pub longest : (other : Form mode) (m : ℕ) → HasForm mode other text m → m ≤ n
  pub no_exception : NoException mode text

-- No piece stands at the front of the text, for that fault: one of the exceptions does, or no bytes have a form.
abbrev pub IsFaultAt : Mode → ℕ → Text → LexFail → Type 0
IsFaultAt mode line text fault =
    ((exception : Exception mode) × (IsNoPiece mode exception text × (fault ≡ fault_of mode exception line)))
    ⊎ ((NoForm mode text × NoException mode text) × IsOtherFault mode line fault)
