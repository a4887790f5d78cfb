-- Small texts in templates and parts, and texts at whose front no piece stands.
use Rattle.std.proofs.Common.{true, false, ◌++◌, drop, refl, ◌∙◌, arith, inl, inr}
use Rattle.std.specs.Prelude.{codes}
use Rattle.std.specs.Char.{is_ascii_digit, is_ascii_hexdigit}
use Rattle.php_lex_pieces.specs.Bytes.{Text, is_gap, is_octal_digit, is_binary_digit}
use Rattle.php_lex.specs.Modes.{script, quotes, heredoc, name_due, name_read, brace_due, subject, member_due, key_due, key_read}
use Rattle.php_lex_pieces.specs.Comments as Comments
use Rattle.php_lex_pieces.specs.Templates as Templates
use Rattle.php_lex_laws.specs.Escapes.{IsEscape}
use Rattle.php_lex_laws.specs.Longest.{IsPieceAt, IsNoPiece}
use Rattle.php_lex_laws.specs.PartForms as part
use Rattle.php_lex_laws.specs.ScriptFaults as fault
use Rattle.php_lex_laws.specs.ScriptForms as form
use Rattle.php_lex_laws.specs.TemplateForms as template
use Rattle.php_lex_laws.proofs.InsideLemmas.{inside_len}
use Rattle.php_lex_laws.proofs.LongestLemmas.{piece_at}
use Rattle.php_lex_laws.proofs.RangeLemmas.{no_both, behind, run_all, before_none, name_there, raw_is}
use Rattle.php_lex_laws.proofs.TemplateCases.{cut_is}
use Rattle.php_lex_laws.proofs.EscapeLemmas.{escape_has, scalar_some}
use Rattle.php_lex_laws.proofs.ExampleParts.{read, less, some, newline}

-- ---- in a template

-- a `{` behind a backslash is text
template_text : IsPieceAt (quotes 1) (codes "a\\x41\\{$b") 7 template.template_text
unfolding read
template_text =
    let text : Text = codes "a\\x41\\{$b" in
    piece_at (quotes 1) 1 text _ template.template_text refl (some refl, inside_len Templates.quote text)

template_end : IsPieceAt (quotes 1) (codes "\"a") 1 template.template_end
unfolding read
template_end =
    let text : Text = codes "\"a" in
    piece_at (quotes 1) 1 text _ template.template_end refl (refl, refl)

heredoc_end : IsPieceAt (heredoc (codes "E") 1) (newline ++ codes "E;") 2 template.template_end
unfolding read
heredoc_end =
    let text : Text = newline ++ codes "E;" in
    piece_at (heredoc (codes "E") 1) 1 text _ template.template_end refl (refl, refl)

brace_part : IsPieceAt (quotes 1) (codes "{$a}") 1 template.brace_part
unfolding read
brace_part =
    let text : Text = codes "{$a}" in
    piece_at (quotes 1) 1 text _ template.brace_part refl (refl, (refl, refl))

name_part : IsPieceAt (quotes 1) (codes "${a}") 2 template.name_part
unfolding read
name_part =
    let text : Text = codes "${a}" in
    piece_at (quotes 1) 1 text _ template.name_part refl (refl, (refl, refl))

variable_part : IsPieceAt (quotes 1) (codes "$a[0]") 2 template.variable_part
unfolding read
variable_part =
    let text : Text = codes "$a[0]" in
    piece_at (quotes 1) 1 text _ template.variable_part refl (refl, (1, (name_there text 1 (some refl), refl)))

-- ---- escapes

letter : IsEscape Templates.quote (codes "\\na") 2
unfolding read
letter = escape_has Templates.quote (codes "\\na") refl (some refl)

quote_sign : IsEscape Templates.quote (codes "\\\"a") 2
unfolding read
quote_sign = escape_has Templates.quote (codes "\\\"a") refl (some refl)

-- in a heredoc the backslash stays
no_quote_sign : IsEscape (Templates.label (codes "E")) (codes "\\\"a") 1
unfolding read
no_quote_sign = escape_has (Templates.label (codes "E")) (codes "\\\"a") refl (some refl)

octal_digits : IsEscape Templates.quote (codes "\\1018") 4
unfolding read
octal_digits = escape_has Templates.quote (codes "\\1018") refl (some refl)

hexadecimal_digits : IsEscape Templates.quote (codes "\\X4g") 3
unfolding read
hexadecimal_digits = escape_has Templates.quote (codes "\\X4g") refl (some refl)

no_hexadecimal_digits : IsEscape Templates.quote (codes "\\xg") 1
unfolding read
no_hexadecimal_digits = escape_has Templates.quote (codes "\\xg") refl (some refl)

scalar : IsEscape Templates.quote (codes "\\u{10FFFF}a") 10
unfolding read
scalar = escape_has Templates.quote (codes "\\u{10FFFF}a") refl (some refl)

brace : IsEscape Templates.quote (codes "\\{$a}") 2
unfolding read
brace = escape_has Templates.quote (codes "\\{$a}") refl (some refl)

alone : IsEscape Templates.quote (codes "\\u") 1
unfolding read
alone = escape_has Templates.quote (codes "\\u") refl (some refl)

-- ---- in a part

left_bracket : IsPieceAt (subject 1) (codes "[0]") 1 part.left_bracket
unfolding read
left_bracket =
    let text : Text = codes "[0]" in
    piece_at (subject 1) 1 text _ part.left_bracket refl (refl, refl)

arrow : IsPieceAt (subject 1) (codes "->a") 2 part.arrow
unfolding read
arrow =
    let text : Text = codes "->a" in
    piece_at (subject 1) 1 text _ part.arrow refl (refl, (refl, refl))

member : IsPieceAt (member_due 1) (codes "class->") 5 part.name
unfolding read
member =
    let text : Text = codes "class->" in
    piece_at (member_due 1) 1 text _ part.name refl (name_there text 0 (some refl))

name_key : IsPieceAt (key_due 1) (codes "list]") 4 part.name_key
unfolding read
name_key =
    let text : Text = codes "list]" in
    piece_at (key_due 1) 1 text _ part.name_key refl (name_there text 0 (some refl))

variable_key : IsPieceAt (key_due 1) (codes "$k]") 2 part.variable_key
unfolding read
variable_key =
    let text : Text = codes "$k]" in
    piece_at (key_due 1) 1 text _ part.variable_key refl (refl, (1, (name_there text 1 (some refl), refl)))

-- what is a fault in a script is none in a key
decimal_key : IsPieceAt (key_due 1) (codes "-08.5]") 3 (part.decimal_key true)
unfolding read
decimal_key =
    let text : Text = codes "-08.5]" in
    piece_at (key_due 1) 1 text _ (part.decimal_key true) refl (1, ((refl, refl), (2, ((some refl, run_all is_ascii_digit (codes "08.5]")), refl))))

hexadecimal_key : IsPieceAt (key_due 1) (codes "0x1F]") 4 (part.hexadecimal_key false)
unfolding read
hexadecimal_key =
    let text : Text = codes "0x1F]" in
    piece_at (key_due 1) 1 text _ (part.hexadecimal_key false) refl (0, (refl, (refl, (refl, (2, ((some refl, run_all is_ascii_hexdigit (codes "1F]")), refl))))))

binary_key : IsPieceAt (key_due 1) (codes "-0b1]") 4 (part.binary_key true)
unfolding read
binary_key =
    let text : Text = codes "-0b1]" in
    piece_at (key_due 1) 1 text _ (part.binary_key true) refl (1, ((refl, refl), (refl, (refl, (1, ((some refl, run_all is_binary_digit (codes "1]")), refl))))))

right_bracket : IsPieceAt (key_read 1) (codes "]") 1 part.right_bracket
unfolding read
right_bracket =
    let text : Text = codes "]" in
    piece_at (key_read 1) 1 text _ part.right_bracket refl (refl, refl)

part_name : IsPieceAt (name_due 1) (codes "n[0]") 1 part.name
unfolding read
part_name =
    let text : Text = codes "n[0]" in
    piece_at (name_due 1) 1 text _ part.name refl (name_there text 0 (some refl))

right_brace : IsPieceAt (name_read 1) (codes "}") 1 part.right_brace
unfolding read
right_brace =
    let text : Text = codes "}" in
    piece_at (name_read 1) 1 text _ part.right_brace refl (refl, refl)

left_index : IsPieceAt (name_read 1) (codes "[0]}") 1 part.left_index
unfolding read
left_index =
    let text : Text = codes "[0]}" in
    piece_at (name_read 1) 1 text _ part.left_index refl (refl, refl)

last_brace : IsPieceAt (brace_due 1) (codes "}") 1 part.last_brace
unfolding read
last_brace =
    let text : Text = codes "}" in
    piece_at (brace_due 1) 1 text _ part.last_brace refl (refl, refl)

-- ---- what is no piece

endless_comment : IsNoPiece script fault.endless_comment (codes "/*a*")
unfolding read
endless_comment =
    let text : Text = codes "/*a*" in
    (refl, before_none Comments.ends_block (codes "a*") refl refl)

endless_raw : IsNoPiece script fault.endless_raw (codes "'a\\'")
unfolding read
endless_raw =
    let text : Text = codes "'a\\'" in
    (refl, λ k raw closes. let told = raw_is false (codes "a\\'") k raw (behind 1 text k ∙ closes) in omega (arith, told.0, told.1))

endless_nowdoc : IsNoPiece script fault.endless_nowdoc (codes "<<<'E'" ++ newline ++ codes "E a")
unfolding read
endless_nowdoc =
    let text : Text = codes "<<<'E'" ++ newline ++ codes "E a" in
    let l : form.Label = record { quote = 39; at = 4; len = 1; start = 7 } in
    let o : form.Opens text l = record {
      signs = (refl, (refl, refl));
      gap = 0;
      gaps = run_all is_gap (drop 3 text);
      place = refl;
      opened = inr (inr refl, refl);
      name = name_there text 4 (some refl);
      closed = inr refl;
      newline = some refl;
      start = refl;
    } in
    (l, (o, (refl, (refl, before_none (Templates.closes (codes "E")) (codes "E a") refl refl))))

float_point : IsNoPiece script fault.float (codes ".5")
unfolding read
float_point =
    let text : Text = codes ".5" in
    inl (refl, refl)

-- before `..` too
float_digits : IsNoPiece script fault.float (codes "09..")
unfolding read
float_digits =
    let text : Text = codes "09.." in
    inr (2, (some refl, (run_all is_ascii_digit text, refl)))

float_exponent : IsNoPiece script fault.float (codes "1E+2")
unfolding read
float_exponent =
    let text : Text = codes "1E+2" in
    inr (1, (some refl, (run_all is_ascii_digit text, refl)))

octal_digit : IsNoPiece script fault.octal_digit (codes "08")
unfolding read
octal_digit =
    let text : Text = codes "08" in
    (refl, (2, ((some refl, ((run_all is_ascii_digit text, refl), refl)), (1, (less 1 2 refl, refl)))))

large_decimal : IsNoPiece script fault.large_decimal (codes "9223372036854775808")
unfolding read
large_decimal =
    let text : Text = codes "9223372036854775808" in
    ((λ is. omega (arith, is)), (19, ((some refl, ((run_all is_ascii_digit text, refl), refl)), less _ _ refl)))

large_octal : IsNoPiece script fault.large_octal (codes "01000000000000000000000")
unfolding read
large_octal =
    let text : Text = codes "01000000000000000000000" in
    (refl, (23, ((some refl, ((run_all is_ascii_digit text, refl), refl)), (run_all is_octal_digit text, less _ _ refl))))

large_hexadecimal : IsNoPiece script fault.large_hexadecimal (codes "0x8000000000000000")
unfolding read
large_hexadecimal =
    let text : Text = codes "0x8000000000000000" in
    (refl, (refl, (16, (some refl, ((run_all is_ascii_hexdigit (codes "8000000000000000"), refl), less _ _ refl)))))

large_binary : IsNoPiece script fault.large_binary (codes "0b1000000000000000000000000000000000000000000000000000000000000000")
unfolding read
large_binary =
    let text : Text = codes "0b1000000000000000000000000000000000000000000000000000000000000000" in
    (refl, (refl, (64, (some refl, ((run_all is_binary_digit (drop 2 text), refl), less _ _ refl)))))

cut_escape : IsNoPiece (quotes 1) template.cut_escape (codes "\\u{41")
unfolding read
cut_escape =
    let text : Text = codes "\\u{41" in
    ((refl, (refl, refl)), (2, (run_all is_ascii_hexdigit (codes "41"), refl)))

bad_escape : IsNoPiece (quotes 1) template.bad_escape (codes "\\u{110000}")
unfolding read
bad_escape =
    let text : Text = codes "\\u{110000}" in
    ((refl, (refl, refl)), ((λ k cut. no_both (Templates.is_cut_escape text) (cut_is text k cut) refl), λ k whole. let over = scalar_some text k whole in omega (arith, over)))
