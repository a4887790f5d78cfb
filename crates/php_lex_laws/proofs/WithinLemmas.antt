-- Bytes of a form are at least one, and lie in the text.
use Rattle.std.proofs.Common.{◌≡◌, ℕ, zero, suc, ◌+◌, ◌-◌, ◌<◌, ◌≤◌, Bool, true, false, ◌&&◌, nat_eq, nat_lt, cond, [], ◌∷◌, length, length-drop, drop, take, refl, sym, ap, ◌∙◌, arith, ⊎_elim}
use Rattle.std.specs.Prelude.{slice_index, ◌==◌}
use Rattle.std.specs.Char.{is_ascii_digit, is_ascii_hexdigit}
use Rattle.std.specs.List.{starts_with}
use Rattle.std.proofs.lemmas.Grind.{common_steps}
use Rattle.std.proofs.lemmas.List.Sums.{prefix_len-le-length}
use Rattle.std.proofs.lemmas.Slice.Eq.{bytes_eq-Decides}
use Rattle.php_lex_pieces.specs.Bytes.{Text, is_blank, is_octal_digit, is_binary_digit, newline_len, line_end_len}
use Rattle.php_lex_pieces.specs.Comments.{ends_block, begins_echo}
use Rattle.php_lex.specs.Modes.{Mode, outside, script, quotes, heredoc, braces, block, name_due, name_read, brackets, index, brace_due, subject, member_due, key_due, key_read}
use Rattle.php_lex_pieces.specs.Templates.{Delimiter, quote, label, ends, ends_line, is_label_line, closes, closing_len}
use Rattle.php_lex_laws.specs.Longest.{Form, HasForm}
use Rattle.php_lex_laws.specs.OutsideForms as outer
use Rattle.php_lex_laws.specs.PartForms as part
use Rattle.php_lex_laws.specs.Escapes.{IsInside}
use Rattle.php_lex_laws.specs.Ranges.{AllIn, IsName}
use Rattle.php_lex_laws.specs.ScriptForms as form
use Rattle.php_lex_laws.specs.TemplateForms as template
use Rattle.php_lex_laws.proofs.InsideLemmas.{byte_past}
use Rattle.php_lex_laws.proofs.LabelLemmas.{label_long, name_len_is, closing_some}
use Rattle.php_lex_laws.proofs.RangeLemmas.{chosen, same_byte, is_over, and_left, and_right, run_reaches, behind}
use Rattle.php_lex_laws.proofs.SignLemmas.{sign_short, sign_within}
use Rattle.php_lex_laws.proofs.WordLemmas.{name_within}

abbrev pub Lies : Text → ℕ → Type 0
Lies text n = (0 < n) × (n ≤ length text)

all_within : (test : ℕ → Bool) (text : Text) (k : ℕ) → test 0 ≡ false → AllIn test text k → k ≤ length text
all_within test text k no_end all = omega (arith, run_reaches test text k no_end all, prefix_len-le-length test text)

-- what lies behind some bytes
behind_within : (text : Text) (at k : ℕ) → 0 < k → k ≤ length (drop at text) → at + k ≤ length text
behind_within text at k some within = omega (arith, some, within, length-drop at text)

digits_within : (test : ℕ → Bool) (text : Text) (at k : ℕ) → test 0 ≡ false → 0 < k → AllIn test (drop at text) k → at + k ≤ length text
digits_within test text at k no_end some all = behind_within text at k some (all_within test (drop at text) k no_end all)

name_behind : (text : Text) (at k : ℕ) → IsName (drop at text) k → at + k ≤ length text
name_behind text at k name = behind_within text at k name.0 (name_within (drop at text) k name)

-- a byte that isn't 0 lies in the text
byte_is : (text : Text) (i b : ℕ) → slice_index text i ≡ suc b → i < length text
byte_is text i b is = byte_past text i (omega (arith, is))

line_end_within : (text : Text) (at : ℕ) → 0 < line_end_len text at → at + line_end_len text at ≤ length text
line_end_within text at some = by_cases (slice_index text at == 10) (slice_index text at == 13 && slice_index text (at + 1) == 10) some
    (λ h. byte_is text at 9 (same_byte (slice_index text at) 10 h))
    (λ h. byte_is text (at + 1) 9 (same_byte (slice_index text (at + 1)) 10 (and_right (slice_index text at == 13) (slice_index text (at + 1) == 10) h)))
  where
    by_cases : (p q : Bool) → 0 < cond p 1 (cond q 2 0) → (p ≡ true → at < length text) → (q ≡ true → at + 1 < length text) → at + cond p 1 (cond q 2 0) ≤ length text
    by_cases true q some one two = omega (arith, one refl)
    by_cases false true some one two = omega (arith, two refl)
    by_cases false false some one two = absurd (omega (arith, some))

newline_within : (text : Text) (at : ℕ) → at ≤ length text → at + newline_len text at ≤ length text
newline_within text at within = by_cases (slice_index text at == 10) (slice_index text at == 13) (slice_index text (at + 1) == 10)
    (λ h. byte_is text at 9 (same_byte (slice_index text at) 10 h))
    (λ h. byte_is text at 12 (same_byte (slice_index text at) 13 h))
    (λ h. byte_is text (at + 1) 9 (same_byte (slice_index text (at + 1)) 10 h))
  where
    by_cases : (p q r : Bool) → (p ≡ true → at < length text) → (q ≡ true → at < length text) → (r ≡ true → at + 1 < length text) → at + cond p 1 (cond q (cond r 2 1) 0) ≤ length text
    by_cases true q r one two three = omega (arith, one refl)
    by_cases false true true one two three = omega (arith, three refl)
    by_cases false true false one two three = omega (arith, two refl)
    by_cases false false r one two three = omega (arith, within)

take_within : (n : ℕ) (text : Text) → length (take n text) ≤ length text
take_within zero text = omega arith
take_within (suc n) [] = omega arith
take_within (suc n) (b ∷ text) = omega (arith, take_within n text)

-- ---- heredocs

label_within : (name text : Text) → is_label_line name text ≡ true → length name ≤ length text
unfolding is_label_line
label_within name text is =
    let same : name ≡ take (length name) text = (bytes_eq-Decides name (take (length name) text)).0 (and_left (starts_with nat_eq text name) (ends_line text (length name)) is) in
    omega (arith, ap length same, take_within (length name) text)

closing_within : (name text : Text) → closes name text ≡ true → closing_len name text ≤ length text
unfolding closing_len
closing_within name text closing =
    let newline = line_end_len text 0 in
    let test = nat_lt 0 newline && is_label_line name (drop newline text) in
    let holds = if_over test (newline + length name) closing in
    let len = chosen test (newline + length name) 0 holds in
    let line_there = line_end_within text 0 (is_over newline (and_left (nat_lt 0 newline) (is_label_line name (drop newline text)) holds)) in
    let name_there = label_within name (drop newline text) (and_right (nat_lt 0 newline) (is_label_line name (drop newline text)) holds) in
    omega (arith, len, line_there, name_there, length-drop newline text)
  where
    if_over : (v : Bool) (n : ℕ) → nat_lt 0 (cond v n 0) ≡ true → v ≡ true
    if_over true n h = refl
    if_over false n h = h

start_within : (text : Text) (l : form.Label) → form.Opens text l → l.start ≤ length text
start_within text l o = omega (arith, o.start, line_end_within text (l.at + l.len + form.quote_len l.quote) o.newline)

closed_within : (text : Text) (l : form.Label) (k : ℕ) → form.Opens text l → closes (form.name_of text l) (drop k (drop l.start text)) ≡ true
    → l.start + k + closing_len (form.name_of text l) (drop k (drop l.start text)) ≤ length text
closed_within text l k o closing =
    let body = drop l.start text in
    let some = closing_some (form.name_of text l) (drop k body) closing in
    let within = closing_within (form.name_of text l) (drop k body) closing in
    omega (arith, some, within, length-drop k body, length-drop l.start text, start_within text l o)

-- ---- a script

block_within : (text : Text) (k : ℕ) → ends_block (drop k (drop 2 text)) ≡ true → 4 + k ≤ length text
unfolding ends_block
block_within text k ends_there =
    let rest = drop k (drop 2 text) in
    let slash : slice_index rest 1 ≡ 47 = same_byte (slice_index rest 1) 47 (and_right (slice_index rest 0 == 42) (slice_index rest 1 == 47) ends_there) in
    let there : slice_index text (2 + (k + 1)) ≡ 47 = sym (behind k (drop 2 text) 1 ∙ behind 2 text (k + 1)) ∙ slash in
    omega (arith, byte_is text (2 + (k + 1)) 46 there)

script_within : (f : form.ScriptForm) (text : Text) (n : ℕ) → form.HasScriptForm f text n → Lies text n
script_within form.blanks text n has = (has.0, all_within is_blank text n refl has.1)
script_within form.line_comment text n has = (omega (arith, has.0, has.1.1.0), has.1.1.1.0)
script_within form.block_comment text n has = (omega (arith, has.1.1.0), omega (arith, has.1.1.0, block_within text has.1.0 has.1.1.1.1))
script_within form.word text n has = (has.0, name_within text n has)
script_within form.yield_from text n has = (omega (arith, has.1.1.1.1.1), omega (arith, has.1.1.1.1.1, name_behind text (5 + has.1.0) 4 has.1.1.1.0.0))
script_within form.variable text n has = (omega (arith, has.1.1.1), omega (arith, has.1.1.1, name_behind text 1 has.1.0 has.1.1.0))
script_within form.decimal text n has = (has.0.0, all_within is_ascii_digit text n refl has.0.1.0)
script_within form.octal text n has = (has.1.1.0, all_within is_octal_digit text n refl has.1.1.1.0)
script_within form.hexadecimal text n has = (omega (arith, has.1.1.1.0), omega (arith, has.1.1.1.0, digits_within is_ascii_hexdigit text 2 has.1.1.0 refl has.1.1.1.1.0 has.1.1.1.1.1.0))
script_within form.binary text n has = (omega (arith, has.1.1.1.0), omega (arith, has.1.1.1.0, digits_within is_binary_digit text 2 has.1.1.0 refl has.1.1.1.1.0 has.1.1.1.1.1.0))
script_within form.raw_text text n has = (omega (arith, has.1.1.0), omega (arith, has.1.1.0, byte_is text (1 + has.1.0) 38 has.1.1.1.1))
script_within form.quoted_text text n has = (omega (arith, has.1.1.0), omega (arith, has.1.1.0, byte_is text (1 + has.1.0) 33 has.1.1.1.1))
script_within form.opening_quote text n has = (omega (arith, has.1), omega (arith, has.1, byte_is text 0 33 has.0))
script_within (form.empty_heredoc l) text n has = (
  omega (arith, has.1.1, (label_long text l has.0).0),
  omega (arith, has.1.1, start_within text l has.0, label_within (form.name_of text l) (drop l.start text) has.1.0, name_len_is text l has.0, length-drop l.start text),
)
script_within (form.nowdoc_text l k) text n has =
    (omega (arith, has.1.1.1.1, (label_long text l has.0).0), omega (arith, has.1.1.1.1, closed_within text l k has.0 has.1.1.1.0.1))
script_within (form.heredoc_text l k) text n has =
    (omega (arith, has.1.1.1.1, (label_long text l has.0).0), omega (arith, has.1.1.1.1, closed_within text l k has.0 has.1.1.1.0.1))
script_within (form.heredoc_line l) text n has = (omega (arith, has.1.1, (label_long text l has.0).0), omega (arith, has.1.1, start_within text l has.0))
script_within form.end_tag text n has = (omega (arith, has.1.1), omega (arith, has.1.1, newline_within text 2 (byte_is text 1 61 has.1.0)))
script_within (form.cast_sign kind) text n has =
    (omega (arith, has.1.1.1.1.1), omega (arith, has.1.1.1.1.1, byte_is text (1 + has.1.0 + has.1.1.0 + has.1.1.1.0) 40 has.1.1.1.1.0.1.1.1))
script_within (form.punctuator_sign sign) text n has = ((sign_short text sign n has).0, sign_within text sign n has)

-- ---- the other modes

outside_within : (f : outer.OutsideForm) (text : Text) (n : ℕ) → outer.HasOutsideForm f text n → Lies text n
unfolding begins_echo
outside_within outer.inline text n has = (has.0, has.1.0)
outside_within outer.echo_tag text n has =
    (omega (arith, has.1), omega (arith, has.1, byte_is text 2 60 (same_byte (slice_index text 2) 61 (and_right (slice_index text 0 == 60 && slice_index text 1 == 63) (slice_index text 2 == 61) has.0))))
outside_within outer.open_tag text n has =
    ⊎_elim (λ end. (omega (arith, end.1), omega (arith, end.0, end.1)))
    (⊎_elim (λ blank. (omega (arith, blank.1), omega (arith, blank.1, byte_past text 5 (blank_some (slice_index text 5) blank.0))))
    (λ pair. (omega (arith, pair.1.1), omega (arith, pair.1.1, byte_is text 6 9 pair.1.0))))
    has.1
  where
    blank_some : (b : ℕ) → is_blank b ≡ true → 0 < b
    blank_some b blank = grind (arith, common_steps)

inside_within : (left : ℕ) (by : Delimiter) (text : Text) (k : ℕ) → IsInside left by text k → k ≤ length text
inside_within left by text zero inside = omega arith
inside_within left by [] (suc k) inside = absurd inside
inside_within (suc left) by (b ∷ text) (suc k) inside = omega (arith, inside_within left by text k inside)
inside_within zero by (b ∷ text) (suc k) inside = omega (arith, inside_within (inside.0 - 1) by text k inside.1.1)

template_within : (by : Delimiter) (f : template.TemplateForm) (text : Text) (n : ℕ) → template.HasTemplateForm by f text n → Lies text n
unfolding ends
template_within by template.template_text text n has = (has.0, inside_within 0 by text n has.1)
template_within quote template.template_end text n has = (omega (arith, has.1), omega (arith, has.1, byte_is text 0 33 (same_byte (slice_index text 0) 34 has.0)))
template_within (label name) template.template_end text n has = (omega (arith, has.1, closing_some name text has.0), omega (arith, has.1, closing_within name text has.0))
template_within by template.brace_part text n has = (omega (arith, has.1.1), omega (arith, has.1.1, byte_is text 1 35 has.1.0))
template_within by template.name_part text n has = (omega (arith, has.1.1), omega (arith, has.1.1, byte_is text 1 122 has.1.0))
template_within by template.variable_part text n has = (omega (arith, has.1.1.1), omega (arith, has.1.1.1, name_behind text 1 has.1.0 has.1.1.0))

key_within : (f : part.KeyForm) (text : Text) (n : ℕ) → part.HasKeyForm f text n → Lies text n
key_within part.name_key text n has = (has.0, name_within text n has)
key_within part.variable_key text n has = (omega (arith, has.1.1.1), omega (arith, has.1.1.1, name_behind text 1 has.1.0 has.1.1.0))
key_within (part.decimal_key minus) text n has =
    let digits = has.1.1.1.0 in
    (omega (arith, has.1.1.1.1, digits.0), omega (arith, has.1.1.1.1, digits_within is_ascii_digit text has.0 has.1.1.0 refl digits.0 digits.1))
key_within (part.hexadecimal_key minus) text n has =
    let digits = has.1.1.1.1.1.0 in
    (omega (arith, has.1.1.1.1.1.1), omega (arith, has.1.1.1.1.1.1, digits_within is_ascii_hexdigit text (has.0 + 2) has.1.1.1.1.0 refl digits.0 digits.1))
key_within (part.binary_key minus) text n has =
    let digits = has.1.1.1.1.1.0 in
    (omega (arith, has.1.1.1.1.1.1), omega (arith, has.1.1.1.1.1.1, digits_within is_binary_digit text (has.0 + 2) has.1.1.1.1.0 refl digits.0 digits.1))

one_within : (text : Text) (n b : ℕ) → slice_index text 0 ≡ suc b → n ≡ 1 → Lies text n
one_within text n b is one = (omega (arith, one), omega (arith, one, byte_is text 0 b is))

subject_within : (f : part.SubjectForm) (text : Text) (n : ℕ) → part.HasSubjectForm f text n → Lies text n
subject_within part.left_bracket text n has = one_within text n 90 has.0 has.1
subject_within part.arrow text n has = (omega (arith, has.1.1), omega (arith, has.1.1, byte_is text 1 61 has.1.0))

name_end_within : (f : part.NameEndForm) (text : Text) (n : ℕ) → part.HasNameEndForm f text n → Lies text n
name_end_within part.right_brace text n has = one_within text n 124 has.0 has.1
name_end_within part.left_index text n has = one_within text n 90 has.0 has.1

name_form_within : (f : part.NameForm) (text : Text) (n : ℕ) → part.HasNameForm f text n → Lies text n
name_form_within part.name text n has = (has.0, name_within text n has)

key_end_within : (f : part.KeyEndForm) (text : Text) (n : ℕ) → part.HasKeyEndForm f text n → Lies text n
key_end_within part.right_bracket text n has = one_within text n 92 has.0 has.1

brace_end_within : (f : part.BraceEndForm) (text : Text) (n : ℕ) → part.HasBraceEndForm f text n → Lies text n
brace_end_within part.last_brace text n has = one_within text n 124 has.0 has.1

pub form_within : (mode : Mode) (f : Form mode) (text : Text) (n : ℕ) → HasForm mode f text n → (0 < n) × (n ≤ length text)
form_within outside f text n has = outside_within f text n has
form_within script f text n has = script_within f text n has
form_within (quotes begun) f text n has = template_within quote f text n has
form_within (heredoc name begun) f text n has = template_within (label name) f text n has
form_within (braces begun) f text n has = script_within f text n has
form_within block f text n has = script_within f text n has
form_within (name_due begun) f text n has = name_form_within f text n has
form_within (name_read begun) f text n has = name_end_within f text n has
form_within (brackets begun) f text n has = script_within f text n has
form_within index f text n has = script_within f text n has
form_within (brace_due begun) f text n has = brace_end_within f text n has
form_within (subject begun) f text n has = subject_within f text n has
form_within (member_due begun) f text n has = name_form_within f text n has
form_within (key_due begun) f text n has = key_within f text n has
form_within (key_read begun) f text n has = key_end_within f text n has
