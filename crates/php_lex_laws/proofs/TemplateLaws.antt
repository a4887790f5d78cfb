-- What stands in double quotes and in a heredoc has a form, or is a malformed escape.
use Rattle.std.proofs.Common.{◌≡◌, ℕ, ◌<◌, ◌≤◌, true, false, ◌&&◌, ◌||◌, [], length, Ok, Err, refl, sym, ap, ◌∙◌, arith}
use Rattle.std.specs.Prelude.{slice_index, ◌==◌}
use Rattle.std.specs.Char.{is_ascii_hexdigit}
use Rattle.std.proofs.lemmas.Grind.{common_steps}
use Rattle.php_lex.specs.declared.fail.LexFail.{LexFail}
use Rattle.php_lex.specs.declared.fail.LexFail.TheVariants as Fail
use Rattle.php_token.specs.declared.kind.TokenKind.TheVariants as Kind
use Rattle.php_lex_pieces.specs.Bytes.{Text, is_name_start, is_name_byte, run, name_len}
use Rattle.php_lex.specs.Modes.{braces, name_due, stay, leave}
use Rattle.php_lex.specs.Pieces.{Found, one, part_begin, template_piece, part_piece}
use Rattle.php_lex_pieces.specs.Templates.{Delimiter, stretch, scalar_escape, is_cut_escape, is_quote, ends, text_value}
use Rattle.php_lex_laws.specs.Escapes.{BeginsScalar, IsScalar}
use Rattle.php_lex_laws.specs.TemplateForms as form
use Rattle.php_lex_laws.proofs.DigitLemmas.{run_some}
use Rattle.php_lex_laws.proofs.EscapeLemmas.{escape_none, scalar_stretch, backslash_stretch, scalar_some, scalar_has}
use Rattle.php_lex_laws.proofs.InsideLemmas.{inside_reaches, inside_len}
use Rattle.php_lex_laws.proofs.RangeLemmas.{no_both, chosen, same_byte, other_byte, is_byte, and_left, and_right, behind_first, name_reaches, name_there}
use Rattle.php_lex_laws.proofs.TemplateCases.{template_or, part_or, ends_stops, part_stops, no_text, stretch_none, sign_no_end, cut_is, cut_has, cut_none, part_begins, brace_begins, part_there, one_of, or_left, or_right}

abbrev pub Reaches : Delimiter → ℕ → ℕ → form.TemplateForm → Text → ℕ → Found → Type 0
Reaches by begun line f text n (Ok p) = (n ≤ p.len) × (n ≡ p.len → p ≡ form.template_given by f line text n)
Reaches by begun line f text n (Err failed) = (e : form.TemplateFault) × form.IsNoTemplatePiece e text

abbrev pub Outcome : Delimiter → ℕ → ℕ → Text → Found → Type 0
Outcome by begun line text (Ok p) = (f : form.TemplateForm) × (form.HasTemplateForm by f text p.len × (p ≡ form.template_given by f line text p.len))
Outcome by begun line text (Err failed) = (e : form.TemplateFault) × (form.IsNoTemplatePiece e text × (failed ≡ form.template_fault e begun line))

-- ---- parts

dollar_no_end : (by : Delimiter) (text : Text) → slice_index text 0 ≡ 36 → ends by text ≡ false
dollar_no_end by text is = sign_no_end by text (rw is refl) (rw is refl)

brace_no_end : (by : Delimiter) (text : Text) → slice_index text 0 ≡ 123 → ends by text ≡ false
brace_no_end by text is = sign_no_end by text (rw is refl) (rw is refl)

backslash_no_end : (by : Delimiter) (text : Text) → slice_index text 0 ≡ 92 → ends by text ≡ false
backslash_no_end by text is = sign_no_end by text (rw is refl) (rw is refl)

-- where no text and no end stands, what a part does there
at_part : (by : Delimiter) (begun line : ℕ) (text : Text) (P : Found → Type 0) → (stretch by text).0 ≡ 0 → ends by text ≡ false → P (part_piece begun line text) → P (template_piece by begun line text)
at_part by begun line text P stops no_end part =
    template_or by begun line text P
    (λ some. absurd (omega (arith, some, no_text by text stops)))
    (λ none end. absurd (no_both (ends by text) end no_end))
    (λ none _. part)

dollar_not : (b : ℕ) → b ≡ 36 → ((b == 92) ≡ false) × ((b == 123) ≡ false)
dollar_not b is = (rw is refl, rw is refl)

name_no_brace : (b : ℕ) → is_name_start b ≡ true → (b == 123) ≡ false
name_no_brace b name = grind (arith, common_steps)

variable_reaches : (by : Delimiter) (begun line : ℕ) (text : Text) (n : ℕ) → form.HasTemplateForm by form.variable_part text n → Reaches by begun line form.variable_part text n (template_piece by begun line text)
variable_reaches by begun line text n has =
    let starts : is_name_start (slice_index text 1) ≡ true = ap is_name_start (sym (behind_first 1 text)) ∙ has.1.1.0.1.0 in
    let begins = part_begins text has.0 (or_left (is_name_start (slice_index text 1)) (slice_index text 1 == 123) starts) in
    let low = name_reaches text 1 has.1.0 has.1.1.0 in
    at_part by begun line text (Reaches by begun line form.variable_part text n) (part_stops by text begins) (dollar_no_end by text has.0)
    (part_or begun line text (Reaches by begun line form.variable_part text n)
    (λ first cut. absurd (omega (arith, first, has.0)))
    (λ first bad. absurd (omega (arith, first, has.0)))
    (λ first. absurd (omega (arith, first, has.0)))
    (λ no_backslash no_brace second. absurd (other_byte (slice_index text 1) 123 (name_no_brace (slice_index text 1) starts) second))
    (λ no_backslash no_brace no_second. (omega (arith, low, has.1.1.1), λ e. ap (form.variable_given line text) (sym e))))

pub template_reaches : (by : Delimiter) (begun line : ℕ) (f : form.TemplateForm) (text : Text) (n : ℕ) → form.HasTemplateForm by f text n → Reaches by begun line f text n (template_piece by begun line text)
template_reaches by begun line form.template_text text n has =
    let low = inside_reaches 0 by text n has.1 in
    template_or by begun line text (Reaches by begun line form.template_text text n)
    (λ some. (low, λ e. ap (λ m. one Kind.Piece m (text_value by text) stay) (sym e)))
    (λ none end. absurd (omega (arith, low, none, has.0)))
    (λ none no_end. absurd (omega (arith, low, none, has.0)))
template_reaches by begun line form.template_end text n has =
    template_or by begun line text (Reaches by begun line form.template_end text n)
    (λ some. absurd (omega (arith, some, no_text by text (ends_stops by text has.0))))
    (λ none end. (omega (arith, has.1), λ e. ap (λ m. one Kind.Unquote m [] leave) (sym e)))
    (λ none no_end. absurd (no_both (ends by text) has.0 no_end))
template_reaches by begun line form.brace_part text n has =
    at_part by begun line text (Reaches by begun line form.brace_part text n) (part_stops by text (brace_begins text has.0 has.1.0)) (brace_no_end by text has.0)
    (part_or begun line text (Reaches by begun line form.brace_part text n)
    (λ first cut. absurd (omega (arith, first, has.0)))
    (λ first bad. absurd (omega (arith, first, has.0)))
    (λ first. (omega (arith, has.1.1), λ e. ap (λ m. part_begin m (braces line)) (sym e)))
    (λ no_backslash no_brace second. absurd (other_byte (slice_index text 0) 123 no_brace has.0))
    (λ no_backslash no_brace no_second. absurd (other_byte (slice_index text 0) 123 no_brace has.0)))
template_reaches by begun line form.name_part text n has =
    let second_is = is_byte (slice_index text 1) 123 has.1.0 in
    at_part by begun line text (Reaches by begun line form.name_part text n) (part_stops by text (part_begins text has.0 (or_right (is_name_start (slice_index text 1)) (slice_index text 1 == 123) second_is))) (dollar_no_end by text has.0)
    (part_or begun line text (Reaches by begun line form.name_part text n)
    (λ first cut. absurd (omega (arith, first, has.0)))
    (λ first bad. absurd (omega (arith, first, has.0)))
    (λ first. absurd (omega (arith, first, has.0)))
    (λ no_backslash no_brace second. (omega (arith, has.1.1), λ e. ap (λ m. part_begin m (name_due line)) (sym e)))
    (λ no_backslash no_brace no_second. absurd (no_both (slice_index text 1 == 123) second_is no_second)))
template_reaches by begun line form.variable_part text n has = variable_reaches by begun line text n has

-- ---- malformed escapes

abbrev Says : LexFail → Found → Type 0
Says failed found = found ≡ Err failed

scalar_stops : (by : Delimiter) (text : Text) → BeginsScalar text → ((k : ℕ) → IsScalar text k → ⊥) → (stretch by text).0 ≡ 0
scalar_stops by text begins none = scalar_stretch by text begins ∙ scalar_has text none

pub template_faulty : (by : Delimiter) (begun line : ℕ) (e : form.TemplateFault) (text : Text) → form.IsNoTemplatePiece e text → template_piece by begun line text ≡ Err (form.template_fault e begun line)
template_faulty by begun line form.cut_escape text is =
    let first = is.0.0 in
    let cut = cut_is text is.1.0 is.1.1 in
    at_part by begun line text (Says (Fail.Unclosed begun)) (scalar_stops by text is.0 (λ m whole. cut_none text is.1.0 m is.1.1 whole)) (backslash_no_end by text first)
    (part_or begun line text (Says (Fail.Unclosed begun))
    (λ _ _. refl)
    (λ _ not_cut. absurd (no_both (is_cut_escape text) cut not_cut))
    (λ brace. absurd (omega (arith, brace, first)))
    (λ no_backslash no_brace second. absurd (other_byte (slice_index text 0) 92 no_backslash first))
    (λ no_backslash no_brace no_second. absurd (other_byte (slice_index text 0) 92 no_backslash first)))
template_faulty by begun line form.bad_escape text is =
    let first = is.0.0 in
    at_part by begun line text (Says (Fail.BadEscape line)) (scalar_stops by text is.0 is.1.1) (backslash_no_end by text first)
    (part_or begun line text (Says (Fail.BadEscape line))
    (λ _ cut. absurd (is.1.0 (run is_ascii_hexdigit text 3) (cut_has text cut)))
    (λ _ _. refl)
    (λ brace. absurd (omega (arith, brace, first)))
    (λ no_backslash no_brace second. absurd (other_byte (slice_index text 0) 92 no_backslash first))
    (λ no_backslash no_brace no_second. absurd (other_byte (slice_index text 0) 92 no_backslash first)))

-- ---- what is there

-- a malformed escape
backslash_begins : (by : Delimiter) (text : Text) → (stretch by text).0 ≡ 0 → slice_index text 0 ≡ 92 → BeginsScalar text × ((k : ℕ) → IsScalar text k → ⊥)
backslash_begins by text stops first =
    let told = escape_none (is_quote by) text (sym (backslash_stretch by text first) ∙ stops) in
    ((first, told.0), λ k whole. zero_over (scalar_escape text).0 (scalar_some text k whole) told.1)
  where
    zero_over : (n : ℕ) → 0 < n → n ≡ 0 → ⊥
    zero_over n some none = omega (arith, some, none)

pub template_outcome : (by : Delimiter) (begun line : ℕ) (text : Text) → 0 < length text → Outcome by begun line text (template_piece by begun line text)
template_outcome by begun line text some =
    template_or by begun line text (Outcome by begun line text)
    (λ more. (form.template_text, ((more, inside_len by text), refl)))
    (λ none end. (form.template_end, ((end, refl), refl)))
    (λ none no_end.
    let stops = stretch_none by text some none in
    let b = slice_index text 0 in
    let c = slice_index text 1 in
    let dollar = b == 36 && (is_name_start c || c == 123) in
    let brace = b == 123 && c == 36 in
    part_or begun line text (Outcome by begun line text)
    (λ first cut. let begins = backslash_begins by text stops first in (form.cut_escape, ((begins.0, (run is_ascii_hexdigit text 3, cut_has text cut)), refl)))
    (λ first not_cut. let begins = backslash_begins by text stops first in
    (form.bad_escape, ((begins.0, ((λ k cut. no_both (is_cut_escape text) (cut_is text k cut) not_cut), begins.1)), refl)))
    (λ first. let begins = part_there by text stops (brace_no_backslash b first) no_end in
    let second = one_of dollar brace begins (λ h. absurd (omega (arith, first, same_byte b 36 (and_left (b == 36) (is_name_start c || c == 123) h)))) (λ h. same_byte c 36 (and_right (b == 123) (c == 36) h)) in
    (form.brace_part, ((first, (second, refl)), refl)))
    (λ no_backslash no_brace second. let begins = part_there by text stops no_backslash no_end in
    let first = one_of dollar brace begins (λ h. same_byte b 36 (and_left (b == 36) (is_name_start c || c == 123) h)) (λ h. absurd (no_both (b == 123) (and_left (b == 123) (c == 36) h) no_brace)) in
    (form.name_part, ((first, (second, refl)), refl)))
    (λ no_backslash no_brace no_second. let begins = part_there by text stops no_backslash no_end in
    let first = one_of dollar brace begins (λ h. h) (λ h. absurd (no_both (b == 123) (and_left (b == 123) (c == 36) h) no_brace)) in
    let starts = one_of (is_name_start c) (c == 123) (and_right (b == 36) (is_name_start c || c == 123) first) (λ h. h) (λ h. absurd (no_both (c == 123) h no_second)) in
    let len : name_len text 1 ≡ run is_name_byte text 1 = chosen (is_name_start c) (run is_name_byte text 1) 0 starts in
    let more : 0 < name_len text 1 = omega (arith, len, run_some is_name_byte text 1 (name_is_byte c starts) refl) in
    (form.variable_part, ((same_byte b 36 (and_left (b == 36) (is_name_start c || c == 123) first), (name_len text 1, (name_there text 1 more, refl))), refl))))
  where
    brace_no_backslash : (b : ℕ) → b ≡ 123 → (b == 92) ≡ false
    brace_no_backslash b is = rw is refl

    name_is_byte : (b : ℕ) → is_name_start b ≡ true → is_name_byte b ≡ true
    name_is_byte b name = grind (arith, common_steps)
