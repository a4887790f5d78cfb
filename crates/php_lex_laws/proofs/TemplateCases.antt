-- What stands in double quotes and in a heredoc.
use Rattle.std.proofs.Common.{◌≡◌, ℕ, zero, suc, ◌+◌, ◌-◌, ◌<◌, ◌≤◌, Bool, true, false, ◌&&◌, ◌||◌, nat_lt, cond, [], ◌∷◌, length, drop, Ok, Err, refl, sym, ap, ◌∙◌, arith}
use Rattle.std.specs.Prelude.{slice_index, ◌==◌}
use Rattle.std.specs.Char.{is_ascii_hexdigit}
use Rattle.std.proofs.lemmas.Grind.{common_steps}
use Rattle.php_lex.specs.declared.fail.LexFail.TheVariants as Fail
use Rattle.php_token.specs.declared.kind.TokenKind.TheVariants as Kind
use Rattle.php_lex_pieces.specs.Bytes.{Text, is_name_start, run}
use Rattle.php_lex.specs.Modes.{braces, name_due, stay, leave}
use Rattle.php_lex.specs.Pieces.{Found, one, part_begin, variable_part, closing, part_piece, template_piece}
use Rattle.php_lex_pieces.specs.Templates.{Delimiter, quote, label, stretch, is_cut_escape, ends, begins_part, closes, text_len, text_len_from, text_value}
use Rattle.php_lex_laws.specs.Escapes.{IsScalar}
use Rattle.php_lex_laws.specs.TemplateForms as form
use Rattle.php_lex_laws.proofs.EscapeLemmas.{brace_no_digit}
use Rattle.php_lex_laws.proofs.HeredocLemmas.{label_stops, closes_line, line_byte}
use Rattle.php_lex_laws.proofs.InsideLemmas.{inside_is, quote_stops, byte_past}
use Rattle.php_lex_laws.proofs.RangeLemmas.{no_both, other, decide, same_byte, is_byte, is_over, is_under, and_left, both_hold, run_is, run_all, behind}

-- ---- the case of a text

pub template_or : (by : Delimiter) (begun line : ℕ) (text : Text) (P : Found → Type 0)
    → (0 < text_len by text → P (Ok (one Kind.Piece (text_len by text) (text_value by text) stay)))
    → (text_len by text ≡ 0 → ends by text ≡ true → P (Ok (one Kind.Unquote (closing by text) [] leave)))
    → (text_len by text ≡ 0 → ends by text ≡ false → P (part_piece begun line text))
    → P (template_piece by begun line text)
unfolding template_piece
template_or by begun line text P bytes end part =
    decide (nat_lt 0 (text_len by text)) (λ h. rw h (bytes (is_over (text_len by text) h))) (λ none.
    decide (ends by text) (λ h. rw (none, h) (end (is_under (text_len by text) none) h)) (λ h. rw (none, h) (part (is_under (text_len by text) none) h)))

pub part_or : (begun line : ℕ) (text : Text) (P : Found → Type 0)
    → (slice_index text 0 ≡ 92 → is_cut_escape text ≡ true → P (Err (Fail.Unclosed begun)))
    → (slice_index text 0 ≡ 92 → is_cut_escape text ≡ false → P (Err (Fail.BadEscape line)))
    → (slice_index text 0 ≡ 123 → P (Ok (part_begin 1 (braces line))))
    → ((slice_index text 0 == 92) ≡ false → (slice_index text 0 == 123) ≡ false → slice_index text 1 ≡ 123 → P (Ok (part_begin 2 (name_due line))))
    → ((slice_index text 0 == 92) ≡ false → (slice_index text 0 == 123) ≡ false → (slice_index text 1 == 123) ≡ false → P (Ok (variable_part line text)))
    → P (part_piece begun line text)
unfolding part_piece
part_or begun line text P cut bad brace named variable =
    let b = slice_index text 0 in
    decide (b == 92) (λ is. decide (is_cut_escape text) (λ h. rw (is, h) (cut (same_byte b 92 is) h)) (λ h. rw (is, h) (bad (same_byte b 92 is) h))) (λ no_backslash.
    decide (b == 123) (λ h. rw (no_backslash, h) (brace (same_byte b 123 h))) (λ no_brace.
    decide (slice_index text 1 == 123) (λ h. rw (no_backslash, no_brace, h) (named no_backslash no_brace (same_byte (slice_index text 1) 123 h))) (λ h. rw (no_backslash, no_brace, h) (variable no_backslash no_brace h))))

-- ---- what is no text

pub or_left : (p q : Bool) → p ≡ true → (p || q) ≡ true
or_left true q h = refl
or_left false q h = absurd (cc)

pub or_right : (p q : Bool) → q ≡ true → (p || q) ≡ true
or_right true q h = refl
or_right false q h = h

pub one_of : {G : Type 0} (p q : Bool) → (p || q) ≡ true → (p ≡ true → G) → (q ≡ true → G) → G
one_of true q h one two = one refl
one_of false q h one two = two h

-- what ends a template is none of its text
pub ends_stops : (by : Delimiter) (text : Text) → ends by text ≡ true → (stretch by text).0 ≡ 0
unfolding ends
ends_stops quote text end = quote_stops text (same_byte (slice_index text 0) 34 end)
ends_stops (label name) text end = label_stops name text end

part_no_backslash : (b c : ℕ) → ((b == 36 && (is_name_start c || c == 123)) || (b == 123 && c == 36)) ≡ true → (b == 92) ≡ false
part_no_backslash b c begins =
    one_of (b == 36 && (is_name_start c || c == 123)) (b == 123 && c == 36) begins
    (λ h. dollar b (and_left (b == 36) (is_name_start c || c == 123) h))
    (λ h. brace b (and_left (b == 123) (c == 36) h))
  where
    dollar : (b : ℕ) → (b == 36) ≡ true → (b == 92) ≡ false
    dollar b h = grind (arith, common_steps)

    brace : (b : ℕ) → (b == 123) ≡ true → (b == 92) ≡ false
    brace b h = grind (arith, common_steps)

-- neither is what begins a part
pub part_stops : (by : Delimiter) (text : Text) → begins_part text ≡ true → (stretch by text).0 ≡ 0
unfolding stretch begins_part
part_stops by text begins =
    let no_backslash = part_no_backslash (slice_index text 0) (slice_index text 1) begins in
    let gate = or_right (ends by text) ((slice_index text 0 == 36 && (is_name_start (slice_index text 1) || slice_index text 1 == 123)) || (slice_index text 0 == 123 && slice_index text 1 == 36)) begins in
    rw (no_backslash, gate) refl

pub no_text : (by : Delimiter) (text : Text) → (stretch by text).0 ≡ 0 → text_len by text ≡ 0
no_text by text stops = inside_is 0 by text 0 refl stops

none_is : (n : ℕ) → 0 < n → (n == 0) ≡ false
none_is n some = grind (arith, common_steps)

-- where no text stands, no byte of it does
pub stretch_none : (by : Delimiter) (text : Text) → 0 < length text → text_len by text ≡ 0 → (stretch by text).0 ≡ 0
stretch_none by [] some none = absurd (omega arith)
stretch_none by (b ∷ text) some none = by_len (stretch by (b ∷ text)).0 none
  where
    by_len : (n : ℕ) → cond (n == 0) 0 (suc (text_len_from (n - 1) by text)) ≡ 0 → n ≡ 0
    by_len zero h = refl
    by_len (suc n) h = absurd (omega (arith, other (suc n == 0) 0 (suc (text_len_from (suc n - 1) by text)) (none_is (suc n) (omega arith)), h))

pub sign_no_end : (by : Delimiter) (text : Text) → (slice_index text 0 == 34) ≡ false → (slice_index text 0 == 10 || slice_index text 0 == 13) ≡ false → ends by text ≡ false
unfolding ends
sign_no_end quote text no_quote no_line = no_quote
sign_no_end (label name) text no_quote no_line =
    decide (closes name text)
    (λ closing. absurd (no_both (slice_index text 0 == 10 || slice_index text 0 == 13) (line_byte (slice_index text 0) (slice_index text 1) (closes_line name text closing)) no_line))
    (λ h. h)

-- ---- escapes

past_end : (text : Text) (i : ℕ) → length text ≤ i → slice_index text i ≡ 0
past_end [] i past = refl
past_end (b ∷ text) zero past = absurd (omega arith)
past_end (b ∷ text) (suc i) past = past_end text i (omega arith)

pub cut_is : (text : Text) (k : ℕ) → form.IsCut text k → is_cut_escape text ≡ true
cut_is text k is =
    let end : slice_index text (3 + k) ≡ 0 = past_end text (3 + k) (omega (arith, is.1)) in
    let len : run is_ascii_hexdigit text 3 ≡ k = run_is is_ascii_hexdigit (drop 3 text) k refl is.0 (ap is_ascii_hexdigit (behind 3 text k ∙ end)) in
    rw len (is_byte (length text) (3 + k) is.1)

pub cut_has : (text : Text) → is_cut_escape text ≡ true → form.IsCut text (run is_ascii_hexdigit text 3)
cut_has text cut = (run_all is_ascii_hexdigit (drop 3 text), same_byte (length text) (3 + run is_ascii_hexdigit text 3) cut)

-- a cut one is none
pub cut_none : (text : Text) (k m : ℕ) → form.IsCut text k → IsScalar text m → ⊥
cut_none text k m cut is =
    let closing_byte = is.1.1.0 in
    let within = byte_past text (3 + m) (omega (arith, closing_byte)) in
    no_both (is_ascii_hexdigit (slice_index text (3 + m))) (ap is_ascii_hexdigit (sym (behind 3 text m)) ∙ cut.0 m (omega (arith, within, cut.1))) (brace_no_digit (slice_index text (3 + m)) closing_byte)

-- ---- parts

pub part_begins : (text : Text) → slice_index text 0 ≡ 36 → (is_name_start (slice_index text 1) || slice_index text 1 == 123) ≡ true → begins_part text ≡ true
unfolding begins_part
part_begins text first second =
    or_left (slice_index text 0 == 36 && (is_name_start (slice_index text 1) || slice_index text 1 == 123)) (slice_index text 0 == 123 && slice_index text 1 == 36)
    (both_hold (slice_index text 0 == 36) (is_name_start (slice_index text 1) || slice_index text 1 == 123) (is_byte (slice_index text 0) 36 first) second)

pub brace_begins : (text : Text) → slice_index text 0 ≡ 123 → slice_index text 1 ≡ 36 → begins_part text ≡ true
unfolding begins_part
brace_begins text first second =
    or_right (slice_index text 0 == 36 && (is_name_start (slice_index text 1) || slice_index text 1 == 123)) (slice_index text 0 == 123 && slice_index text 1 == 36)
    (both_hold (slice_index text 0 == 123) (slice_index text 1 == 36) (is_byte (slice_index text 0) 123 first) (is_byte (slice_index text 1) 36 second))

second_or : {A : Type 0} (v : Bool) (a b : ℕ × A) → 0 < b.0 → (cond v a b).0 ≡ 0 → v ≡ true
second_or true a b some none = refl
second_or false a b some none = absurd (omega (arith, some, none))

-- what is neither text nor an end begins a part
pub part_there : (by : Delimiter) (text : Text) → (stretch by text).0 ≡ 0 → (slice_index text 0 == 92) ≡ false → ends by text ≡ false
    → ((slice_index text 0 == 36 && (is_name_start (slice_index text 1) || slice_index text 1 == 123)) || (slice_index text 0 == 123 && slice_index text 1 == 36)) ≡ true
unfolding stretch begins_part
part_there by text none no_backslash no_end =
    let part = (slice_index text 0 == 36 && (is_name_start (slice_index text 1) || slice_index text 1 == 123)) || (slice_index text 0 == 123 && slice_index text 1 == 36) in
    let rest = (rw no_backslash at none) in
    or_second (ends by text) part (second_or (ends by text || part) _ _ (omega arith) rest) no_end
  where
    or_second : (p q : Bool) → (p || q) ≡ true → p ≡ false → q ≡ true
    or_second true q h not = absurd (cc)
    or_second false q h not = h
