-- What a backslash in a template begins.
use Rattle.std.proofs.Common.{◌≡◌, ◌⊎◌, ℕ, zero, suc, ◌+◌, ◌<◌, ◌≤◌, min, Bool, true, false, ◌&&◌, ◌||◌, nat_lt, nat_le, cond, drop, take, refl, sym, ap, ◌∙◌, subst, arith, inl, inr, ⊎_elim, le_antisymm}
use Rattle.std.specs.Prelude.{slice_index, ◌==◌}
use Rattle.std.specs.Char.{is_ascii_hexdigit}
use Rattle.std.proofs.lemmas.Grind.{common_steps}
use Rattle.php_lex_pieces.specs.Bytes.{Text, is_octal_digit, run}
use Rattle.php_lex_pieces.specs.Numbers.{value}
use Rattle.php_lex_pieces.specs.Templates.{Delimiter, stretch, escape, escaped_byte, scalar_escape, is_quote, ends, begins_part}
use Rattle.php_lex_laws.specs.Escapes as form
use Rattle.php_lex_laws.specs.Escapes.{BeginsScalar, IsScalar, IsPlain, IsEscape}
use Rattle.php_lex_laws.specs.Ranges.{AllIn}
use Rattle.php_lex_laws.proofs.HeredocLemmas.{and_last}
use Rattle.php_lex_laws.proofs.RangeLemmas.{decide, same_byte, is_byte, is_over, is_positive, and_left, and_right, run_reaches, run_is, run_all, behind, behind_first}

-- ---- escapes

zero_or : {A : Type 0} (v : Bool) (a b : ℕ × A) → 0 < a.0 → (cond v a b).0 ≡ 0 → (v ≡ false) × (b.0 ≡ 0)
zero_or true a b some none = absurd (omega (arith, some, none))
zero_or false a b some none = (refl, none)

scalar_or : {A : Type 0} (v w : Bool) (scalar one two : ℕ × A) → 0 < one.0 → 0 < two.0 → (cond v scalar (cond w one two)).0 ≡ 0 → (v ≡ true) × (scalar.0 ≡ 0)
scalar_or true w scalar one two more most none = (refl, none)
scalar_or false true scalar one two more most none = absurd (omega (arith, more, none))
scalar_or false false scalar one two more most none = absurd (omega (arith, most, none))

-- the one escape without a length is a malformed `\u{`
pub escape_none : (in_quotes : Bool) (text : Text) → (escape in_quotes text).0 ≡ 0 → ((slice_index text 1 ≡ 117) × (slice_index text 2 ≡ 123)) × ((scalar_escape text).0 ≡ 0)
unfolding escape
escape_none in_quotes text none =
    let c = slice_index text 1 in
    let d = slice_index text 2 in
    let first = zero_or (nat_lt 0 (escaped_byte c)) _ _ (omega arith) none in
    let second = zero_or (in_quotes && c == 34) _ _ (omega arith) first.1 in
    let third = zero_or (is_octal_digit c) _ _ (omega arith) second.1 in
    let fourth = zero_or ((c == 120 || c == 88) && is_ascii_hexdigit d) _ _ (omega arith) third.1 in
    let fifth = scalar_or (c == 117 && d == 123) (c == 123) _ _ _ (omega arith) (omega arith) fourth.1 in
    ((same_byte c 117 (and_left (c == 117) (d == 123) fifth.0), same_byte d 123 (and_right (c == 117) (d == 123) fifth.0)), fifth.1)

scalar_is : (in_quotes : Bool) (text : Text) → slice_index text 1 ≡ 117 → slice_index text 2 ≡ 123 → (escape in_quotes text).0 ≡ (scalar_escape text).0
unfolding escape
scalar_is true text second third = rw (second, third) refl
scalar_is false text second third = rw (second, third) refl

pub scalar_stretch : (by : Delimiter) (text : Text) → BeginsScalar text → (stretch by text).0 ≡ (scalar_escape text).0
unfolding stretch
scalar_stretch by text begins =
    let first = begins.0 in
    rw first (scalar_is (is_quote by) text begins.1.0 begins.1.1)

pub backslash_stretch : (by : Delimiter) (text : Text) → slice_index text 0 ≡ 92 → (stretch by text).0 ≡ (escape (is_quote by) text).0
unfolding stretch
backslash_stretch by text first = rw first refl

pub brace_no_digit : (b : ℕ) → b ≡ 125 → is_ascii_hexdigit b ≡ false
brace_no_digit b is = grind (arith, common_steps)

le_true : (m n : ℕ) → m ≤ n → nat_le m n ≡ true
le_true m n h = grind (arith, common_steps)

le_is : (m n : ℕ) → nat_le m n ≡ true → m ≤ n
le_is m n h = grind (arith, common_steps)

-- a whole `\u{..}` has a length
pub scalar_some : (text : Text) (k : ℕ) → IsScalar text k → 0 < (scalar_escape text).0
unfolding scalar_escape
scalar_some text k is =
    let len : run is_ascii_hexdigit text 3 ≡ k = run_is is_ascii_hexdigit (drop 3 text) k refl is.1.0 (ap is_ascii_hexdigit (behind 3 text k) ∙ brace_no_digit (slice_index text (3 + k)) is.1.1.0) in
    let positive = is_positive k is.0 in
    let closes_it = is_byte (slice_index text (3 + k)) 125 is.1.1.0 in
    let fits = le_true (value 16 (take k (drop 3 text))) 1114111 is.1.1.1 in
    rw (len, positive, closes_it, fits) (omega arith)

pub scalar_has : (text : Text) → ((k : ℕ) → IsScalar text k → ⊥) → (scalar_escape text).0 ≡ 0
unfolding scalar_escape
scalar_has text none =
    let k = run is_ascii_hexdigit text 3 in
    let n = value 16 (take k (drop 3 text)) in
    decide (nat_lt 0 k && slice_index text (3 + k) == 125 && nat_le n 1114111)
    (λ h. let parts = and_last (nat_lt 0 k) (slice_index text (3 + k) == 125) (nat_le n 1114111) h in
    absurd (none k (is_over k parts.0, (run_all is_ascii_hexdigit (drop 3 text), (same_byte (slice_index text (3 + k)) 125 parts.1.0, le_is n 1114111 parts.1.1)))))
    (λ h. rw h refl)

-- the length of a whole `\u{..}`
scalar_len : (text : Text) (k : ℕ) → IsScalar text k → (scalar_escape text).0 ≡ 4 + k
unfolding scalar_escape
scalar_len text k is =
    let len : run is_ascii_hexdigit text 3 ≡ k = run_is is_ascii_hexdigit (drop 3 text) k refl is.1.0 (ap is_ascii_hexdigit (behind 3 text k) ∙ brace_no_digit (slice_index text (3 + k)) is.1.1.0) in
    let positive = is_positive k is.0 in
    let closes_it = is_byte (slice_index text (3 + k)) 125 is.1.1.0 in
    let fits = le_true (value 16 (take k (drop 3 text))) 1114111 is.1.1.1 in
    rw (len, positive, closes_it, fits) refl

scalar_there : (text : Text) → 0 < (scalar_escape text).0 → (k : ℕ) × IsScalar text k
unfolding scalar_escape
scalar_there text some =
    let k = run is_ascii_hexdigit text 3 in
    let n = value 16 (take k (drop 3 text)) in
    decide (nat_lt 0 k && slice_index text (3 + k) == 125 && nat_le n 1114111)
    (λ h. let parts = and_last (nat_lt 0 k) (slice_index text (3 + k) == 125) (nat_le n 1114111) h in
    (k, (is_over k parts.0, (run_all is_ascii_hexdigit (drop 3 text), (same_byte (slice_index text (3 + k)) 125 parts.1.0, le_is n 1114111 parts.1.1)))))
    (λ h. let none = (rw h at some) in absurd (omega (arith, none)))

-- ---- an escape by its first byte

escape_or : (in_quotes : Bool) (text : Text) (P : ℕ → Type 0)
    → (0 < escaped_byte (slice_index text 1) → P 2)
    → (in_quotes ≡ true → slice_index text 1 ≡ 34 → P 2)
    → (is_octal_digit (slice_index text 1) ≡ true → P (1 + min 3 (run is_octal_digit text 1)))
    → ((slice_index text 1 == 120 || slice_index text 1 == 88) ≡ true → is_ascii_hexdigit (slice_index text 2) ≡ true → P (2 + min 2 (run is_ascii_hexdigit text 2)))
    → (slice_index text 1 ≡ 117 → slice_index text 2 ≡ 123 → P (scalar_escape text).0)
    → (slice_index text 1 ≡ 123 → P 2)
    → P 1
    → P (escape in_quotes text).0
unfolding escape
escape_or in_quotes text P letters quotes_sign octal hexadecimal scalars braces_sign lone =
    let c = slice_index text 1 in
    let d = slice_index text 2 in
    decide (nat_lt 0 (escaped_byte c)) (λ h. rw h (letters (is_over (escaped_byte c) h))) (λ no_letter.
    decide (in_quotes && c == 34) (λ h. rw (no_letter, h) (quotes_sign (and_left in_quotes (c == 34) h) (same_byte c 34 (and_right in_quotes (c == 34) h)))) (λ no_quote.
    decide (is_octal_digit c) (λ h. rw (no_letter, no_quote, h) (octal h)) (λ no_octal.
    decide ((c == 120 || c == 88) && is_ascii_hexdigit d) (λ h. rw (no_letter, no_quote, no_octal, h) (hexadecimal (and_left (c == 120 || c == 88) (is_ascii_hexdigit d) h) (and_right (c == 120 || c == 88) (is_ascii_hexdigit d) h))) (λ no_hexadecimal.
    decide (c == 117 && d == 123) (λ h. rw (no_letter, no_quote, no_octal, no_hexadecimal, h) (scalars (same_byte c 117 (and_left (c == 117) (d == 123) h)) (same_byte d 123 (and_right (c == 117) (d == 123) h)))) (λ no_scalar.
    decide (c == 123) (λ h. rw (no_letter, no_quote, no_octal, no_hexadecimal, no_scalar, h) (braces_sign (same_byte c 123 h))) (λ h. rw (no_letter, no_quote, no_octal, no_hexadecimal, no_scalar, h) lone))))))

-- ---- forms reach no further

letter_len : (in_quotes : Bool) (text : Text) → 0 < escaped_byte (slice_index text 1) → (escape in_quotes text).0 ≡ 2
unfolding escape
letter_len in_quotes text some = let h = is_positive (escaped_byte (slice_index text 1)) some in rw h refl

quote_len_is : (text : Text) → slice_index text 1 ≡ 34 → (escape true text).0 ≡ 2
unfolding escape
quote_len_is text is = rw is refl

brace_len : (in_quotes : Bool) (text : Text) → slice_index text 1 ≡ 123 → (escape in_quotes text).0 ≡ 2
unfolding escape
brace_len true text is = rw is refl
brace_len false text is = rw is refl

octal_no_letter : (c : ℕ) → is_octal_digit c ≡ true → nat_lt 0 (escaped_byte c) ≡ false
octal_no_letter c octal = grind (arith, common_steps)

octal_no_quote : (in_quotes : Bool) (c : ℕ) → is_octal_digit c ≡ true → (in_quotes && c == 34) ≡ false
octal_no_quote true c octal = grind (arith, common_steps)
octal_no_quote false c octal = refl

octal_len : (in_quotes : Bool) (text : Text) → is_octal_digit (slice_index text 1) ≡ true → (escape in_quotes text).0 ≡ 1 + min 3 (run is_octal_digit text 1)
unfolding escape
octal_len in_quotes text octal =
    let no_letter = octal_no_letter (slice_index text 1) octal in
    let no_quote = octal_no_quote in_quotes (slice_index text 1) octal in
    rw (no_letter, no_quote, octal) refl

small_mark : (in_quotes : Bool) (text : Text) → slice_index text 1 ≡ 120 → is_ascii_hexdigit (slice_index text 2) ≡ true → (escape in_quotes text).0 ≡ 2 + min 2 (run is_ascii_hexdigit text 2)
unfolding escape
small_mark true text is digit = rw (is, digit) refl
small_mark false text is digit = rw (is, digit) refl

great_mark : (in_quotes : Bool) (text : Text) → slice_index text 1 ≡ 88 → is_ascii_hexdigit (slice_index text 2) ≡ true → (escape in_quotes text).0 ≡ 2 + min 2 (run is_ascii_hexdigit text 2)
unfolding escape
great_mark true text is digit = rw (is, digit) refl
great_mark false text is digit = rw (is, digit) refl

hexadecimal_len : (in_quotes : Bool) (text : Text) → (slice_index text 1 == 120 || slice_index text 1 == 88) ≡ true → is_ascii_hexdigit (slice_index text 2) ≡ true → (escape in_quotes text).0 ≡ 2 + min 2 (run is_ascii_hexdigit text 2)
hexadecimal_len in_quotes text mark digit =
    decide (slice_index text 1 == 120)
    (λ h. small_mark in_quotes text (same_byte (slice_index text 1) 120 h) digit)
    (λ h. great_mark in_quotes text (same_byte (slice_index text 1) 88 (or_second (slice_index text 1 == 120) (slice_index text 1 == 88) mark h)) digit)
  where
    or_second : (p q : Bool) → (p || q) ≡ true → p ≡ false → q ≡ true
    or_second true q h not = absurd (cc)
    or_second false q h not = h

below_both : (k m n : ℕ) → k ≤ m → k ≤ n → k ≤ min m n
below_both k m n one two = grind (arith, common_steps)

-- what isn't a malformed `\u{`
abbrev Whole : Text → Type 0
Whole text = BeginsScalar text → (k : ℕ) × IsScalar text k

escape_some : (by : Delimiter) (text : Text) → slice_index text 0 ≡ 92 → Whole text → 0 < (escape (is_quote by) text).0
escape_some by text first whole = by_len (escape (is_quote by) text).0 (λ none.
    let told = escape_none (is_quote by) text none in
    let there = whole (first, told.0) in
    omega (arith, scalar_len text there.0 there.1, told.1))
  where
    by_len : (n : ℕ) → (n ≡ 0 → ⊥) → 0 < n
    by_len zero h = absurd (h refl)
    by_len (suc n) h = omega arith

form_reaches : (by : Delimiter) (f : form.EscapeForm) (text : Text) (n : ℕ) → slice_index text 0 ≡ 92 → Whole text → form.HasEscapeForm by f text n → n ≤ (escape (is_quote by) text).0
form_reaches by form.letter text n first whole has = omega (arith, has.1, letter_len (is_quote by) text has.0)
form_reaches by form.quote_sign text n first whole has =
    omega (arith, has.1.1, ap (λ v. (escape v text).0) has.0, quote_len_is text has.1.0)
form_reaches by form.octal_digits text n first whole has =
    let digits = has.1.1.0 in
    let octal : is_octal_digit (slice_index text 1) ≡ true = ap is_octal_digit (sym (behind_first 1 text)) ∙ digits 0 has.1.0.0 in
    omega (arith, has.1.1.1, octal_len (is_quote by) text octal, below_both has.0 3 (run is_octal_digit text 1) has.1.0.1 (run_reaches is_octal_digit (drop 1 text) has.0 refl digits))
form_reaches by form.hexadecimal_digits text n first whole has =
    let digits = has.1.1.1.0 in
    let digit : is_ascii_hexdigit (slice_index text 2) ≡ true = ap is_ascii_hexdigit (sym (behind_first 2 text)) ∙ digits 0 has.1.1.0.0 in
    omega (arith, has.1.1.1.1, hexadecimal_len (is_quote by) text has.0 digit, below_both has.1.0 2 (run is_ascii_hexdigit text 2) has.1.1.0.1 (run_reaches is_ascii_hexdigit (drop 2 text) has.1.0 refl digits))
form_reaches by form.scalar text n first whole has =
    omega (arith, has.1.1.1, scalar_is (is_quote by) text has.0.1.0 has.0.1.1, scalar_len text has.1.0 has.1.1.0)
form_reaches by form.brace text n first whole has = omega (arith, has.1, brace_len (is_quote by) text has.0)
form_reaches by form.alone text n first whole has = omega (arith, has, escape_some by text first whole)

-- ---- and one of them has that length

abbrev Formed : Delimiter → Text → ℕ → Type 0
Formed by text n = 0 < n → (f : form.EscapeForm) × form.HasEscapeForm by f text n

some_min : (m n : ℕ) → 0 < m → 0 < n → 0 < min m n
some_min m n one two = grind (arith, common_steps)

min_first : (m n : ℕ) → min m n ≤ m
min_first m n = grind (arith, common_steps)

min_second : (m n : ℕ) → min m n ≤ n
min_second m n = grind (arith, common_steps)

run_some : (test : ℕ → Bool) (text : Text) (at : ℕ) → test 0 ≡ false → test (slice_index text at) ≡ true → 0 < run test text at
run_some test text at no_end holds = run_reaches test (drop at text) 1 no_end (first_holds (ap test (behind_first at text) ∙ holds))
  where
    first_holds : test (slice_index (drop at text) 0) ≡ true → AllIn test (drop at text) 1
    first_holds holds zero low = holds
    first_holds holds (suc i) low = absurd (omega arith)

fewer_in : (test : ℕ → Bool) (text : Text) (at m : ℕ) → AllIn test (drop at text) (min m (run test text at))
fewer_in test text at m i low = run_all test (drop at text) i (omega (arith, low, min_second m (run test text at)))

form_there : (by : Delimiter) (text : Text) → slice_index text 0 ≡ 92 → Formed by text (escape (is_quote by) text).0
form_there by text first =
    escape_or (is_quote by) text (Formed by text)
    (λ some _. (form.letter, (some, refl)))
    (λ quoted is _. (form.quote_sign, (quoted, (is, refl))))
    (λ octal _. (form.octal_digits, (min 3 (run is_octal_digit text 1), ((some_min 3 (run is_octal_digit text 1) (omega arith) (run_some is_octal_digit text 1 refl octal), min_first 3 (run is_octal_digit text 1)), (fewer_in is_octal_digit text 1 3, refl)))))
    (λ mark digit _. (form.hexadecimal_digits, (mark, (min 2 (run is_ascii_hexdigit text 2), ((some_min 2 (run is_ascii_hexdigit text 2) (omega arith) (run_some is_ascii_hexdigit text 2 refl digit), min_first 2 (run is_ascii_hexdigit text 2)), (fewer_in is_ascii_hexdigit text 2 2, refl))))))
    (λ second third some. let there = scalar_there text some in (form.scalar, ((first, (second, third)), (there.0, (there.1, scalar_len text there.0 there.1)))))
    (λ is _. (form.brace, (is, refl)))
    (λ _. (form.alone, refl))

-- ---- bytes and escapes are stretches

plain_stretch : (by : Delimiter) (text : Text) (n : ℕ) → IsPlain by text n → (stretch by text).0 ≡ n
unfolding stretch
plain_stretch by text n is =
    let no_backslash = is.0 in
    let no_end = is.1.0 in
    let no_part = is.1.1.0 in
    rw (no_backslash, no_end, no_part) (sym is.1.1.1)

escape_is : (by : Delimiter) (text : Text) (n : ℕ) → IsEscape by text n → (escape (is_quote by) text).0 ≡ n
escape_is by text n is =
    let low = form_reaches by is.form text n is.backslash is.whole is.has in
    let there = form_there by text is.backslash (escape_some by text is.backslash is.whole) in
    le_antisymm (is.longest there.0 (escape (is_quote by) text).0 there.1) low

pub escape_has : (by : Delimiter) (text : Text) → slice_index text 0 ≡ 92 → 0 < (escape (is_quote by) text).0 → IsEscape by text (escape (is_quote by) text).0
escape_has by text first some =
    let there = form_there by text first some in
    let whole : Whole text = λ begins. scalar_there text (omega (arith, some, scalar_is (is_quote by) text begins.1.0 begins.1.1)) in
    record { form = there.0; backslash = first; has = there.1; longest = λ f m has. form_reaches by f text m first whole has; whole = whole }

form_some : (by : Delimiter) (f : form.EscapeForm) (text : Text) (n : ℕ) → form.HasEscapeForm by f text n → 0 < n
form_some by form.letter text n has = omega (arith, has.1)
form_some by form.quote_sign text n has = omega (arith, has.1.1)
form_some by form.octal_digits text n has = omega (arith, has.1.1.1)
form_some by form.hexadecimal_digits text n has = omega (arith, has.1.1.1.1)
form_some by form.scalar text n has = omega (arith, has.1.1.1)
form_some by form.brace text n has = omega (arith, has.1)
form_some by form.alone text n has = omega (arith, has)

pub unit_is : (by : Delimiter) (text : Text) (n : ℕ) → IsPlain by text n ⊎ IsEscape by text n → ((stretch by text).0 ≡ n) × (0 < n)
unit_is by text n unit =
    ⊎_elim (λ plain. (plain_stretch by text n plain, omega (arith, plain.1.1.1)))
    (λ escaped. (backslash_stretch by text escaped.backslash ∙ escape_is by text n escaped, form_some by escaped.form text n escaped.has)) unit

plain_len : (by : Delimiter) (text : Text) → (slice_index text 0 == 92) ≡ false → (stretch by text).0 ≡ cond (ends by text || begins_part text) 0 1
unfolding stretch
plain_len by text no_backslash = decide (ends by text || begins_part text) (λ h. rw (no_backslash, h) refl) (λ h. rw (no_backslash, h) refl)

pub unit_there : (by : Delimiter) (text : Text) → 0 < (stretch by text).0 → IsPlain by text (stretch by text).0 ⊎ IsEscape by text (stretch by text).0
unit_there by text some =
    decide (slice_index text 0 == 92)
    (λ h. let first = same_byte (slice_index text 0) 92 h in
    let same = backslash_stretch by text first in
    inr (subst (IsEscape by text) (sym same) (escape_has by text first (subst (λ n. 0 < n) same some))))
    (λ no_backslash. inl (plain_there by text no_backslash some))
  where
    by_tests : (p q : Bool) → 0 < cond (p || q) 0 1 → (p ≡ false) × ((q ≡ false) × (◌≡◌ {A = ℕ} (cond (p || q) 0 1) 1))
    by_tests true q some = absurd (omega (arith, some))
    by_tests false true some = absurd (omega (arith, some))
    by_tests false false some = (refl, (refl, refl))

    plain_there : (by : Delimiter) (text : Text) → (slice_index text 0 == 92) ≡ false → 0 < (stretch by text).0 → IsPlain by text (stretch by text).0
    plain_there by text no_backslash some =
        let len = plain_len by text no_backslash in
        let told = by_tests (ends by text) (begins_part text) (subst (λ n. 0 < n) len some) in
        (no_backslash, (told.0, (told.1.0, len ∙ told.1.1)))
