-- What stands outside the tags.
use Rattle.std.proofs.Common.{◌≡◌, ◌⊎◌, ℕ, zero, suc, ◌+◌, ◌<◌, ◌≤◌, Bool, true, false, ◌&&◌, ◌||◌, nat_lt, cond, [], ◌∷◌, length, take, Ok, refl, sym, ap, arith, inl, inr, ⊎_elim}
use Rattle.std.specs.Prelude.{slice_index, ◌==◌, codes}
use Rattle.std.specs.Str.{str_to_ascii_lowercase}
use Rattle.std.proofs.lemmas.Grind.{common_steps}
use Rattle.std.proofs.lemmas.Slice.Eq.{bytes_eq-Decides}
use Rattle.php_token.specs.declared.kind.Keyword.TheVariants as Keyword
use Rattle.php_token.specs.declared.kind.TokenKind.TheVariants as Kind
use Rattle.php_lex_pieces.specs.Bytes.{Text, is_blank, newline_len, len_before}
use Rattle.php_lex_pieces.specs.Comments.{begins_echo, begins_tag, open_tag_len, is_tag_name, is_separated, separator_len}
use Rattle.php_lex.specs.Modes.{outside, stay, leave}
use Rattle.php_lex.specs.Pieces.{Found, nothing, one, written, outside_piece}
use Rattle.php_lex_laws.specs.Ranges.{NoneAt}
use Rattle.php_lex_laws.specs.OutsideForms as form
use Rattle.php_lex_laws.proofs.InsideLemmas.{byte_past}
use Rattle.php_lex_laws.proofs.RangeLemmas.{no_both, chosen, decide, same_byte, is_byte, is_over, is_positive, is_under, and_left, and_right, both_hold, none_before, before_within, before_reaches}
use Rattle.php_lex_laws.proofs.Standing.{Reaches, Outcome}

outside_or : (text : Text) (P : Found → Type 0)
    → (begins_echo text ≡ true → P (Ok (one (Kind.Keyword Keyword.Echo) 3 (codes "echo") leave)))
    → (begins_echo text ≡ false → 0 < open_tag_len text → P (Ok (nothing (open_tag_len text) leave)))
    → (begins_echo text ≡ false → open_tag_len text ≡ 0 → P (Ok (written Kind.Inline (len_before begins_tag text) text stay)))
    → P (outside_piece text)
unfolding outside_piece
outside_or text P echo tag bytes =
    decide (begins_echo text) (λ h. rw h (echo h)) (λ no_echo.
    decide (nat_lt 0 (open_tag_len text)) (λ h. rw (no_echo, h) (tag no_echo (is_over (open_tag_len text) h))) (λ h. rw (no_echo, h) (bytes no_echo (is_under (open_tag_len text) h))))

-- ---- start tags

tag_len_is : (text : Text) → is_tag_name text ≡ true → is_separated text 5 ≡ true → open_tag_len text ≡ 5 + separator_len text 5
unfolding open_tag_len
tag_len_is text name separated = chosen (is_tag_name text && is_separated text 5) (5 + separator_len text 5) 0 (both_hold (is_tag_name text) (is_separated text 5) name separated)

or_right : (p q : Bool) → q ≡ true → (p || q) ≡ true
or_right true q h = refl
or_right false q h = h

or_left : (p q : Bool) → p ≡ true → (p || q) ≡ true
or_left true q h = refl
or_left false q h = absurd (cc)

blank_some : (b : ℕ) → is_blank b ≡ true → 0 < b
blank_some b blank = grind (arith, common_steps)

separator_some : (text : Text) → is_blank (slice_index text 5) ≡ true → 0 < separator_len text 5
separator_some text blank =
    let past = byte_past text 5 (blank_some (slice_index text 5) blank) in
    by_newline (newline_len text 5) (not_end (length text) past)
  where
    not_end : (n : ℕ) → 5 < n → (n == 5) ≡ false
    not_end n past = grind (arith, common_steps)

    by_newline : (n : ℕ) → (length text == 5) ≡ false → 0 < cond (nat_lt 0 n) n (cond (length text == 5) 0 1)
    by_newline n longer = decide (nat_lt 0 n) (λ h. rw h (is_over n h)) (λ h. rw (h, longer) (omega arith))

cr_blank : (b : ℕ) → b ≡ 13 → is_blank b ≡ true
cr_blank b is = grind (arith, common_steps)

two_newline : (text : Text) → slice_index text 5 ≡ 13 → slice_index text 6 ≡ 10 → separator_len text 5 ≡ 2
two_newline text cr lf = rw (cr, lf) refl

tag_reaches : (text : Text) (n : ℕ) → form.HasOutsideForm form.open_tag text n → (n ≤ open_tag_len text) × (0 < open_tag_len text)
tag_reaches text n has =
    ⊎_elim
    (λ end. let len = tag_len_is text has.0 (or_left (length text == 5) (is_blank (slice_index text 5)) (is_byte (length text) 5 end.0)) in (omega (arith, len, end.1), omega (arith, len)))
    (⊎_elim
    (λ blank. let len = tag_len_is text has.0 (or_right (length text == 5) (is_blank (slice_index text 5)) blank.0) in (omega (arith, len, blank.1, separator_some text blank.0), omega (arith, len)))
    (λ pair. let len = tag_len_is text has.0 (or_right (length text == 5) (is_blank (slice_index text 5)) (cr_blank (slice_index text 5) pair.0)) in
    (omega (arith, len, pair.1.1, two_newline text pair.0 pair.1.0), omega (arith, len))))
    has.1

if_some : (v : Bool) (n : ℕ) → 0 < cond v n 0 → v ≡ true
if_some true n h = refl
if_some false n h = absurd (omega arith)

-- what separates a tag, by its length
separated_by : (text : Text) → is_separated text 5 ≡ true
    → ((length text ≡ 5) × (separator_len text 5 ≡ 0)) ⊎ (((is_blank (slice_index text 5) ≡ true) × (separator_len text 5 ≡ 1))
    ⊎ ((slice_index text 5 ≡ 13) × ((slice_index text 6 ≡ 10) × (separator_len text 5 ≡ 2))))
separated_by text separated =
    let b = slice_index text 5 in
    let c = slice_index text 6 in
    decide (b == 10)
    (λ lf. inr (inl (lf_blank b (same_byte b 10 lf), rw lf refl)))
    (λ no_lf. decide (b == 13)
    (λ cr. decide (c == 10)
    (λ pair. inr (inr (same_byte b 13 cr, (same_byte c 10 pair, rw (no_lf, cr, pair) refl))))
    (λ alone. inr (inl (cr_blank b (same_byte b 13 cr), rw (no_lf, cr, alone) refl))))
    (λ no_cr. decide (length text == 5)
    (λ end. inl (same_byte (length text) 5 end, rw (no_lf, no_cr, end) refl))
    (λ longer. inr (inl (or_second (length text == 5) (is_blank b) separated longer, rw (no_lf, no_cr, longer) refl)))))
  where
    lf_blank : (b : ℕ) → b ≡ 10 → is_blank b ≡ true
    lf_blank b is = grind (arith, common_steps)

    or_second : (p q : Bool) → (p || q) ≡ true → p ≡ false → q ≡ true
    or_second true q h not = absurd (cc)
    or_second false q h not = h

tag_has : (text : Text) → 0 < open_tag_len text → form.HasOutsideForm form.open_tag text (open_tag_len text)
unfolding open_tag_len
tag_has text some =
    let test = is_tag_name text && is_separated text 5 in
    let holds = if_some test (5 + separator_len text 5) some in
    let len = chosen test (5 + separator_len text 5) 0 holds in (
      and_left (is_tag_name text) (is_separated text 5) holds,
      ⊎_elim
          (λ end. inl (end.0, omega (arith, len, end.1)))
          (⊎_elim
          (λ blank. inr (inl (blank.0, omega (arith, len, blank.1))))
          (λ pair. inr (inr (pair.0, (pair.1.0, omega (arith, len, pair.1.1))))))
          (separated_by text (and_right (is_tag_name text) (is_separated text 5) holds)),
    )

-- a name of a tag isn't `<?=`
third_of : (text : Text) → slice_index text 2 ≡ 61 → slice_index (str_to_ascii_lowercase (take 5 text)) 2 ≡ 61
third_of [] is = absurd (omega (arith, is))
third_of (a ∷ []) is = absurd (omega (arith, is))
third_of (a ∷ b ∷ []) is = absurd (omega (arith, is))
third_of (a ∷ b ∷ c ∷ text) is = rw is refl

echo_third : (text : Text) → begins_echo text ≡ true → slice_index text 2 ≡ 61
unfolding begins_echo
echo_third text echo = same_byte (slice_index text 2) 61 (and_right (slice_index text 0 == 60 && slice_index text 1 == 63) (slice_index text 2 == 61) echo)

no_echo_name : (text : Text) → begins_echo text ≡ true → is_tag_name text ≡ true → ⊥
no_echo_name text echo name =
    let same = (bytes_eq-Decides (str_to_ascii_lowercase (codes "<?php")) (str_to_ascii_lowercase (take 5 text))).0 name in
    let third : 112 ≡ slice_index (str_to_ascii_lowercase (take 5 text)) 2 = ap (λ t. slice_index t 2) same in
    omega (arith, third, third_of text (echo_third text echo))

-- ---- all forms

tag_begins : (text : Text) → (begins_echo text || nat_lt 0 (open_tag_len text)) ≡ true → begins_tag text ≡ true
unfolding begins_tag
tag_begins text h = h

no_tag_begins : (text : Text) → begins_echo text ≡ false → open_tag_len text ≡ 0 → begins_tag text ≡ false
unfolding begins_tag
no_tag_begins text no_echo none = rw (no_echo, none) refl

pub outside_reaches : (line : ℕ) (f : form.OutsideForm) (text : Text) (n : ℕ) → form.HasOutsideForm f text n → Reaches outside line f text n (outside_piece text)
outside_reaches line form.inline text n has =
    outside_or text (Reaches outside line form.inline text n)
    (λ echo. absurd (no_both (begins_tag text) (tag_begins text (or_left (begins_echo text) (nat_lt 0 (open_tag_len text)) echo)) (has.1.1 0 has.0)))
    (λ no_echo some. absurd (no_both (begins_tag text) (tag_begins text (or_right (begins_echo text) (nat_lt 0 (open_tag_len text)) (is_positive (open_tag_len text) some))) (has.1.1 0 has.0)))
    (λ no_echo none. (before_reaches begins_tag text n has.1.0 has.1.1, λ e. ap (λ m. written Kind.Inline m text stay) (sym e)))
outside_reaches line form.echo_tag text n has =
    outside_or text (Reaches outside line form.echo_tag text n)
    (λ echo. (omega (arith, has.1), λ e. ap (λ m. one (Kind.Keyword Keyword.Echo) m (codes "echo") leave) (sym e)))
    (λ no_echo some. absurd (no_both (begins_echo text) has.0 no_echo))
    (λ no_echo none. absurd (no_both (begins_echo text) has.0 no_echo))
outside_reaches line form.open_tag text n has =
    let low = tag_reaches text n has in
    outside_or text (Reaches outside line form.open_tag text n)
    (λ echo. absurd (no_echo_name text echo has.0))
    (λ no_echo some. (low.0, λ e. ap (λ m. nothing m leave) (sym e)))
    (λ no_echo none. absurd (omega (arith, none, low.1)))

pub outside_outcome : (line : ℕ) (text : Text) → 0 < length text → Outcome outside line text (outside_piece text)
outside_outcome line text some =
    outside_or text (Outcome outside line text)
    (λ echo. (form.echo_tag, ((echo, refl), refl)))
    (λ no_echo tag. (form.open_tag, (tag_has text tag, refl)))
    (λ no_echo none. (form.inline, ((before_reaches begins_tag text 1 some (first_none (no_tag_begins text no_echo none)), (before_within begins_tag text, none_before begins_tag text)), refl)))
  where
    first_none : begins_tag text ≡ false → NoneAt begins_tag text 1
    first_none fails zero low = fails
    first_none fails (suc i) low = absurd (omega arith)
