-- The first line of a heredoc.
use Rattle.std.proofs.Common.{◌≡◌, ◌⊎◌, ℕ, zero, suc, ◌+◌, ◌<◌, Bool, true, false, ◌&&◌, ◌||◌, nat_lt, cond, length, drop, Some, refl, sym, ap, ◌∙◌, subst, arith, inl, inr, ⊎_elim}
use Rattle.std.specs.Prelude.{slice_index, ◌==◌}
use Rattle.std.proofs.lemmas.Grind.{common_steps}
use Rattle.php_lex_pieces.specs.Bytes.{Text, is_gap, is_name_start, is_name_byte, run, name_len, line_end_len}
use Rattle.php_lex_pieces.specs.Heredocs.{opening, labelled}
use Rattle.php_lex.specs.Modes.{Mode}
use Rattle.php_lex.specs.Pieces.{Found, labelled_piece, heredoc_or_sign, sign_piece}
use Rattle.php_lex_pieces.specs.Punctuators.{punctuator}
use Rattle.php_lex_pieces.specs.Templates.{label, closes, closing_len, is_label_line, stretch, ends}
use Rattle.php_lex_laws.specs.Ranges.{AllIn, IsName}
use Rattle.php_lex_laws.specs.ScriptForms.{Label, Opens, quote_len}
use Rattle.php_lex_laws.proofs.RangeLemmas.{no_both, chosen, other, decide, same_byte, is_byte, is_over, is_positive, and_left, and_right, both_hold, run_is, run_all, behind, behind_first, name_is, name_there}

is_one : (n : ℕ) → 0 < n → (n == 0) ≡ false
is_one n some = grind (arith, common_steps)

goes_past : (at k : ℕ) → 0 < k → nat_lt at (at + k) ≡ true
goes_past at k some = grind (arith, common_steps)

after_is : (q e : ℕ) → cond (nat_lt 0 q) (e + 1) e ≡ e + quote_len q
after_is zero e = omega arith
after_is (suc q) e = let some = is_positive (suc q) (omega arith) in let none = is_one (suc q) (omega arith) in rw (some, none) refl

pub line_byte : (b c : ℕ) → 0 < cond (b == 10) 1 (cond (b == 13 && c == 10) 2 0) → (b == 10 || b == 13) ≡ true
line_byte b c some = by_cases (b == 10) (b == 13) (c == 10) some
  where
    by_cases : (p q r : Bool) → 0 < cond p 1 (cond (q && r) 2 0) → (p || q) ≡ true
    by_cases true q r h = refl
    by_cases false true r h = refl
    by_cases false false r h = absurd (omega arith)

line_no_name : (b : ℕ) → (b == 10 || b == 13) ≡ true → is_name_byte b ≡ false
line_no_name b line = grind (arith, common_steps)

-- the line's end is no byte of a name
pub line_stops : (text : Text) (at : ℕ) → 0 < line_end_len text at → is_name_byte (slice_index text at) ≡ false
line_stops text at some = line_no_name (slice_index text at) (line_byte (slice_index text at) (slice_index text (at + 1)) some)

labelled_is : (text : Text) (q at k : ℕ) → IsName (drop at text) k → is_name_byte (slice_index text (at + k)) ≡ false → (q == 0 || slice_index text (at + k) == q) ≡ true
    → 0 < line_end_len text (at + k + quote_len q)
    → labelled text q at ≡ Some (record { start = at; end = at + k; is_raw = q == 39; len = at + k + quote_len q + line_end_len text (at + k + quote_len q) })
labelled_is text q at k name stops closed newline =
    let len = name_is text at k name stops in
    let longer = goes_past at k name.0 in
    rw (len, after_is q (at + k)) (chosen (nat_lt at (at + k) && (q == 0 || slice_index text (at + k) == q) && nat_lt 0 (line_end_len text (at + k + quote_len q))) _ _
    (both_hold (nat_lt at (at + k) && (q == 0 || slice_index text (at + k) == q)) (nat_lt 0 (line_end_len text (at + k + quote_len q)))
    (both_hold (nat_lt at (at + k)) (q == 0 || slice_index text (at + k) == q) longer closed)
    (is_positive (line_end_len text (at + k + quote_len q)) newline)))

name_no_gap : (b : ℕ) → is_name_start b ≡ true → is_gap b ≡ false
name_no_gap b name = grind (arith, common_steps)

name_no_quote : (b : ℕ) → is_name_start b ≡ true → (b == 34 || b == 39) ≡ false
name_no_quote b name = grind (arith, common_steps)

quote_no_gap : (b : ℕ) → (b ≡ 34) ⊎ (b ≡ 39) → is_gap b ≡ false
quote_no_gap b is = ⊎_elim (λ e. grind (arith, common_steps)) (λ e. grind (arith, common_steps)) is

quote_is : (b : ℕ) → (b ≡ 34) ⊎ (b ≡ 39) → (b == 34 || b == 39) ≡ true
quote_is b is = ⊎_elim (λ e. grind (arith, common_steps)) (λ e. grind (arith, common_steps)) is

quote_no_name : (b : ℕ) → (b ≡ 34) ⊎ (b ≡ 39) → is_name_byte b ≡ false
quote_no_name b is = ⊎_elim (λ e. grind (arith, common_steps)) (λ e. grind (arith, common_steps)) is

either_is : (b : ℕ) → (b == 34 || b == 39) ≡ true → (b ≡ 34) ⊎ (b ≡ 39)
either_is b is = decide (b == 34) (λ e. inl (same_byte b 34 e)) (λ e. inr (grind (arith, common_steps)))

if_over : (v : Bool) (n : ℕ) → nat_lt 0 (cond v n 0) ≡ true → v ≡ true
if_over true n h = refl
if_over false n h = h

-- what closes a heredoc begins with the end of a line
pub closes_line : (name text : Text) → closes name text ≡ true → 0 < line_end_len text 0
unfolding closing_len
closes_line name text closing =
    let newline = line_end_len text 0 in
    let labelled_line = is_label_line name (drop newline text) in
    is_over newline (and_left (nat_lt 0 newline) labelled_line (if_over (nat_lt 0 newline && labelled_line) (newline + length name) closing))

line_no_backslash : (b : ℕ) → (b == 10 || b == 13) ≡ true → (b == 92) ≡ false
line_no_backslash b line = grind (arith, common_steps)

pub label_stops : (name text : Text) → closes name text ≡ true → (stretch (label name) text).0 ≡ 0
unfolding stretch ends
label_stops name text closing =
    let no_backslash = line_no_backslash (slice_index text 0) (line_byte (slice_index text 0) (slice_index text 1) (closes_line name text closing)) in
    rw (no_backslash, closing) refl

-- ---- the first line

three : (text : Text) → (slice_index text 0 ≡ 60) × ((slice_index text 1 ≡ 60) × (slice_index text 2 ≡ 60)) → (slice_index text 0 == 60 && slice_index text 1 == 60 && slice_index text 2 == 60) ≡ true
three text signs =
    both_hold (slice_index text 0 == 60 && slice_index text 1 == 60) (slice_index text 2 == 60)
    (both_hold (slice_index text 0 == 60) (slice_index text 1 == 60) (is_byte (slice_index text 0) 60 signs.0) (is_byte (slice_index text 1) 60 signs.1.0))
    (is_byte (slice_index text 2) 60 signs.1.1)

-- a label without quotes
plain_is : (text : Text) (l : Label) → Opens text l → l.quote ≡ 0 → opening text ≡ Some (record { start = l.at; end = l.at + l.len; is_raw = l.quote == 39; len = l.start })
unfolding opening
plain_is text l o plain =
    let here : 3 + o.gap ≡ l.at = omega (arith, o.place, ap quote_len plain) in
    let starts : is_name_start (slice_index text (3 + o.gap)) ≡ true = ap (λ i. is_name_start (slice_index text i)) here ∙ ap is_name_start (sym (behind_first l.at text)) ∙ o.name.1.0 in
    let gaps : run is_gap text 3 ≡ o.gap = run_is is_gap (drop 3 text) o.gap refl o.gaps (ap is_gap (behind 3 text o.gap) ∙ name_no_gap (slice_index text (3 + o.gap)) starts) in
    let gate = three text o.signs in
    let mark = name_no_quote (slice_index text (3 + o.gap)) starts in
    let newline : 0 < line_end_len text (l.at + l.len + quote_len 0) = subst (λ q. 0 < line_end_len text (l.at + l.len + quote_len q)) plain o.newline in
    let end : l.at + l.len + quote_len 0 ≡ l.at + l.len = omega arith in
    let stops : is_name_byte (slice_index text (l.at + l.len)) ≡ false = ap (λ i. is_name_byte (slice_index text i)) (sym end) ∙ line_stops text (l.at + l.len + quote_len 0) newline in
    rw (o.start, plain, gaps, gate, mark, here) (labelled_is text 0 l.at l.len o.name stops refl newline)

or_right : (p q : Bool) → q ≡ true → (p || q) ≡ true
or_right true q h = refl
or_right false q h = h

quote_no_zero : (q : ℕ) → (q ≡ 34) ⊎ (q ≡ 39) → (q == 0) ≡ false
quote_no_zero q is = ⊎_elim (λ e. grind (arith, common_steps)) (λ e. grind (arith, common_steps)) is

of_two : {A : Type 0} (q : ℕ) → (q ≡ 34) ⊎ (q ≡ 39) → (q ≡ 0) ⊎ A → A
of_two q marked (inl none) = absurd (no_both (q == 0) (is_byte q 0 none) (quote_no_zero q marked))
of_two q marked (inr a) = a

quoted_is : (text : Text) (l : Label) → Opens text l → (l.quote ≡ 34) ⊎ (l.quote ≡ 39) → opening text ≡ Some (record { start = l.at; end = l.at + l.len; is_raw = l.quote == 39; len = l.start })
unfolding opening
quoted_is text l o marked =
    let one : quote_len l.quote ≡ 1 = other (l.quote == 0) 0 1 (quote_no_zero l.quote marked) in
    let here : 3 + o.gap + 1 ≡ l.at = omega (arith, o.place, one) in
    let first : slice_index text (3 + o.gap) ≡ l.quote = (of_two l.quote marked o.opened).1 in
    let gaps : run is_gap text 3 ≡ o.gap = run_is is_gap (drop 3 text) o.gap refl o.gaps (ap is_gap (behind 3 text o.gap ∙ first) ∙ quote_no_gap l.quote marked) in
    let gate = three text o.signs in
    let mark = quote_is l.quote marked in
    let last : slice_index text (l.at + l.len) ≡ l.quote = of_two l.quote marked o.closed in
    let stops : is_name_byte (slice_index text (l.at + l.len)) ≡ false = ap is_name_byte last ∙ quote_no_name l.quote marked in
    let closed = or_right (l.quote == 0) (slice_index text (l.at + l.len) == l.quote) (is_byte (slice_index text (l.at + l.len)) l.quote last) in
    rw (o.start, gaps, gate, first, mark, here) (labelled_is text l.quote l.at l.len o.name stops closed o.newline)

-- where a first line stands, the definition finds it
pub opening_is : (text : Text) (l : Label) → Opens text l → opening text ≡ Some (record { start = l.at; end = l.at + l.len; is_raw = l.quote == 39; len = l.start })
opening_is text l o = ⊎_elim (plain_is text l o) (λ marked. quoted_is text l o marked.0) o.opened

pub and_last : (p q r : Bool) → (p && q && r) ≡ true → (p ≡ true) × ((q ≡ true) × (r ≡ true))
and_last p q r h = (and_left p q (and_left (p && q) r h), (and_right p q (and_left (p && q) r h), and_right (p && q) r h))

is_past : (at k : ℕ) → nat_lt at (at + k) ≡ true → 0 < k
is_past at k h = grind (arith, common_steps)

closed_is : (q b : ℕ) → (q == 0 || b == q) ≡ true → (q ≡ 0) ⊎ (b ≡ q)
closed_is q b h = decide (q == 0) (λ none. inl (same_byte q 0 none)) (λ some. inr (grind (arith, common_steps)))

-- a label from a place on, or none
labelled_or : (mode : Mode) (line : ℕ) (text : Text) (P : Found → Type 0) (q at gap : ℕ)
    → (slice_index text 0 ≡ 60) × ((slice_index text 1 ≡ 60) × (slice_index text 2 ≡ 60)) → AllIn is_gap (drop 3 text) gap
    → at ≡ 3 + gap + quote_len q → (q ≡ 0) ⊎ (((q ≡ 34) ⊎ (q ≡ 39)) × (slice_index text (3 + gap) ≡ q))
    → ((l : Label) → Opens text l → P (labelled_piece line text (record { start = l.at; end = l.at + l.len; is_raw = l.quote == 39; len = l.start })))
    → P (sign_piece mode line text (punctuator text)) → P (heredoc_or_sign mode line text (labelled text q at))
labelled_or mode line text P q at gap signs gaps place opened found none =
    let k = name_len text at in
    let end = at + k in
    decide (nat_lt at end && (q == 0 || slice_index text end == q) && nat_lt 0 (line_end_len text (cond (nat_lt 0 q) (end + 1) end)))
    (λ is.
    let parts = and_last (nat_lt at end) (q == 0 || slice_index text end == q) (nat_lt 0 (line_end_len text (cond (nat_lt 0 q) (end + 1) end))) is in
    let after = after_is q end in
    let l : Label = record { quote = q; at = at; len = k; start = cond (nat_lt 0 q) (end + 1) end + line_end_len text (cond (nat_lt 0 q) (end + 1) end) } in
    let o : Opens text l = record {
      signs = signs;
      gap = gap;
      gaps = gaps;
      place = place;
      opened = opened;
      name = name_there text at (is_past at k parts.0);
      closed = closed_is q (slice_index text end) parts.1.0;
      newline = subst (λ i. 0 < line_end_len text i) after (is_over (line_end_len text (cond (nat_lt 0 q) (end + 1) end)) parts.1.1);
      start = ap (λ i. i + line_end_len text i) after;
    } in
    rw is (found l o))
    (λ not. rw not none)

three_are : (a b c : ℕ) → (a == 60 && b == 60 && c == 60) ≡ true → (a ≡ 60) × ((b ≡ 60) × (c ≡ 60))
three_are a b c h = let parts = and_last (a == 60) (b == 60) (c == 60) h in (same_byte a 60 parts.0, (same_byte b 60 parts.1.0, same_byte c 60 parts.1.1))

-- a first line, or none
pub opened_or : (mode : Mode) (line : ℕ) (text : Text) (P : Found → Type 0)
    → ((l : Label) → Opens text l → P (labelled_piece line text (record { start = l.at; end = l.at + l.len; is_raw = l.quote == 39; len = l.start })))
    → P (sign_piece mode line text (punctuator text)) → P (heredoc_or_sign mode line text (opening text))
unfolding opening
opened_or mode line text P found none =
    let gap = run is_gap text 3 in
    let b = slice_index text (3 + gap) in
    decide (slice_index text 0 == 60 && slice_index text 1 == 60 && slice_index text 2 == 60)
    (λ gate.
    let signs = three_are (slice_index text 0) (slice_index text 1) (slice_index text 2) gate in
    rw gate (decide (b == 34 || b == 39)
    (λ mark.
    let marked = either_is b mark in
    let one : quote_len b ≡ 1 = other (b == 0) 0 1 (quote_no_zero b marked) in
    rw mark (labelled_or mode line text P b (3 + gap + 1) gap signs (run_all is_gap (drop 3 text)) (omega (arith, one)) (inr (marked, refl)) found none))
    (λ plain. rw plain (labelled_or mode line text P 0 (3 + gap) gap signs (run_all is_gap (drop 3 text)) (omega arith) (inl refl) found none))))
    (λ not. rw not none)
