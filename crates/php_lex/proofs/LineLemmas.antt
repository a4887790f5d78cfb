-- Lines, counted by their ends.
use Rattle.std.proofs.Common.{◌≡◌, ℕ, zero, suc, ◌+◌, ◌-◌, ◌<◌, ◌≤◌, Bool, true, false, cond, [], ◌∷◌, length, take, drop, refl, sym, ap, ◌∙◌, subst, arith, zero-add}
use Rattle.std.specs.Prelude.{◌==◌}
use Rattle.std.proofs.lemmas.List.{drop-drop, length-drop, take_rest}
use Rattle.memchr.specs.Find.{Nowhere, Passes, is_byte}
use Rattle.php_lex_pieces.specs.Bytes.{Text}
use Rattle.php_lex.specs.Lines.{line_len}
use Rattle.php_lex.specs.Reading.{line_after, lines_after}
use Rattle.php_lex_pieces.proofs.RunLemmas.{part}

-- ---- searches

not_passed : (v : Bool) → (v ≡ true → ⊥) → v ≡ false
not_passed true none = absurd (none refl)
not_passed false none = refl

first_is : (text : Text) (k : ℕ) → k ≤ length text → Nowhere (Passes (is_byte 10) text) 0 k → Passes (is_byte 10) text k → line_len text ≡ k
first_is [] k within nowhere here = omega arith
first_is (b ∷ text) zero within nowhere here = ap (λ v. cond v 0 (suc (line_len text))) here
first_is (b ∷ text) (suc k) within nowhere here =
    let other = not_passed (b == 10) (nowhere 0 (omega arith) (omega arith)) in
    ap (λ v. cond v 0 (suc (line_len text))) other ∙ ap suc (first_is text k (omega arith) (λ i low high. nowhere (suc i) (omega arith) (omega arith)) here)

none_is : (text : Text) → Nowhere (Passes (is_byte 10) text) 0 (length text) → line_len text ≡ length text
none_is [] nowhere = refl
none_is (b ∷ text) nowhere =
    let other = not_passed (b == 10) (nowhere 0 (omega arith) (omega arith)) in
    ap (λ v. cond v 0 (suc (line_len text))) other ∙ ap suc (none_is text (λ i low high. nowhere (suc i) (omega arith) (omega arith)))

pub found_end : (text : Text) (at k : ℕ) → k ≤ length (part text at) → Nowhere (Passes (is_byte 10) (part text at)) 0 k → Passes (is_byte 10) (part text at) k → at + k ≡ at + line_len (drop at text)
found_end text at k within nowhere here =
    let len : line_len (drop at text) ≡ k = sym (ap line_len (take_rest text at)) ∙ first_is (part text at) k within nowhere here in
    omega (arith, len)

pub no_end : (text : Text) (at : ℕ) → at ≤ length text → Nowhere (Passes (is_byte 10) (part text at)) 0 (length (part text at)) → length text ≡ at + line_len (drop at text)
no_end text at within nowhere =
    let len : line_len (drop at text) ≡ length (drop at text) = sym (ap line_len (take_rest text at)) ∙ none_is (part text at) nowhere ∙ ap length (take_rest text at) in
    omega (arith, len, length-drop at text)

-- ---- counts

-- a place lies before the end of a line
on_line : (v : Bool) (n k : ℕ) → suc n ≤ cond v 0 (suc k) → (v ≡ false) × (n ≤ k)
on_line true n k h = absurd (omega arith)
on_line false n k h = (refl, omega arith)

same_line : (line n : ℕ) (text : Text) → n ≤ line_len text → lines_after line (take n text) ≡ line
same_line line zero [] h = refl
same_line line zero (b ∷ text) h = refl
same_line line (suc n) [] h = refl
same_line line (suc n) (b ∷ text) h =
    let before = on_line (b == 10) n (line_len text) h in
    ap (λ v. lines_after (cond v (line + 1) line) (take n text)) before.0 ∙ same_line line n text before.1

same_end : (n : ℕ) (text : Text) → n ≤ line_len text → n + line_len (drop n text) ≡ line_len text
same_end zero [] h = refl
same_end zero (b ∷ text) h = zero-add _
same_end (suc n) [] h = absurd (omega arith)
same_end (suc n) (b ∷ text) h =
    let before = on_line (b == 10) n (line_len text) h in
    let here : line_len (b ∷ text) ≡ suc (line_len text) = ap (λ v. cond v 0 (suc (line_len text))) before.0 in
    omega (arith, here, same_end n text before.1)

ends_here : (v : Bool) (k : ℕ) → cond v 0 (suc k) ≡ 0 → v ≡ true
ends_here true k h = refl
ends_here false k h = absurd (omega arith)

ends_later : (v : Bool) (n k : ℕ) → cond v 0 (suc k) ≡ suc n → (v ≡ false) × (k ≡ n)
ends_later true n k h = absurd (omega arith)
ends_later false n k h = (refl, omega arith)

next_line : (line : ℕ) (text : Text) (n k : ℕ) → line_len text ≡ k → k < n → n ≤ length text → lines_after line (take n text) ≡ lines_after (line + 1) (take (n - (k + 1)) (drop (k + 1) text))
next_line line [] n k is more within = absurd (omega arith)
next_line line (b ∷ text) zero k is more within = absurd (omega arith)
next_line line (b ∷ text) (suc n) zero is more within =
    let count : suc n - (0 + 1) ≡ n = omega arith in
    ap (λ v. lines_after (cond v (line + 1) line) (take n text)) (ends_here (b == 10) (line_len text) is)
    ∙ sym (ap (λ m. lines_after (line + 1) (take m (drop (0 + 1) (b ∷ text)))) count)
next_line line (b ∷ text) (suc n) (suc k) is more within =
    let later = ends_later (b == 10) k (line_len text) is in
    let count : suc n - (suc k + 1) ≡ n - (k + 1) = omega arith in
    let place : suc k + 1 ≡ suc (k + 1) = omega arith in
    ap (λ v. lines_after (cond v (line + 1) line) (take n text)) later.0
    ∙ next_line line text n k later.1 (omega arith) (omega arith)
    ∙ sym (ap (λ m. lines_after (line + 1) (take m (drop (suc k + 1) (b ∷ text)))) count ∙ ap (λ m. lines_after (line + 1) (take (n - (k + 1)) (drop m (b ∷ text)))) place)

-- a line begins behind the end of one
pub line_goes : (line : ℕ) (text : Text) (begin end to : ℕ) → end ≡ begin + line_len (drop begin text) → end < to → to ≤ length text
    → lines_after (line + 1) (take (to - (end + 1)) (drop (end + 1) text)) ≡ lines_after line (take (to - begin) (drop begin text))
line_goes line text begin end to is more within =
    let k = line_len (drop begin text) in
    let next = next_line line (drop begin text) (to - begin) k refl (omega (arith, is)) (omega (arith, length-drop begin text)) in
    let count : to - begin - (k + 1) ≡ to - (end + 1) = omega (arith, is) in
    let place : begin + (k + 1) ≡ end + 1 = omega (arith, is) in
    sym (next ∙ ap (λ m. lines_after (line + 1) (take m (drop (k + 1) (drop begin text)))) count
    ∙ ap (λ t. lines_after (line + 1) (take (to - (end + 1)) t)) (drop-drop (k + 1) begin text)
    ∙ ap (λ m. lines_after (line + 1) (take (to - (end + 1)) (drop m text))) place)

-- no line ends before the place
pub line_stays : (line : ℕ) (text : Text) (begin end to : ℕ) → end ≡ begin + line_len (drop begin text) → begin ≤ to → to ≤ end
    → (lines_after line (take (to - begin) (drop begin text)) ≡ line) × (end ≡ to + line_len (drop to text))
line_stays line text begin end to is rises before =
    let n = to - begin in
    let fits : n ≤ line_len (drop begin text) = omega (arith, is) in
    let rest = same_end n (drop begin text) fits in
    let place : begin + n ≡ to = omega arith in
    let behind : line_len (drop n (drop begin text)) ≡ line_len (drop to text) = ap line_len (drop-drop n begin text) ∙ ap (λ m. line_len (drop m text)) place in
    (same_line line n (drop begin text) fits, omega (arith, rest, behind, is))

choice_within : (v : Bool) (n m : ℕ) → n ≤ m → cond v 0 (suc n) ≤ suc m
choice_within true n m h = omega arith
choice_within false n m h = omega arith

len_within : (text : Text) → line_len text ≤ length text
len_within [] = omega arith
len_within (b ∷ text) = choice_within (b == 10) (line_len text) (length text) (len_within text)

-- a line ends in the text
pub end_within : (text : Text) (at end : ℕ) → at ≤ length text → end ≡ at + line_len (drop at text) → end ≤ length text
end_within text at end within is = omega (arith, is, len_within (drop at text), length-drop at text)
