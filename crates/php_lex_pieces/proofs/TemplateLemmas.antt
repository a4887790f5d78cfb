-- Which bytes begin what ends a heredoc, and how far its text goes.
use Rattle.std.proofs.Common.{◌≡◌, ℕ, zero, suc, ◌+◌, ◌-◌, ◌<◌, ◌≤◌, Bool, true, false, ◌&&◌, ◌||◌, cond, nat_lt, [], ◌∷◌, ◌++◌, length, drop, refl, sym, ap, ◌∙◌, subst, arith, zero-add}
use Rattle.std.proofs.lemmas.Grind.{common_steps}
use Rattle.std.proofs.lemmas.List.{drop-drop, length-drop, take_rest}
use Rattle.std.specs.Prelude.{slice_index, ◌==◌}
use Rattle.memchr.specs.Find.{is_byte3}
use Rattle.php_lex_pieces.specs.declared.escapes.Meaning.{Meaning}
use Rattle.php_lex_pieces.specs.Bytes.{Text, line_end_len}
use Rattle.php_lex_pieces.specs.Search.{Wants}
use Rattle.php_lex_pieces.specs.Templates.{Delimiter, is_label_line, closing_len, closes, stretch, meant, text_len_from, text_len, text_value_from, text_value}
use Rattle.php_lex_pieces.proofs.RunLemmas.{part}

line_end_wants : (b c : ℕ) → nat_lt 0 (cond (b == 10) 1 (cond (b == 13 && c == 10) 2 0)) ≡ true → (b == 10 || b == 13 || b == 10) ≡ true
line_end_wants b c h = by_cases (b == 10) (b == 13) (c == 10) h
  where
    by_cases : (p q r : Bool) → nat_lt 0 (cond p 1 (cond (q && r) 2 0)) ≡ true → (p || q || p) ≡ true
    by_cases true q r h = refl
    by_cases false true r h = refl
    by_cases false false r h = h

both_left : (p q : Bool) (n : ℕ) → nat_lt 0 (cond (p && q) n 0) ≡ true → p ≡ true
both_left true q n h = refl
both_left false q n h = h

pub closes_wants : (name : Text) → Wants (closes name) (is_byte3 10 13 10)
unfolding closing_len
closes_wants name t h =
    line_end_wants (slice_index t 0) (slice_index t 1) (both_left (nat_lt 0 (line_end_len t 0)) (is_label_line name (drop (line_end_len t 0) t)) (line_end_len t 0 + length name) h)

-- ---- how far a text goes

pub text_len_from-drop : (n : ℕ) (by : Delimiter) (text : Text) → n ≤ length text → text_len_from n by text ≡ n + text_len_from 0 by (drop n text)
text_len_from-drop zero by text h = sym (zero-add _)
text_len_from-drop (suc n) by [] h = absurd (omega arith)
text_len_from-drop (suc n) by (b ∷ text) h = omega (arith, text_len_from-drop n by text (omega arith))

text_value_from-drop : (n : ℕ) (by : Delimiter) (text : Text) → text_value_from n by text ≡ text_value_from 0 by (drop n text)
text_value_from-drop zero by text = refl
text_value_from-drop (suc n) by [] = refl
text_value_from-drop (suc n) by (b ∷ text) = text_value_from-drop n by text

drop-cons : (n b : ℕ) (text : Text) → 1 ≤ n → drop (n - 1) text ≡ drop n (b ∷ text)
drop-cons zero b text h = absurd (omega arith)
drop-cons (suc n) b text h = let e : suc n - 1 ≡ n = omega arith in ap (λ k. drop k text) e

is_not_zero : (n : ℕ) → 1 ≤ n → (n == 0) ≡ false
is_not_zero n h = grind (arith, common_steps)

pub text_len_goes : (by : Delimiter) (text : Text) → 1 ≤ (stretch by text).0 → (stretch by text).0 ≤ length text → text_len by text ≡ (stretch by text).0 + text_len by (drop (stretch by text).0 text)
text_len_goes by [] some within = absurd (omega arith)
text_len_goes by (b ∷ text) some within =
    let n = (stretch by (b ∷ text)).0 in
    let here : text_len by (b ∷ text) ≡ suc (text_len_from (n - 1) by text) = ap (λ v. cond v 0 (suc (text_len_from (n - 1) by text))) (is_not_zero n some) in
    let later = text_len_from-drop (n - 1) by text (omega arith) in
    let rest : text_len_from 0 by (drop (n - 1) text) ≡ text_len_from 0 by (drop n (b ∷ text)) = ap (text_len_from 0 by) (drop-cons n b text some) in
    omega (arith, here, later, rest, some)

pub text_len_stops : (by : Delimiter) (text : Text) → (stretch by text).0 ≡ 0 → text_len by text ≡ 0
text_len_stops by [] none = refl
text_len_stops by (b ∷ text) none = ap (λ n. cond (n == 0) 0 (suc (text_len_from (n - 1) by text))) none

pub text_value_goes : (by : Delimiter) (text : Text) → 1 ≤ (stretch by text).0 → 0 < length text → text_value by text ≡ meant text (stretch by text) ++ text_value by (drop (stretch by text).0 text)
text_value_goes by [] some more = absurd (omega arith)
text_value_goes by (b ∷ text) some more =
    let found = stretch by (b ∷ text) in
    ap (λ v. cond v [] (meant (b ∷ text) found ++ text_value_from (found.0 - 1) by text)) (is_not_zero found.0 some)
    ∙ ap (λ t. meant (b ∷ text) found ++ t) (text_value_from-drop (found.0 - 1) by text ∙ ap (text_value_from 0 by) (drop-cons found.0 b text some))

pub text_value_stops : (by : Delimiter) (text : Text) → (stretch by text).0 ≡ 0 → text_value by text ≡ []
text_value_stops by [] none = refl
text_value_stops by (b ∷ text) none = ap (λ n. cond (n == 0) [] (meant (b ∷ text) (stretch by (b ∷ text)) ++ text_value_from ((stretch by (b ∷ text)).0 - 1) by text)) none

-- ---- the same at a place of a longer text

pub text_len_more : (by : Delimiter) (text : Text) (at n : ℕ) → n ≡ (stretch by (part text at)).0 → (n ≡ 0 → ⊥) → n ≤ length (part text at) → at + n + text_len by (drop (at + n) text) ≡ at + text_len by (drop at text)
text_len_more by text at n is some within =
    let whole = take_rest text at in
    let here : n ≡ (stretch by (drop at text)).0 = is ∙ ap (λ t. (stretch by t).0) whole in
    let positive : 1 ≤ n = omega arith in
    let goes = text_len_goes by (drop at text) (subst (λ k. 1 ≤ k) here positive) (subst (λ k. k ≤ length (drop at text)) here (omega (arith, ap length whole))) in
    let moved : text_len by (drop at text) ≡ n + text_len by (drop n (drop at text)) = subst (λ k. text_len by (drop at text) ≡ k + text_len by (drop k (drop at text))) (sym here) goes in
    let behind : text_len by (drop n (drop at text)) ≡ text_len by (drop (at + n) text) = ap (text_len by) (drop-drop n at text) in
    omega (arith, moved, behind)

pub text_value_more : (by : Delimiter) (text : Text) (at : ℕ) (found : ℕ × Meaning) → found ≡ stretch by (part text at) → (found.0 ≡ 0 → ⊥) → at < length text → text_value by (drop at text) ≡ meant (part text at) found ++ text_value by (drop (at + found.0) text)
text_value_more by text at found is some more =
    let whole = take_rest text at in
    let here : found ≡ stretch by (drop at text) = is ∙ ap (stretch by) whole in
    let positive : 1 ≤ found.0 = omega arith in
    let goes = text_value_goes by (drop at text) (subst (λ k. 1 ≤ k.0) here positive) (omega (arith, length-drop at text)) in
    let moved : text_value by (drop at text) ≡ meant (drop at text) found ++ text_value by (drop found.0 (drop at text)) = subst (λ f. text_value by (drop at text) ≡ meant (drop at text) f ++ text_value by (drop f.0 (drop at text))) (sym here) goes in
    moved ∙ ap (λ t. meant t found ++ text_value by (drop found.0 (drop at text))) (sym whole) ∙ ap (λ t. meant (part text at) found ++ text_value by t) (drop-drop found.0 at text)

pub text_value_ends : (by : Delimiter) (text : Text) (at : ℕ) (found : ℕ × Meaning) → found ≡ stretch by (part text at) → found.0 ≡ 0 → text_value by (drop at text) ≡ []
text_value_ends by text at found is none =
    text_value_stops by (drop at text) (ap (λ t. (stretch by t).0) (sym (take_rest text at)) ∙ ap (λ f. f.0) (sym is) ∙ none)
