-- Which bytes begin what ends a comment, inline text and text in single quotes.
use Rattle.std.proofs.Common.{get_or-drop, ◌≡◌, ℕ, zero, suc, ◌+◌, ◌<◌, ◌≤◌, Bool, true, false, ◌&&◌, ◌||◌, cond, nat_lt, [], ◌∷◌, length, drop, get_or, refl, sym, ap, ◌∙◌, subst, arith, zero-add}
use Rattle.std.proofs.Math.Seq.{drop-length}
use Rattle.std.proofs.lemmas.Grind.{common_steps}
use Rattle.std.proofs.lemmas.List.{drop-drop, length-drop, take_rest}
use Rattle.std.specs.Prelude.{slice_index, ◌==◌}
use Rattle.memchr.specs.Find.{Nowhere, Passes, is_byte, is_byte2, is_byte3}
use Rattle.php_lex_pieces.specs.Bytes.{Text}
use Rattle.php_lex_pieces.specs.Comments.{ends_comment, ends_block, begins_echo, is_tag_name, is_separated, separator_len, open_tag_len, begins_tag, raw_len}
use Rattle.php_lex_pieces.specs.Search.{Wants}
use Rattle.php_lex_pieces.proofs.RunLemmas.{part}

either_of_three : (p q r s : Bool) → ((p || q) || (r && s)) ≡ true → ((p || q) || r) ≡ true
either_of_three true q r s h = refl
either_of_three false true r s h = refl
either_of_three false false true s h = refl
either_of_three false false false s h = h

left_of : (p q : Bool) → (p && q) ≡ true → p ≡ true
left_of true q h = refl
left_of false q h = h

pub comment_wants : Wants ends_comment (is_byte3 10 13 63)
unfolding ends_comment
comment_wants t h = either_of_three (slice_index t 0 == 10) (slice_index t 0 == 13) (slice_index t 0 == 63) (slice_index t 1 == 62) h

pub block_wants : Wants ends_block (is_byte 42)
unfolding ends_block
block_wants t h = left_of (slice_index t 0 == 42) (slice_index t 1 == 47) h

tag_name_wants : (t : Text) → is_tag_name t ≡ true → (slice_index t 0 == 60) ≡ true
tag_name_wants [] h = absurd (cc)
tag_name_wants (b ∷ t) h = grind (arith, common_steps)

choice_positive : (v : Bool) (n : ℕ) → nat_lt 0 (cond v n 0) ≡ true → v ≡ true
choice_positive true n h = refl
choice_positive false n h = h

neither : (p q : Bool) → ((p || q) ≡ true → ⊥) → (p ≡ false) × (q ≡ false)
neither true q not_either = absurd (not_either refl)
neither false true not_either = absurd (not_either refl)
neither false false not_either = (refl, refl)

or_cases : (p q r : Bool) → (p || q) ≡ true → (p ≡ true → r ≡ true) → (q ≡ true → r ≡ true) → r ≡ true
or_cases true q r h left right = left refl
or_cases false q r h left right = right h

pub tag_wants : Wants begins_tag (is_byte 60)
unfolding begins_tag begins_echo open_tag_len
tag_wants t h =
    or_cases (begins_echo t) (nat_lt 0 (open_tag_len t)) (slice_index t 0 == 60) h
    (λ echo. left_of (slice_index t 0 == 60) (slice_index t 1 == 63) (left_of (slice_index t 0 == 60 && slice_index t 1 == 63) (slice_index t 2 == 61) echo))
    (λ open_tag. tag_name_wants t (left_of (is_tag_name t) (is_separated t 5) (choice_positive (is_tag_name t && is_separated t 5) (5 + separator_len t 5) open_tag)))

-- ---- single quotes

-- neither quotes nor backslashes stand before a place
raw_skips : (text : Text) (k : ℕ) → k ≤ length text → Nowhere (Passes (is_byte2 39 92) text) 0 k → raw_len false text ≡ k + raw_len false (drop k text)
raw_skips [] zero within nowhere = refl
raw_skips [] (suc k) within nowhere = absurd (omega arith)
raw_skips (b ∷ text) zero within nowhere = sym (zero-add _)
raw_skips (b ∷ text) (suc k) within nowhere =
    let other = neither (b == 39) (b == 92) (nowhere 0 (omega arith) (omega arith)) in
    let rest = raw_skips text k (omega arith) (λ i low high. nowhere (suc i) (omega arith) (omega arith)) in
    let here : raw_len false (b ∷ text) ≡ suc (raw_len false text) = ap (λ v. cond v 0 (suc (raw_len (b == 92) text))) other.0 ∙ ap (λ v. suc (raw_len v text)) other.1 in
    omega (arith, rest, here)

pub raw_to : (text : Text) (at k : ℕ) → at ≤ length text → k ≤ length (part text at) → Nowhere (Passes (is_byte2 39 92) (part text at)) 0 k → raw_len false (drop at text) ≡ k + raw_len false (drop (at + k) text)
raw_to text at k start within nowhere =
    let whole = take_rest text at in
    let none : Nowhere (Passes (is_byte2 39 92) (drop at text)) 0 k = subst (λ t. Nowhere (Passes (is_byte2 39 92) t) 0 k) whole nowhere in
    rw (← drop-drop k at text) (raw_skips (drop at text) k (omega (arith, ap length whole)) none)

pub raw_all : (text : Text) (at : ℕ) → at ≤ length text → Nowhere (Passes (is_byte2 39 92) (part text at)) 0 (length (part text at)) → at + raw_len false (drop at text) ≡ length text
raw_all text at start nowhere =
    let rest = length (part text at) in
    let len : at + rest ≡ length text = omega (arith, ap length (take_rest text at), length-drop at text) in
    let all = raw_to text at rest start (omega arith) nowhere in
    let none : raw_len false (drop (at + rest) text) ≡ 0 = rw (len, drop-length text) refl in
    omega (arith, all, none, len)

pub raw_closes : (text : Text) (i : ℕ) → i < length text → get_or text i 0 ≡ 39 → raw_len false (drop i text) ≡ 0
raw_closes [] i h is = absurd (omega arith)
raw_closes (b ∷ text) zero h is = subst (λ x. raw_len false (x ∷ text) ≡ 0) (sym is) refl
raw_closes (b ∷ text) (suc i) h is = raw_closes text i (omega arith) is

-- a backslash and the byte behind it
pub raw_goes : (text : Text) (i : ℕ) → i + 1 < length text → get_or text i 0 ≡ 92 → raw_len false (drop i text) ≡ 2 + raw_len false (drop (i + 2) text)
raw_goes [] i h is = absurd (omega arith)
raw_goes (b ∷ []) zero h is = absurd (omega arith)
raw_goes (b ∷ c ∷ text) zero h is =
    let two : 2 + raw_len false text ≡ suc (suc (raw_len false text)) = omega arith in
    subst (λ x. raw_len false (x ∷ c ∷ text) ≡ 2 + raw_len false text) (sym is) (sym two)
raw_goes (b ∷ text) (suc i) h is =
    let next : suc i + 2 ≡ suc (i + 2) = omega arith in
    rw next (raw_goes text i (omega arith) is)

-- a backslash at the end
pub raw_ends : (text : Text) (i : ℕ) → i + 1 ≡ length text → get_or text i 0 ≡ 92 → raw_len false (drop i text) ≡ 1
raw_ends [] i h is = absurd (omega arith)
raw_ends (b ∷ []) zero h is = subst (λ x. raw_len false (x ∷ []) ≡ 1) (sym is) refl
raw_ends (b ∷ c ∷ text) zero h is = absurd (omega arith)
raw_ends (b ∷ text) (suc i) h is = raw_ends text i (omega arith) is

second_of : (b : ℕ) → (b == 39 || b == 92) ≡ true → (b ≡ 39 → ⊥) → b ≡ 92
second_of b passes other = grind (arith, common_steps)

-- what a search for a quote or a backslash found is the one if it isn't the other
pub raw_backslash : (text : Text) (at k : ℕ) → Passes (is_byte2 39 92) (part text at) k → (get_or text (at + k) 0 ≡ 39 → ⊥) → get_or text (at + k) 0 ≡ 92
raw_backslash text at k passes other =
    let e : slice_index (part text at) k ≡ get_or text (at + k) 0 = ap (λ t. get_or t k 0) (take_rest text at) ∙ get_or-drop at text k 0 in
    second_of (get_or text (at + k) 0) (subst (λ b. is_byte2 39 92 b ≡ true) e passes) other

-- neither tag is a tag
pub no_tag : (t : Text) → begins_echo t ≡ false → open_tag_len t ≡ 0 → begins_tag t ≡ false
unfolding begins_tag
no_tag t echo open_tag = ap (λ v. v || nat_lt 0 (open_tag_len t)) echo ∙ ap (λ n. nat_lt 0 n) open_tag
