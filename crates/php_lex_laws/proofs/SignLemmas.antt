-- The table of punctuators gives the longest, and what its rows are.
use Rattle.std.proofs.Common.{◌≡◌, ℕ, zero, suc, ◌<◌, ◌≤◌, Bool, true, false, not, ◌&&◌, ◌||◌, nat_eq, nat_le, nat_lt, cond, List, [], ◌∷◌, length, take, Option, Some, refl, sym, ap, ◌∙◌, arith, inl, inr, ⊎_elim, get_or-take}
use Rattle.std.specs.Prelude.{slice_index, ◌==◌, bytes_eq}
use Rattle.std.specs.Char.{is_ascii_digit}
use Rattle.std.specs.List.{starts_with}
use Rattle.std.proofs.lemmas.Grind.{common_steps}
use Rattle.std.proofs.lemmas.Slice.Eq.{bytes_eq-Decides}
use Rattle.php_token.specs.declared.kind.Punct.{Punct}
use Rattle.php_lex_pieces.specs.Bytes.{Text, is_blank, is_name_start}
use Rattle.php_lex_pieces.specs.Punctuators.{punctuators, punctuator, first_in}
use Rattle.php_lex_laws.specs.ScriptForms.{Matches}
use Rattle.php_lex_laws.proofs.RangeLemmas.{no_both, and_left, and_right, same_byte, is_byte, is_over}

abbrev Rows : Type 0
Rows = List (Text × Punct)

-- two texts of one length differ
abbrev apart : Text → Text → Bool
apart a b = not (bytes_eq a b)

-- no row is longer than n, and none of that length has this text
abbrev bounded : Text → Rows → Bool
bounded first [] = true
bounded first (row ∷ rows) = (nat_lt (length row.0) (length first) || (nat_le (length row.0) (length first) && apart first row.0)) && bounded first rows

-- no row is longer than one before it, and no two are one text
abbrev descending : Rows → Bool
descending [] = true
descending (row ∷ rows) = bounded row.0 rows && descending rows

written_there : (text row : Text) → starts_with nat_eq text row ≡ true → row ≡ take (length row) text
written_there text row starts = (bytes_eq-Decides row (take (length row) text)).0 starts

apart_no_same : (a b : Text) → apart a b ≡ true → a ≡ b → ⊥
apart_no_same a b differ same = no_both (bytes_eq a b) ((bytes_eq-Decides a b).1 same) (is_false (bytes_eq a b) differ)
  where
    is_false : (v : Bool) → not v ≡ true → v ≡ false
    is_false true h = absurd (cc)
    is_false false h = refl

or_elim : {G : Type 0} (p q : Bool) → (p || q) ≡ true → (p ≡ true → G) → (q ≡ true → G) → G
or_elim true q h one two = one refl
or_elim false q h one two = two h

less_is : (m n : ℕ) → nat_lt m n ≡ true → m < n
less_is m n h = grind (arith, common_steps)

at_most : (m n : ℕ) → nat_le m n ≡ true → m ≤ n
at_most m n h = grind (arith, common_steps)

abbrev Bounded : Text → Text → ℕ → Type 0
Bounded first text n = (n ≤ length first) × (n ≡ length first → starts_with nat_eq text first ≡ true → ⊥)

-- a row that matches is no longer than the bound
match_bounded : (first : Text) (sign : Punct) (n : ℕ) (rows : Rows) (text : Text) → bounded first rows ≡ true → Matches rows text sign n → Bounded first text n
match_bounded first sign n [] text low matches = absurd matches
match_bounded first sign n (row ∷ rows) text low matches =
    let less = nat_lt (length row.0) (length first) in
    let same = nat_le (length row.0) (length first) && apart first row.0 in
    ⊎_elim
    (λ m. or_elim less same (and_left (less || same) (bounded first rows) low)
    (λ shorter. let lower = less_is (length row.0) (length first) shorter in (omega (arith, m.1.1, lower), λ equal. absurd (omega (arith, m.1.1, lower, equal))))
    (λ both. (
      omega (arith, m.1.1, at_most (length row.0) (length first) (and_left (nat_le (length row.0) (length first)) (apart first row.0) both)),
      λ equal starts. apart_no_same first row.0 (and_right (nat_le (length row.0) (length first)) (apart first row.0) both)
          (written_there text first starts ∙ ap (λ k. take k text) (sym equal ∙ sym m.1.1) ∙ sym (written_there text row.0 m.0)),
    )))
    (λ m. match_bounded first sign n rows text (and_right (less || same) (bounded first rows) low) m)
    matches

abbrev pub Longest : Option (Punct × ℕ) → Punct → ℕ → Type 0
Longest found sign n = (best : Punct × ℕ) × ((found ≡ Some best) × ((n ≤ best.1) × (n ≡ best.1 → best.0 ≡ sign)))

by_first : (v : Bool) (row : Text × Punct) (rows : Rows) (text : Text) (sign : Punct) (n : ℕ) → (v ≡ true → (n ≤ length row.0) × (n ≡ length row.0 → row.1 ≡ sign)) → (v ≡ false → Longest (first_in rows text) sign n) → Longest (cond v (Some (row.1, length row.0)) (first_in rows text)) sign n
by_first true row rows text sign n here later = ((row.1, length row.0), (refl, here refl))
by_first false row rows text sign n here later = later refl

first_is_longest : (rows : Rows) (text : Text) (sign : Punct) (n : ℕ) → descending rows ≡ true → Matches rows text sign n → Longest (first_in rows text) sign n
first_is_longest [] text sign n order matches = absurd matches
first_is_longest (row ∷ rows) text sign n order matches =
    let low = and_left (bounded row.0 rows) (descending rows) order in
    let rest = and_right (bounded row.0 rows) (descending rows) order in
    by_first (starts_with nat_eq text row.0) row rows text sign n
    (λ starts. ⊎_elim
    (λ m. (omega (arith, m.1.1), λ _. m.1.0))
    (λ m. let bound = match_bounded row.0 sign n rows text low m in (bound.0, λ equal. absurd (bound.1 equal starts)))
    matches)
    (λ not_here. ⊎_elim (λ m. absurd (no_both (starts_with nat_eq text row.0) m.0 not_here)) (λ m. first_is_longest rows text sign n rest m) matches)

pub longest_sign : (text : Text) (sign : Punct) (n : ℕ) → Matches punctuators text sign n → Longest (punctuator text) sign n
unfolding punctuators punctuator
longest_sign text sign n matches = first_is_longest punctuators text sign n refl matches

first_matches : (rows : Rows) (text : Text) (found : Punct × ℕ) → first_in rows text ≡ Some found → Matches rows text found.0 found.1
first_matches [] text found is = absurd (cc)
first_matches (row ∷ rows) text found is = by_test (first_matches rows text found) (starts_with nat_eq text row.0) refl is
  where
    same : (a b : Punct × ℕ) → ◌≡◌ {A = Option (Punct × ℕ)} (Some a) (Some b) → a ≡ b
    same a b h = cc

    by_test : (first_in rows text ≡ Some found → Matches rows text found.0 found.1) → (v : Bool) → starts_with nat_eq text row.0 ≡ v
        → cond v (Some (row.1, length row.0)) (first_in rows text) ≡ Some found → Matches (row ∷ rows) text found.0 found.1
    by_test later true starts is = let e = same (row.1, length row.0) found is in inl (starts, (ap (λ p. p.0) e, ap (λ p. p.1) e))
    by_test later false starts is = inr (later is)

-- what the table gives stands at the front
pub sign_matches : (text : Text) (found : Punct × ℕ) → punctuator text ≡ Some found → Matches punctuators text found.0 found.1
unfolding punctuator
sign_matches text found is = first_matches punctuators text found is

-- ---- what holds of each row

abbrev all_rows : (Text → Bool) → Rows → Bool
all_rows check [] = true
all_rows check (row ∷ rows) = check row.0 && all_rows check rows

match_checks : (check : Text → Bool) (rows : Rows) (text : Text) (sign : Punct) (n : ℕ) → all_rows check rows ≡ true → Matches rows text sign n → (check (take n text) ≡ true) × (length (take n text) ≡ n)
match_checks check [] text sign n all matches = absurd matches
match_checks check (row ∷ rows) text sign n all matches =
    ⊎_elim
    (λ m. let row_is : row.0 ≡ take n text = written_there text row.0 m.0 ∙ ap (λ k. take k text) m.1.1 in
    (ap check (sym row_is) ∙ and_left (check row.0) (all_rows check rows) all, ap length (sym row_is) ∙ m.1.1))
    (λ m. match_checks check rows text sign n (and_right (check row.0) (all_rows check rows) all) m)
    matches

-- a byte that begins nothing else of a script
abbrev pub begins_sign : ℕ → Bool
begins_sign b = not (is_blank b || is_name_start b || is_ascii_digit b || b == 39 || b == 34 || b == 36 || b == 35)

abbrev short_row : Text → Bool
short_row row = nat_lt 0 (length row) && nat_le (length row) 3

abbrev first_row : Text → Bool
first_row row = begins_sign (slice_index row 0)

abbrev pair_row : ℕ → ℕ → Text → Bool
pair_row a b row = not (slice_index row 0 == a && slice_index row 1 == b)

abbrev paren_row : Text → Bool
paren_row row = not (slice_index row 0 == 40) || length row == 1

front : (text : Text) (n : ℕ) → 0 < n → slice_index (take n text) 0 ≡ slice_index text 0
front text n some = get_or-take n text 0 0 some

pub sign_short : (text : Text) (sign : Punct) (n : ℕ) → Matches punctuators text sign n → (0 < n) × (n ≤ 3)
unfolding punctuators
sign_short text sign n matches =
    let told = match_checks short_row punctuators text sign n refl matches in
    let len = told.1 in
    let over = is_over (length (take n text)) (and_left (nat_lt 0 (length (take n text))) (nat_le (length (take n text)) 3) told.0) in
    let under = at_most (length (take n text)) 3 (and_right (nat_lt 0 (length (take n text))) (nat_le (length (take n text)) 3) told.0) in
    (omega (arith, len, over), omega (arith, len, under))

pub sign_begins : (text : Text) (sign : Punct) (n : ℕ) → Matches punctuators text sign n → begins_sign (slice_index text 0) ≡ true
unfolding punctuators
sign_begins text sign n matches =
    let told = match_checks first_row punctuators text sign n refl matches in
    ap begins_sign (sym (front text n (sign_short text sign n matches).0)) ∙ told.0

not_true : (v : Bool) → not v ≡ true → v ≡ true → ⊥
not_true true h is = cc
not_true false h is = cc

-- no sign begins with two bytes that no row begins with
pair_short : (a b : ℕ) (text : Text) (sign : Punct) (n : ℕ) → all_rows (pair_row a b) punctuators ≡ true → Matches punctuators text sign n → slice_index text 0 ≡ a → slice_index text 1 ≡ b → n ≤ 1
pair_short a b text sign n all matches first second =
    by_len (nat_le n 1) refl
  where
    longer : nat_le n 1 ≡ false → 1 < n
    longer h = grind (arith, common_steps)

    by_len : (v : Bool) → nat_le n 1 ≡ v → n ≤ 1
    by_len true h = at_most n 1 h
    by_len false h =
        let more = longer h in
        let told = match_checks (pair_row a b) punctuators text sign n all matches in
        let one : (slice_index (take n text) 0 == a) ≡ true = is_byte (slice_index (take n text) 0) a (get_or-take n text 0 0 (omega (arith, more)) ∙ first) in
        let two : (slice_index (take n text) 1 == b) ≡ true = is_byte (slice_index (take n text) 1) b (get_or-take n text 1 0 more ∙ second) in
        absurd (not_true (slice_index (take n text) 0 == a && slice_index (take n text) 1 == b) told.0 (rw (one, two) refl))

pub slashes_short : (text : Text) (sign : Punct) (n : ℕ) → Matches punctuators text sign n → slice_index text 0 ≡ 47 → slice_index text 1 ≡ 47 → n ≤ 1
unfolding punctuators
slashes_short text sign n matches first second = pair_short 47 47 text sign n refl matches first second

pub comment_short : (text : Text) (sign : Punct) (n : ℕ) → Matches punctuators text sign n → slice_index text 0 ≡ 47 → slice_index text 1 ≡ 42 → n ≤ 1
unfolding punctuators
comment_short text sign n matches first second = pair_short 47 42 text sign n refl matches first second

pub tag_short : (text : Text) (sign : Punct) (n : ℕ) → Matches punctuators text sign n → slice_index text 0 ≡ 63 → slice_index text 1 ≡ 62 → n ≤ 1
unfolding punctuators
tag_short text sign n matches first second = pair_short 63 62 text sign n refl matches first second

pub paren_short : (text : Text) (sign : Punct) (n : ℕ) → Matches punctuators text sign n → slice_index text 0 ≡ 40 → n ≡ 1
unfolding punctuators
paren_short text sign n matches first =
    let told = match_checks paren_row punctuators text sign n refl matches in
    let begins : (slice_index (take n text) 0 == 40) ≡ true = is_byte (slice_index (take n text) 0) 40 (front text n (sign_short text sign n matches).0 ∙ first) in
    let one : (length (take n text) == 1) ≡ true = by_first_byte (slice_index (take n text) 0 == 40) (length (take n text) == 1) begins told.0 in
    sym told.1 ∙ same_byte (length (take n text)) 1 one
  where
    by_first_byte : (p q : Bool) → p ≡ true → (not p || q) ≡ true → q ≡ true
    by_first_byte true q h k = k
    by_first_byte false q h k = absurd (cc)

pub sign_within : (text : Text) (sign : Punct) (n : ℕ) → Matches punctuators text sign n → n ≤ length text
unfolding punctuators
sign_within text sign n matches = omega (arith, (match_checks short_row punctuators text sign n refl matches).1, take_within n text)
  where
    take_within : (n : ℕ) (text : Text) → length (take n text) ≤ length text
    take_within zero text = omega arith
    take_within (suc n) [] = omega arith
    take_within (suc n) (b ∷ text) = omega (arith, take_within n text)
