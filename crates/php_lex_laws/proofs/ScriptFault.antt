-- What bars every piece of a script is the fault there.
use Rattle.std.proofs.Common.{◌≡◌, ℕ, ◌+◌, ◌<◌, ◌≤◌, Bool, true, false, ◌&&◌, ◌||◌, nat_lt, [], ◌∷◌, drop, take, Err, refl, sym, ap, ◌∙◌, subst, arith, ⊎_elim}
use Rattle.std.specs.Prelude.{slice_index, ◌==◌}
use Rattle.std.specs.Char.{is_ascii_digit, is_ascii_hexdigit}
use Rattle.std.proofs.lemmas.Grind.{common_steps}
use Rattle.php_lex.specs.declared.fail.LexFail.{LexFail}
use Rattle.php_lex.specs.declared.fail.LexFail.TheVariants as Fail
use Rattle.php_lex_pieces.specs.Bytes.{Text, is_octal_digit, is_binary_digit}
use Rattle.php_lex_pieces.specs.Comments.{ends_block}
use Rattle.php_lex.specs.Modes.{Mode}
use Rattle.php_lex_pieces.specs.Numbers.{value, greatest_int, number, goes_on_as_float, is_hexadecimal, is_binary}
use Rattle.php_lex.specs.Pieces.{Found, script_piece, number_piece}
use Rattle.php_lex_laws.specs.Ranges.{AllIn}
use Rattle.php_lex_laws.specs.ScriptForms as form
use Rattle.php_lex_laws.specs.ScriptFaults as fault
use Rattle.php_lex_laws.proofs.DigitLemmas.{numbers_or, decimals_or, numbers_within, all_reach, no_two_marks, hexadecimal_there, binary_there, not_over}
use Rattle.php_lex_laws.proofs.LabelLemmas.{behind_or, endless_is}
use Rattle.php_lex_laws.proofs.RangeLemmas.{no_both, decide, other_byte}
use Rattle.php_lex_laws.proofs.ScriptCases.{at_digit, at_block, at_raw, at_point, block_or, raw_or}
use Rattle.php_lex_laws.proofs.ScriptReach.{at_label, zero_digit}

-- ---- a digit that goes on as a float, or has a mark behind it

same_count : (test : ℕ → Bool) (text : Text) (k n : ℕ) → test 0 ≡ false → fault.AllOf test text k → fault.AllOf test text n → k ≡ n
same_count test text k n no_end one two = omega (arith, all_reach test text k n no_end one two.0, all_reach test text n k no_end two one.0)

float_no_digit : (b next third : ℕ) → (b == 46 || ((b == 101 || b == 69) && (is_ascii_digit next || ((next == 43 || next == 45) && is_ascii_digit third)))) ≡ true → is_ascii_digit b ≡ false
float_no_digit b next third is = by_cases (b == 46) (b == 101 || b == 69) (is_ascii_digit next || ((next == 43 || next == 45) && is_ascii_digit third)) is (λ h. point_no_digit b h) (λ h. exponent_no_digit b h)
  where
    point_no_digit : (b : ℕ) → (b == 46) ≡ true → is_ascii_digit b ≡ false
    point_no_digit b h = grind (arith, common_steps)

    exponent_no_digit : (b : ℕ) → (b == 101 || b == 69) ≡ true → is_ascii_digit b ≡ false
    exponent_no_digit b h = grind (arith, common_steps)

    by_cases : {G : Type 0} (p q r : Bool) → (p || (q && r)) ≡ true → (p ≡ true → G) → (q ≡ true → G) → G
    by_cases true q r h one two = one refl
    by_cases false true r h one two = two refl
    by_cases false false r h one two = absurd (cc)

float_stops : (text : Text) (k : ℕ) → goes_on_as_float text k ≡ true → is_ascii_digit (slice_index text k) ≡ false
float_stops text k is = float_no_digit (slice_index text k) (slice_index text (k + 1)) (slice_index text (k + 2)) is

one_of : {G : Type 0} (p q : Bool) → (p || q) ≡ true → (p ≡ true → G) → (q ≡ true → G) → G
one_of true q h one two = one refl
one_of false q h one two = two h

-- a letter behind the first digit
abbrev IsMark : Text → Type 0
IsMark text = (is_ascii_digit (slice_index text 1) ≡ false) × (goes_on_as_float text 1 ≡ false)

hexadecimal_mark : (text : Text) → form.begins_hexadecimal text ≡ true → IsMark text
hexadecimal_mark text marked =
    one_of (slice_index text 1 == 120) (slice_index text 1 == 88) marked
    (λ h. let is = same (slice_index text 1) 120 h in (rw is refl, rw is refl))
    (λ h. let is = same (slice_index text 1) 88 h in (rw is refl, rw is refl))
  where
    same : (a b : ℕ) → (a == b) ≡ true → a ≡ b
    same a b h = grind (arith, common_steps)

binary_mark : (text : Text) → form.begins_binary text ≡ true → IsMark text
binary_mark text marked =
    one_of (slice_index text 1 == 98) (slice_index text 1 == 66) marked
    (λ h. let is = same (slice_index text 1) 98 h in (rw is refl, rw is refl))
    (λ h. let is = same (slice_index text 1) 66 h in (rw is refl, rw is refl))
  where
    same : (a b : ℕ) → (a == b) ≡ true → a ≡ b
    same a b h = grind (arith, common_steps)

-- then one digit alone stands there
mark_short : (text : Text) (k : ℕ) → IsMark text → 0 < k → AllIn is_ascii_digit text k → k ≡ 1
mark_short text k mark some all =
    decide (nat_lt 1 k)
    (λ more. absurd (no_both (is_ascii_digit (slice_index text 1)) (all 1 (less_is 1 k more)) mark.0))
    (λ one. not_less k some one)
  where
    less_is : (m n : ℕ) → nat_lt m n ≡ true → m < n
    less_is m n h = grind (arith, common_steps)

    not_less : (k : ℕ) → 0 < k → nat_lt 1 k ≡ false → k ≡ 1
    not_less k some h = grind (arith, common_steps)

zero_fits_octal : (text : Text) → slice_index text 0 ≡ 48 → value 8 (take 1 text) ≤ greatest_int
zero_fits_octal [] is = absurd (omega (arith, is))
zero_fits_octal (b ∷ text) is = subst (λ c. value 8 (c ∷ []) ≤ greatest_int) (sym is) (omega arith)

abbrev Says : LexFail → Found → Type 0
Says failed found = found ≡ Err failed

-- ---- the faults of numbers

float_says : (line : ℕ) (text : Text) (k : ℕ) → 0 < k → AllIn is_ascii_digit text k → goes_on_as_float text k ≡ true → number_piece line (number text) ≡ Err (Fail.FloatLiteral line)
float_says line text k some all float =
    let whole : fault.AllOf is_ascii_digit text k = (all, float_stops text k float) in
    numbers_or line text (Says (Fail.FloatLiteral line)) (all 0 some)
    (λ n zero_first marked more digits. let mark = hexadecimal_mark text marked in
    absurd (no_both (goes_on_as_float text 1) (subst (λ m. goes_on_as_float text m ≡ true) (mark_short text k mark some all) float) mark.1))
    (λ n zero_first marked more digits. let mark = binary_mark text marked in
    absurd (no_both (goes_on_as_float text 1) (subst (λ m. goes_on_as_float text m ≡ true) (mark_short text k mark some all) float) mark.1))
    (λ n no_hexadecimal no_binary more digits.
    let same = same_count is_ascii_digit text k n refl whole digits in
    let here = subst (λ m. goes_on_as_float text m ≡ true) same float in
    decimals_or line text n (Says (Fail.FloatLiteral line)) more digits
    (λ _. refl)
    (λ is zero_first two i low bad. absurd (no_both (goes_on_as_float text n) here is.1.1))
    (λ is zero_first two octal. absurd (no_both (goes_on_as_float text n) here is.1.1))
    (λ is alone. absurd (no_both (goes_on_as_float text n) here is.1.1)))

-- where a whole number of decimal digits stands, none of the bases with a mark does
whole_or : (line : ℕ) (text : Text) (k : ℕ) (P : Found → Type 0) → fault.IsWhole text k
    → (k ≡ 1 → slice_index text 0 ≡ 48 → ⊥)
    → (slice_index text 0 ≡ 48 → 1 < k → (i : ℕ) → i < k → is_octal_digit (slice_index text i) ≡ false → P (Err (Fail.BadByte line)))
    → (slice_index text 0 ≡ 48 → 1 < k → AllIn is_octal_digit text k → greatest_int < value 8 (take k text) → P (Err (Fail.IntTooLarge line)))
    → (slice_index text 0 ≡ 48 → 1 < k → AllIn is_octal_digit text k → value 8 (take k text) ≤ greatest_int → ⊥)
    → ((slice_index text 0 ≡ 48 → k ≡ 1) → greatest_int < value 10 (take k text) → P (Err (Fail.IntTooLarge line)))
    → ((slice_index text 0 ≡ 48 → k ≡ 1) → value 10 (take k text) ≤ greatest_int → ⊥)
    → P (number_piece line (number text))
whole_or line text k P whole no_zero bad octal no_octal decimal no_decimal =
    numbers_or line text P (whole.1.0.0 0 whole.0)
    (λ n zero_first marked more digits. absurd (no_zero (mark_short text k (hexadecimal_mark text marked) whole.0 whole.1.0.0) zero_first))
    (λ n zero_first marked more digits. absurd (no_zero (mark_short text k (binary_mark text marked) whole.0 whole.1.0.0) zero_first))
    (λ n no_hexadecimal no_binary more digits.
    let same : n ≡ k = same_count is_ascii_digit text n k refl digits whole.1.0 in
    let fewer : (m : ℕ) → m < n → m < k = λ m low. omega (arith, same, low) in
    decimals_or line text n P more digits
    (λ float. absurd (no_both (goes_on_as_float text k) (subst (λ m. goes_on_as_float text m ≡ true) same float) whole.1.1))
    (λ is zero_first two i low not_octal. bad zero_first (fewer 1 two) i (fewer i low) not_octal)
    (λ is zero_first two all. let here = subst (AllIn is_octal_digit text) same all in
    numbers_within line n (value 8 (take n text)) P
    (λ fits. absurd (no_octal zero_first (fewer 1 two) here (subst (λ m. value 8 (take m text) ≤ greatest_int) same fits)))
    (λ large. octal zero_first (fewer 1 two) here (subst (λ m. greatest_int < value 8 (take m text)) same large)))
    (λ is alone. let here : slice_index text 0 ≡ 48 → k ≡ 1 = λ zero_first. sym same ∙ alone zero_first in
    numbers_within line n (value 10 (take n text)) P
    (λ fits. absurd (no_decimal here (subst (λ m. value 10 (take m text) ≤ greatest_int) same fits)))
    (λ large. decimal here (subst (λ m. greatest_int < value 10 (take m text)) same large))))

-- ---- all that bars

not_octal_zero : (text : Text) (k i : ℕ) → k ≡ 1 → i < k → slice_index text 0 ≡ 48 → is_octal_digit (slice_index text i) ≡ false → ⊥
not_octal_zero text k i one low zero_first bad =
    let first : i ≡ 0 = omega (arith, one, low) in
    no_both (is_octal_digit (slice_index text i)) (ap (λ j. is_octal_digit (slice_index text j)) first ∙ ap is_octal_digit zero_first) bad

pub faulty : (mode : Mode) (line : ℕ) (e : fault.ScriptFault) (text : Text) → fault.IsNoScriptPiece e text → script_piece mode line text ≡ Err (fault.script_fault e line)
faulty mode line fault.endless_comment text is =
    at_block mode line text is.0 ∙ block_or line text (Says (Fail.Unclosed line)) is.0 (λ k first. absurd (no_both (ends_block (drop k (drop 2 text))) first.1 (is.1 k))) (λ _. refl)
faulty mode line fault.endless_raw text is =
    at_raw mode line text is.0 ∙ raw_or line text (Says (Fail.Unclosed line)) is.0 (λ k raw closes. absurd (is.1 k raw closes)) (λ _. refl)
faulty mode line fault.endless_nowdoc text is =
    let l = is.0 in
    at_label mode line text l is.1.0 ∙ behind_or line text l (Says (Fail.Unclosed line))
    (λ empty. absurd (no_both _ empty is.1.1.1.0))
    (λ full raw. endless_is line (form.name_of text l) text l.start is.1.1.1.1)
    (λ full plain. absurd (other_byte l.quote 39 plain is.1.1.0))
faulty mode line fault.float text is =
    ⊎_elim (λ point. at_point mode line text point.0 point.1)
    (λ digits. at_digit mode line text (digits.1.1.0 0 digits.1.0) ∙ float_says line text digits.0 digits.1.0 digits.1.1.0 digits.1.1.1) is
faulty mode line fault.octal_digit text is =
    let k = is.1.0 in
    let i = is.1.1.1.0 in
    let low = is.1.1.1.1.0 in
    let bad = is.1.1.1.1.1 in
    at_digit mode line text (zero_digit text is.0) ∙ whole_or line text k (Says (Fail.BadByte line)) is.1.1.0
    (λ one zero_first. not_octal_zero text k i one low zero_first bad)
    (λ zero_first two j less not_octal. refl)
    (λ zero_first two all large. absurd (no_both (is_octal_digit (slice_index text i)) (all i low) bad))
    (λ zero_first two all fits. no_both (is_octal_digit (slice_index text i)) (all i low) bad)
    (λ alone large. absurd (not_octal_zero text k i (alone is.0) low is.0 bad))
    (λ alone fits. not_octal_zero text k i (alone is.0) low is.0 bad)
faulty mode line fault.large_decimal text is =
    let k = is.1.0 in
    at_digit mode line text (is.1.1.0.1.0.0 0 is.1.1.0.0) ∙ whole_or line text k (Says (Fail.IntTooLarge line)) is.1.1.0
    (λ one zero_first. is.0 zero_first)
    (λ zero_first two j less not_octal. absurd (is.0 zero_first))
    (λ zero_first two all large. refl)
    (λ zero_first two all fits. is.0 zero_first)
    (λ alone large. refl)
    (λ alone fits. not_over (value 10 (take k text)) fits is.1.1.1)
faulty mode line fault.large_octal text is =
    let k = is.1.0 in
    let large = is.1.1.1.1 in
    let octal = is.1.1.1.0 in
    let not_one : k ≡ 1 → ⊥ = λ one. not_over (value 8 (take k text)) (subst (λ m. value 8 (take m text) ≤ greatest_int) (sym one) (zero_fits_octal text is.0)) large in
    at_digit mode line text (zero_digit text is.0) ∙ whole_or line text k (Says (Fail.IntTooLarge line)) is.1.1.0
    (λ one zero_first. not_one one)
    (λ zero_first two j less not_octal. absurd (no_both (is_octal_digit (slice_index text j)) (octal j less) not_octal))
    (λ zero_first two all over. refl)
    (λ zero_first two all fits. not_over (value 8 (take k text)) fits large)
    (λ alone over. refl)
    (λ alone fits. not_one (alone is.0))
faulty mode line fault.large_hexadecimal text is =
    let k = is.1.1.0 in
    let digits = is.1.1.1 in
    let there = hexadecimal_there text k is.0 is.1.0 digits.0 digits.1.0.0 in
    at_digit mode line text (zero_digit text is.0) ∙ numbers_or line text (Says (Fail.IntTooLarge line)) (zero_digit text is.0)
    (λ n zero_first marked more all. let same = same_count is_ascii_hexdigit (drop 2 text) k n refl digits.1.0 all in
    numbers_within line (2 + n) (value 16 (take n (drop 2 text))) (Says (Fail.IntTooLarge line))
    (λ fits. not_over (value 16 (take n (drop 2 text))) fits (subst (λ m. greatest_int < value 16 (take m (drop 2 text))) same digits.1.1))
    (λ _. refl))
    (λ n zero_first marked more all. absurd (no_two_marks text is.1.0 marked))
    (λ n no_hexadecimal no_binary more all. absurd (no_both (is_hexadecimal text 0) there no_hexadecimal))
faulty mode line fault.large_binary text is =
    let k = is.1.1.0 in
    let digits = is.1.1.1 in
    let there = binary_there text k is.0 is.1.0 digits.0 digits.1.0.0 in
    at_digit mode line text (zero_digit text is.0) ∙ numbers_or line text (Says (Fail.IntTooLarge line)) (zero_digit text is.0)
    (λ n zero_first marked more all. absurd (no_two_marks text marked is.1.0))
    (λ n zero_first marked more all. let same = same_count is_binary_digit (drop 2 text) k n refl digits.1.0 all in
    numbers_within line (2 + n) (value 2 (take n (drop 2 text))) (Says (Fail.IntTooLarge line))
    (λ fits. not_over (value 2 (take n (drop 2 text))) fits (subst (λ m. greatest_int < value 2 (take m (drop 2 text))) same digits.1.1))
    (λ _. refl))
    (λ n no_hexadecimal no_binary more all. absurd (no_both (is_binary text 0) there no_binary))
