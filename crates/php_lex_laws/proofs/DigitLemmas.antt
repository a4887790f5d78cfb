-- What stands where a digit does.
use Rattle.std.proofs.Common.{◌≡◌, ℕ, zero, suc, ◌+◌, ◌<◌, ◌≤◌, Bool, true, false, ◌&&◌, ◌||◌, nat_lt, nat_le, [], ◌∷◌, drop, take, Ok, Err, pos, refl, sym, ap, ◌∙◌, subst, arith}
use Rattle.std.specs.Prelude.{slice_index, ◌==◌}
use Rattle.std.specs.Char.{is_ascii_digit, is_ascii_hexdigit}
use Rattle.std.proofs.lemmas.Grind.{common_steps}
use Rattle.php_lex.specs.declared.fail.LexFail.TheVariants as Fail
use Rattle.php_lex_pieces.specs.Bytes.{Text, is_octal_digit, is_binary_digit, run}
use Rattle.php_lex.specs.Modes.{stay}
use Rattle.php_lex_pieces.specs.Numbers.{value, greatest_int, goes_on_as_float, is_hexadecimal, is_binary, within_int, decimal_or_octal, number}
use Rattle.php_lex.specs.Pieces.{Found, integer, number_piece}
use Rattle.php_lex_laws.specs.Ranges.{AllIn}
use Rattle.php_lex_laws.specs.ScriptForms.{begins_hexadecimal, begins_binary}
use Rattle.php_lex_laws.specs.ScriptFaults.{AllOf, IsWhole}
use Rattle.php_lex_laws.proofs.HeredocLemmas.{and_last}
use Rattle.php_lex_laws.proofs.RangeLemmas.{decide, same_byte, is_byte, and_left, and_right, both_hold, run_reaches, run_is, run_all, run_stops, behind_first}

-- a number within the ints, or too large
pub numbers_within : (line len n : ℕ) (P : Found → Type 0) → (n ≤ greatest_int → P (Ok (integer len (pos n) stay))) → (greatest_int < n → P (Err (Fail.IntTooLarge line))) → P (number_piece line (within_int len n))
numbers_within line len n P fits large =
    decide (nat_le n greatest_int) (λ h. rw h (fits (fits_in n h))) (λ h. rw h (large (too_large n h)))
  where
    fits_in : (n : ℕ) → nat_le n greatest_int ≡ true → n ≤ greatest_int
    fits_in n h = grind (arith, common_steps)

    too_large : (n : ℕ) → nat_le n greatest_int ≡ false → greatest_int < n
    too_large n h = grind (arith, common_steps)

-- all of the bytes of a class at a place
all_of_run : (test : ℕ → Bool) (text : Text) (at : ℕ) → test 0 ≡ false → AllOf test (drop at text) (run test text at)
all_of_run test text at no_end = (run_all test (drop at text), run_stops test (drop at text) no_end)

pub run_some : (test : ℕ → Bool) (text : Text) (at : ℕ) → test (slice_index text at) ≡ true → test 0 ≡ false → 0 < run test text at
run_some test text at holds no_end =
    run_reaches test (drop at text) 1 no_end (first_holds (ap test (behind_first at text) ∙ holds))
  where
    first_holds : test (slice_index (drop at text) 0) ≡ true → AllIn test (drop at text) 1
    first_holds holds zero low = holds
    first_holds holds (suc i) low = absurd (omega arith)

-- so many of a class are all of them
pub all_reach : (test : ℕ → Bool) (text : Text) (k n : ℕ) → test 0 ≡ false → AllOf test text k → AllIn test text n → n ≤ k
all_reach test text k n no_end all more = omega (arith, run_is test text k no_end all.0 all.1, run_reaches test text n no_end more)

-- the number that begins with a digit, by its base
pub numbers_or : (line : ℕ) (text : Text) (P : Found → Type 0) → is_ascii_digit (slice_index text 0) ≡ true
    → ((k : ℕ) → slice_index text 0 ≡ 48 → begins_hexadecimal text ≡ true → 0 < k → AllOf is_ascii_hexdigit (drop 2 text) k
    → P (number_piece line (within_int (2 + k) (value 16 (take k (drop 2 text))))))
    → ((k : ℕ) → slice_index text 0 ≡ 48 → begins_binary text ≡ true → 0 < k → AllOf is_binary_digit (drop 2 text) k
    → P (number_piece line (within_int (2 + k) (value 2 (take k (drop 2 text))))))
    → ((k : ℕ) → is_hexadecimal text 0 ≡ false → is_binary text 0 ≡ false → 0 < k → AllOf is_ascii_digit text k → P (number_piece line (decimal_or_octal text k)))
    → P (number_piece line (number text))
unfolding number
numbers_or line text P digit hexadecimal binary plain =
    decide (is_hexadecimal text 0)
    (λ is.
    let parts = and_last (slice_index text 0 == 48) (begins_hexadecimal text) (is_ascii_hexdigit (slice_index text 2)) is in
    rw is (hexadecimal (run is_ascii_hexdigit text 2) (same_byte (slice_index text 0) 48 parts.0) parts.1.0 (run_some is_ascii_hexdigit text 2 parts.1.1 refl) (all_of_run is_ascii_hexdigit text 2 refl)))
    (λ no_hexadecimal. decide (is_binary text 0)
    (λ is.
    let parts = and_last (slice_index text 0 == 48) (begins_binary text) (is_binary_digit (slice_index text 2)) is in
    rw (no_hexadecimal, is) (binary (run is_binary_digit text 2) (same_byte (slice_index text 0) 48 parts.0) parts.1.0 (run_some is_binary_digit text 2 parts.1.1 refl) (all_of_run is_binary_digit text 2 refl)))
    (λ no_binary. rw (no_hexadecimal, no_binary) (plain (run is_ascii_digit text 0) no_hexadecimal no_binary (run_some is_ascii_digit text 0 digit refl) (all_of_run is_ascii_digit text 0 refl))))

-- decimal digits, all of those there
pub decimals_or : (line : ℕ) (text : Text) (k : ℕ) (P : Found → Type 0) → 0 < k → AllOf is_ascii_digit text k
    → (goes_on_as_float text k ≡ true → P (Err (Fail.FloatLiteral line)))
    → (IsWhole text k → slice_index text 0 ≡ 48 → 1 < k → (i : ℕ) → i < k → is_octal_digit (slice_index text i) ≡ false → P (Err (Fail.BadByte line)))
    → (IsWhole text k → slice_index text 0 ≡ 48 → 1 < k → AllIn is_octal_digit text k → P (number_piece line (within_int k (value 8 (take k text)))))
    → (IsWhole text k → (slice_index text 0 ≡ 48 → k ≡ 1) → P (number_piece line (within_int k (value 10 (take k text)))))
    → P (number_piece line (decimal_or_octal text k))
decimals_or line text k P some all float bad octal decimal =
    decide (goes_on_as_float text k)
    (λ is. rw is (float is))
    (λ no_float.
    let whole : IsWhole text k = (some, (all, no_float)) in
    rw no_float (decide (slice_index text 0 == 48 && nat_lt 1 k)
    (λ is.
    let zero_first = same_byte (slice_index text 0) 48 (and_left (slice_index text 0 == 48) (nat_lt 1 k) is) in
    let more = less_is 1 k (and_right (slice_index text 0 == 48) (nat_lt 1 k) is) in
    rw is (decide (nat_lt (run is_octal_digit text 0) k)
    (λ short. rw short (bad whole zero_first more (run is_octal_digit text 0) (less_is (run is_octal_digit text 0) k short) (run_stops is_octal_digit text refl)))
    (λ long. rw long (octal whole zero_first more (λ i low. run_all is_octal_digit text i (not_less (run is_octal_digit text 0) k i long low))))))
    (λ not. rw not (decimal whole (λ zero_first. alone (slice_index text 0) k some zero_first not)))))
  where
    less_is : (m n : ℕ) → nat_lt m n ≡ true → m < n
    less_is m n h = grind (arith, common_steps)

    not_less : (m n i : ℕ) → nat_lt m n ≡ false → i < n → i < m
    not_less m n i h low = grind (arith, common_steps)

    alone : (b k : ℕ) → 0 < k → b ≡ 48 → (b == 48 && nat_lt 1 k) ≡ false → k ≡ 1
    alone b k some is not = grind (arith, common_steps)

-- ---- what bars the other bases

-- a number in a base is none of another
pub no_octal : (text : Text) (n : ℕ) → begins_hexadecimal text ≡ true → 1 < n → AllIn is_octal_digit text n → ⊥
no_octal text n marked more all = mark_no_octal (slice_index text 1) marked (all 1 more)
  where
    mark_no_octal : (b : ℕ) → (b == 120 || b == 88) ≡ true → is_octal_digit b ≡ true → ⊥
    mark_no_octal b is octal = grind (arith, common_steps)

pub no_octal_binary : (text : Text) (n : ℕ) → begins_binary text ≡ true → 1 < n → AllIn is_octal_digit text n → ⊥
no_octal_binary text n marked more all = mark_no_octal (slice_index text 1) marked (all 1 more)
  where
    mark_no_octal : (b : ℕ) → (b == 98 || b == 66) ≡ true → is_octal_digit b ≡ true → ⊥
    mark_no_octal b is octal = grind (arith, common_steps)

pub no_two_marks : (text : Text) → begins_hexadecimal text ≡ true → begins_binary text ≡ true → ⊥
no_two_marks text one two = by_byte (slice_index text 1) one two
  where
    by_byte : (b : ℕ) → (b == 120 || b == 88) ≡ true → (b == 98 || b == 66) ≡ true → ⊥
    by_byte b one two = grind (arith, common_steps)

first_in_class : (test : ℕ → Bool) (text : Text) (k : ℕ) → 0 < k → AllIn test (drop 2 text) k → test (slice_index text 2) ≡ true
first_in_class test text k some all = ap test (sym (behind_first 2 text)) ∙ all 0 some

pub hexadecimal_there : (text : Text) (k : ℕ) → slice_index text 0 ≡ 48 → begins_hexadecimal text ≡ true → 0 < k → AllIn is_ascii_hexdigit (drop 2 text) k → is_hexadecimal text 0 ≡ true
hexadecimal_there text k zero_first marked some all =
    both_hold (slice_index text 0 == 48 && begins_hexadecimal text) (is_ascii_hexdigit (slice_index text 2))
    (both_hold (slice_index text 0 == 48) (begins_hexadecimal text) (is_byte (slice_index text 0) 48 zero_first) marked)
    (first_in_class is_ascii_hexdigit text k some all)

pub binary_there : (text : Text) (k : ℕ) → slice_index text 0 ≡ 48 → begins_binary text ≡ true → 0 < k → AllIn is_binary_digit (drop 2 text) k → is_binary text 0 ≡ true
binary_there text k zero_first marked some all =
    both_hold (slice_index text 0 == 48 && begins_binary text) (is_binary_digit (slice_index text 2))
    (both_hold (slice_index text 0 == 48) (begins_binary text) (is_byte (slice_index text 0) 48 zero_first) marked)
    (first_in_class is_binary_digit text k some all)

pub octal_is_digits : (text : Text) (n : ℕ) → AllIn is_octal_digit text n → AllIn is_ascii_digit text n
octal_is_digits text n all i low = octal_digit (slice_index text i) (all i low)
  where
    octal_digit : (b : ℕ) → is_octal_digit b ≡ true → is_ascii_digit b ≡ true
    octal_digit b is = grind (arith, common_steps)

-- a 0 alone is an int
pub zero_fits : (text : Text) → slice_index text 0 ≡ 48 → value 10 (take 1 text) ≤ greatest_int
zero_fits [] is = absurd (omega (arith, is))
zero_fits (b ∷ text) is = subst (λ c. value 10 (c ∷ []) ≤ greatest_int) (sym is) (omega arith)

pub not_over : {G : Type 0} (n : ℕ) → n ≤ greatest_int → greatest_int < n → G
not_over n fits large = absurd (omega (arith, fits, large))
