-- What stands in the brackets of a part without braces.
use Rattle.std.proofs.Common.{◌≡◌, ℕ, ◌+◌, ◌-◌, ◌<◌, ◌≤◌, Bool, true, false, ◌&&◌, ◌||◌, nat_lt, cond, drop, take, Option, Some, None, Ok, Err, ℤ, refl, sym, ap, ◌∙◌, subst, arith, inr}
use Rattle.std.specs.Prelude.{slice_index, ◌==◌}
use Rattle.std.specs.Char.{is_ascii_digit, is_ascii_hexdigit}
use Rattle.std.proofs.lemmas.Grind.{common_steps}
use Rattle.php_lex.specs.declared.fail.LexFail.TheVariants as Fail
use Rattle.php_token.specs.declared.kind.TokenKind.TheVariants as Kind
use Rattle.php_lex_pieces.specs.Bytes.{Text, is_name_start, is_name_byte, is_binary_digit, run, name_len}
use Rattle.php_lex.specs.Modes.{key_due, key_read, turn}
use Rattle.php_lex_pieces.specs.Numbers.{key_len, sign_len, int_key, is_hexadecimal, is_binary}
use Rattle.php_lex.specs.Pieces.{Found, one, written, number_key, key_piece}
use Rattle.php_lex_laws.specs.Ranges.{AllIn}
use Rattle.php_lex_laws.specs.PartForms as form
use Rattle.php_lex_laws.proofs.DigitLemmas.{run_some}
use Rattle.php_lex_laws.proofs.HeredocLemmas.{and_last}
use Rattle.php_lex_laws.proofs.RangeLemmas.{no_both, chosen, other, decide, same_byte, other_byte, is_byte, is_over, is_positive, is_under, and_left, and_right, both_hold, run_reaches, run_all, behind, behind_first, name_reaches, name_there}
use Rattle.php_lex_laws.proofs.Standing.{Reaches, Outcome}

key_or : (begun line : ℕ) (text : Text) (P : Found → Type 0)
    → (0 < name_len text 0 → P (Ok (written Kind.Str (name_len text 0) text (turn (key_read begun)))))
    → (name_len text 0 ≡ 0 → slice_index text 0 ≡ 36 → 0 < name_len text 1 → P (Ok (one Kind.Variable (1 + name_len text 1) (take (name_len text 1) (drop 1 text)) (turn (key_read begun)))))
    → (name_len text 0 ≡ 0 → (slice_index text 0 == 36 && nat_lt 0 (name_len text 1)) ≡ false → 0 < key_len text → P (Ok (form.number_given begun text (key_len text))))
    → (name_len text 0 ≡ 0 → (slice_index text 0 == 36 && nat_lt 0 (name_len text 1)) ≡ false → key_len text ≡ 0 → P (Err (Fail.BadEscape line)))
    → P (key_piece begun line text)
unfolding key_piece
key_or begun line text P names variables numbers none =
    let b = slice_index text 0 in
    let len = name_len text 1 in
    decide (nat_lt 0 (name_len text 0)) (λ h. rw h (names (is_over (name_len text 0) h))) (λ no_name.
    decide (b == 36 && nat_lt 0 len)
    (λ h. rw (no_name, h) (variables (is_under (name_len text 0) no_name) (same_byte b 36 (and_left (b == 36) (nat_lt 0 len) h)) (is_over len (and_right (b == 36) (nat_lt 0 len) h)))) (λ no_variable.
    decide (nat_lt 0 (key_len text))
    (λ h. rw (no_name, no_variable, h) (numbers (is_under (name_len text 0) no_name) no_variable (is_over (key_len text) h)))
    (λ h. rw (no_name, no_variable, h) (none (is_under (name_len text 0) no_name) no_variable (is_under (key_len text) h)))))

variable_same : (begun : ℕ) (text : Text) (n len : ℕ) → n ≡ 1 + len → one Kind.Variable (1 + len) (take len (drop 1 text)) (turn (key_read begun)) ≡ one Kind.Variable n (take (n - 1) (drop 1 text)) (turn (key_read begun))
variable_same begun text n len e =
    let width : n - 1 ≡ len = omega (arith, e) in
    ap (λ m. one Kind.Variable (1 + len) (take m (drop 1 text)) (turn (key_read begun))) (sym width) ∙ ap (λ m. one Kind.Variable m (take (n - 1) (drop 1 text)) (turn (key_read begun))) (sym e)

-- ---- the length of a number

number_len : (begun : ℕ) (text : Text) (n : ℕ) (found : Option ℤ) → (number_key begun text n found).len ≡ n
number_len begun text n None = refl
number_len begun text n (Some int) = refl

digits_or : (text : Text) (at : ℕ) (P : ℕ → Type 0)
    → (is_hexadecimal text at ≡ true → P (at + 2 + run is_ascii_hexdigit text (at + 2)))
    → (is_hexadecimal text at ≡ false → is_binary text at ≡ true → P (at + 2 + run is_binary_digit text (at + 2)))
    → (is_hexadecimal text at ≡ false → is_binary text at ≡ false → is_ascii_digit (slice_index text at) ≡ true → P (at + run is_ascii_digit text at))
    → (is_hexadecimal text at ≡ false → is_binary text at ≡ false → is_ascii_digit (slice_index text at) ≡ false → P 0)
    → P (cond (is_hexadecimal text at) (at + 2 + run is_ascii_hexdigit text (at + 2)) (cond (is_binary text at) (at + 2 + run is_binary_digit text (at + 2)) (cond (is_ascii_digit (slice_index text at)) (at + run is_ascii_digit text at) 0)))
digits_or text at P hexadecimal binary decimal none =
    decide (is_hexadecimal text at) (λ h. rw h (hexadecimal h)) (λ no_hexadecimal.
    decide (is_binary text at) (λ h. rw (no_hexadecimal, h) (binary no_hexadecimal h)) (λ no_binary.
    decide (is_ascii_digit (slice_index text at)) (λ h. rw (no_hexadecimal, no_binary, h) (decimal no_hexadecimal no_binary h)) (λ h. rw (no_hexadecimal, no_binary, h) (none no_hexadecimal no_binary h))))

key_len_or : (text : Text) (at : ℕ) (P : ℕ → Type 0) → sign_len text ≡ at
    → (is_hexadecimal text at ≡ true → P (at + 2 + run is_ascii_hexdigit text (at + 2)))
    → (is_hexadecimal text at ≡ false → is_binary text at ≡ true → P (at + 2 + run is_binary_digit text (at + 2)))
    → (is_hexadecimal text at ≡ false → is_binary text at ≡ false → is_ascii_digit (slice_index text at) ≡ true → P (at + run is_ascii_digit text at))
    → (is_hexadecimal text at ≡ false → is_binary text at ≡ false → is_ascii_digit (slice_index text at) ≡ false → P 0)
    → P (key_len text)
unfolding key_len
key_len_or text at P sign hexadecimal binary decimal none = rw sign (digits_or text at P hexadecimal binary decimal none)

digit_no_minus : (b : ℕ) → is_ascii_digit b ≡ true → (b == 45) ≡ false
digit_no_minus b digit = grind (arith, common_steps)

sign_is : (minus : Bool) (text : Text) (at : ℕ) → form.IsSigned minus text at → is_ascii_digit (slice_index text at) ≡ true → sign_len text ≡ at
sign_is true text at signed digit = chosen (slice_index text 0 == 45) 1 0 (is_byte (slice_index text 0) 45 signed.0) ∙ sym signed.1
sign_is false text at signed digit =
    other (slice_index text 0 == 45) 1 0 (digit_no_minus (slice_index text 0) (ap (λ i. is_ascii_digit (slice_index text i)) (sym signed) ∙ digit)) ∙ sym signed

first_digit : (test : ℕ → Bool) (text : Text) (at k : ℕ) → form.AreDigits test text at k → test (slice_index text at) ≡ true
first_digit test text at k digits = ap test (sym (behind_first at text)) ∙ digits.1 0 digits.0

hexadecimal_no_digit : (b : ℕ) → (b == 120 || b == 88) ≡ true → is_ascii_digit b ≡ false
hexadecimal_no_digit b mark = grind (arith, common_steps)

binary_no_digit : (b : ℕ) → (b == 98 || b == 66) ≡ true → is_ascii_digit b ≡ false
binary_no_digit b mark = grind (arith, common_steps)

-- before a mark stands one digit
one_digit : (text : Text) (at k : ℕ) → is_ascii_digit (slice_index text (at + 1)) ≡ false → AllIn is_ascii_digit (drop at text) k → k ≤ 1
one_digit text at k mark all =
    decide (nat_lt 1 k)
    (λ more. absurd (no_both (is_ascii_digit (slice_index text (at + 1))) (ap is_ascii_digit (sym (behind at text 1)) ∙ all 1 (less_is 1 k more)) mark))
    (λ few. not_less k few)
  where
    less_is : (m n : ℕ) → nat_lt m n ≡ true → m < n
    less_is m n h = grind (arith, common_steps)

    not_less : (k : ℕ) → nat_lt 1 k ≡ false → k ≤ 1
    not_less k h = grind (arith, common_steps)

hexadecimal_parts : (text : Text) (at : ℕ) → is_hexadecimal text at ≡ true → (slice_index text at ≡ 48) × (((slice_index text (at + 1) == 120 || slice_index text (at + 1) == 88) ≡ true) × (is_ascii_hexdigit (slice_index text (at + 2)) ≡ true))
hexadecimal_parts text at is = let parts = and_last (slice_index text at == 48) (slice_index text (at + 1) == 120 || slice_index text (at + 1) == 88) (is_ascii_hexdigit (slice_index text (at + 2))) is in (same_byte (slice_index text at) 48 parts.0, parts.1)

binary_parts : (text : Text) (at : ℕ) → is_binary text at ≡ true → (slice_index text at ≡ 48) × (((slice_index text (at + 1) == 98 || slice_index text (at + 1) == 66) ≡ true) × (is_binary_digit (slice_index text (at + 2)) ≡ true))
binary_parts text at is = let parts = and_last (slice_index text at == 48) (slice_index text (at + 1) == 98 || slice_index text (at + 1) == 66) (is_binary_digit (slice_index text (at + 2))) is in (same_byte (slice_index text at) 48 parts.0, parts.1)

decimal_low : (minus : Bool) (text : Text) (n : ℕ) → form.HasKeyForm (form.decimal_key minus) text n → n ≤ key_len text
decimal_low minus text n has =
    let at = has.0 in
    let k = has.1.1.0 in
    let digits = has.1.1.1.0 in
    let first = first_digit is_ascii_digit text at k digits in
    key_len_or text at (λ len. n ≤ len) (sign_is minus text at has.1.0 first)
    (λ is. omega (arith, has.1.1.1.1, one_digit text at k (hexadecimal_no_digit (slice_index text (at + 1)) (hexadecimal_parts text at is).1.0) digits.1))
    (λ no_hexadecimal is. omega (arith, has.1.1.1.1, one_digit text at k (binary_no_digit (slice_index text (at + 1)) (binary_parts text at is).1.0) digits.1))
    (λ no_hexadecimal no_binary digit. omega (arith, has.1.1.1.1, run_reaches is_ascii_digit (drop at text) k refl digits.1))
    (λ no_hexadecimal no_binary no_digit. absurd (no_both (is_ascii_digit (slice_index text at)) first no_digit))

zero_digit : (b : ℕ) → b ≡ 48 → is_ascii_digit b ≡ true
zero_digit b is = ap is_ascii_digit is

two_marks : (b : ℕ) → (b == 120 || b == 88) ≡ true → (b == 98 || b == 66) ≡ true → ⊥
two_marks b one two = grind (arith, common_steps)

hexadecimal_low : (minus : Bool) (text : Text) (n : ℕ) → form.HasKeyForm (form.hexadecimal_key minus) text n → n ≤ key_len text
hexadecimal_low minus text n has =
    let at = has.0 in
    let k = has.1.1.1.1.0 in
    let digits = has.1.1.1.1.1.0 in
    let mark : (slice_index text (at + 1) == 120 || slice_index text (at + 1) == 88) ≡ true = ap (λ b. b == 120 || b == 88) (sym (behind at text 1)) ∙ has.1.1.1.0 in
    let there : is_hexadecimal text at ≡ true =
    both_hold (slice_index text at == 48 && (slice_index text (at + 1) == 120 || slice_index text (at + 1) == 88)) (is_ascii_hexdigit (slice_index text (at + 2)))
    (both_hold (slice_index text at == 48) (slice_index text (at + 1) == 120 || slice_index text (at + 1) == 88) (is_byte (slice_index text at) 48 has.1.1.0) mark)
    (first_digit is_ascii_hexdigit text (at + 2) k digits) in
    key_len_or text at (λ len. n ≤ len) (sign_is minus text at has.1.0 (zero_digit (slice_index text at) has.1.1.0))
    (λ is. omega (arith, has.1.1.1.1.1.1, run_reaches is_ascii_hexdigit (drop (at + 2) text) k refl digits.1))
    (λ no_hexadecimal is. absurd (no_both (is_hexadecimal text at) there no_hexadecimal))
    (λ no_hexadecimal no_binary digit. absurd (no_both (is_hexadecimal text at) there no_hexadecimal))
    (λ no_hexadecimal no_binary no_digit. absurd (no_both (is_hexadecimal text at) there no_hexadecimal))

binary_low : (minus : Bool) (text : Text) (n : ℕ) → form.HasKeyForm (form.binary_key minus) text n → n ≤ key_len text
binary_low minus text n has =
    let at = has.0 in
    let k = has.1.1.1.1.0 in
    let digits = has.1.1.1.1.1.0 in
    let mark : (slice_index text (at + 1) == 98 || slice_index text (at + 1) == 66) ≡ true = ap (λ b. b == 98 || b == 66) (sym (behind at text 1)) ∙ has.1.1.1.0 in
    let there : is_binary text at ≡ true =
    both_hold (slice_index text at == 48 && (slice_index text (at + 1) == 98 || slice_index text (at + 1) == 66)) (is_binary_digit (slice_index text (at + 2)))
    (both_hold (slice_index text at == 48) (slice_index text (at + 1) == 98 || slice_index text (at + 1) == 66) (is_byte (slice_index text at) 48 has.1.1.0) mark)
    (first_digit is_binary_digit text (at + 2) k digits) in
    key_len_or text at (λ len. n ≤ len) (sign_is minus text at has.1.0 (zero_digit (slice_index text at) has.1.1.0))
    (λ is. absurd (two_marks (slice_index text (at + 1)) (hexadecimal_parts text at is).1.0 mark))
    (λ no_hexadecimal is. omega (arith, has.1.1.1.1.1.1, run_reaches is_binary_digit (drop (at + 2) text) k refl digits.1))
    (λ no_hexadecimal no_binary digit. absurd (no_both (is_binary text at) there no_binary))
    (λ no_hexadecimal no_binary no_digit. absurd (no_both (is_binary text at) there no_binary))

-- ---- a number is no name and no variable

-- its first byte
abbrev pub IsNumberByte : ℕ → Type 0
IsNumberByte b = (is_name_start b ≡ false) × ((b == 36) ≡ false)

number_byte : (minus : Bool) (text : Text) (at : ℕ) → form.IsSigned minus text at → is_ascii_digit (slice_index text at) ≡ true → IsNumberByte (slice_index text 0)
number_byte true text at signed digit = let is = signed.0 in (rw is refl, rw is refl)
number_byte false text at signed digit = digit_byte (slice_index text 0) (ap (λ i. is_ascii_digit (slice_index text i)) (sym signed) ∙ digit)
  where
    no_name : (b : ℕ) → is_ascii_digit b ≡ true → is_name_start b ≡ false
    no_name b digit = grind (arith, common_steps)

    no_dollar : (b : ℕ) → is_ascii_digit b ≡ true → (b == 36) ≡ false
    no_dollar b digit = grind (arith, common_steps)

    digit_byte : (b : ℕ) → is_ascii_digit b ≡ true → IsNumberByte b
    digit_byte b digit = (no_name b digit, no_dollar b digit)

no_name_len : (text : Text) → is_name_start (slice_index text 0) ≡ false → name_len text 0 ≡ 0
no_name_len text none = other (is_name_start (slice_index text 0)) (run is_name_byte text 0) 0 none

-- what was found for a number of n bytes
number_reaches : (begun line : ℕ) (f : form.KeyForm) (text : Text) (n : ℕ) → ((m : ℕ) → form.key_given f begun text m ≡ form.number_given begun text m) → 0 < n → n ≤ key_len text → IsNumberByte (slice_index text 0)
    → Reaches (key_due begun) line f text n (key_piece begun line text)
number_reaches begun line f text n gives some low byte =
    let len = number_len begun text (key_len text) (int_key text (key_len text)) in
    key_or begun line text (Reaches (key_due begun) line f text n)
    (λ named. absurd (omega (arith, named, no_name_len text byte.0)))
    (λ no_name dollar named. absurd (other_byte (slice_index text 0) 36 byte.1 dollar))
    (λ no_name no_variable more. (omega (arith, low, len), λ e. let same : key_len text ≡ n = omega (arith, len, e) in ap (form.number_given begun text) same ∙ sym (gives n)))
    (λ no_name no_variable none. absurd (omega (arith, none, low, some)))

pub key_reaches : (begun line : ℕ) (f : form.KeyForm) (text : Text) (n : ℕ) → form.HasKeyForm f text n → Reaches (key_due begun) line f text n (key_piece begun line text)
key_reaches begun line form.name_key text n has =
    let low = name_reaches text 0 n has in
    key_or begun line text (Reaches (key_due begun) line form.name_key text n)
    (λ some. (low, λ e. ap (λ m. written Kind.Str m text (turn (key_read begun))) (sym e)))
    (λ no_name dollar named. absurd (omega (arith, no_name, low, has.0)))
    (λ no_name no_variable more. absurd (omega (arith, no_name, low, has.0)))
    (λ no_name no_variable none. absurd (omega (arith, no_name, low, has.0)))
key_reaches begun line form.variable_key text n has =
    let low = name_reaches text 1 has.1.0 has.1.1.0 in
    let some : 0 < name_len text 1 = omega (arith, low, has.1.1.0.0) in
    let is = has.0 in
    let there : (slice_index text 0 == 36 && nat_lt 0 (name_len text 1)) ≡ true = both_hold (slice_index text 0 == 36) (nat_lt 0 (name_len text 1)) (is_byte (slice_index text 0) 36 is) (is_positive (name_len text 1) some) in
    key_or begun line text (Reaches (key_due begun) line form.variable_key text n)
    (λ named. absurd (omega (arith, named, no_name_len text (rw is refl))))
    (λ no_name dollar named. (omega (arith, has.1.1.1, low), λ e. variable_same begun text n (name_len text 1) e))
    (λ no_name no_variable more. absurd (no_both (slice_index text 0 == 36 && nat_lt 0 (name_len text 1)) there no_variable))
    (λ no_name no_variable none. absurd (no_both (slice_index text 0 == 36 && nat_lt 0 (name_len text 1)) there no_variable))
key_reaches begun line (form.decimal_key minus) text n has =
    number_reaches begun line (form.decimal_key minus) text n (λ m. refl) (omega (arith, has.1.1.1.1, has.1.1.1.0.0)) (decimal_low minus text n has) (number_byte minus text has.0 has.1.0 (first_digit is_ascii_digit text has.0 has.1.1.0 has.1.1.1.0))
key_reaches begun line (form.hexadecimal_key minus) text n has =
    number_reaches begun line (form.hexadecimal_key minus) text n (λ m. refl) (omega (arith, has.1.1.1.1.1.1)) (hexadecimal_low minus text n has) (number_byte minus text has.0 has.1.0 (zero_digit (slice_index text has.0) has.1.1.0))
key_reaches begun line (form.binary_key minus) text n has =
    number_reaches begun line (form.binary_key minus) text n (λ m. refl) (omega (arith, has.1.1.1.1.1.1)) (binary_low minus text n has) (number_byte minus text has.0 has.1.0 (zero_digit (slice_index text has.0) has.1.1.0))

-- ---- what is there

sign_there : (text : Text) → (minus : Bool) × form.IsSigned minus text (sign_len text)
sign_there text =
    decide (slice_index text 0 == 45)
    (λ h. (true, (same_byte (slice_index text 0) 45 h, chosen (slice_index text 0 == 45) 1 0 h)))
    (λ h. (false, other (slice_index text 0 == 45) 1 0 h))

-- a number of that length, and what it gives
abbrev IsNumber : Text → ℕ → Type 0
IsNumber text n = 0 < n → (f : form.KeyForm) × (form.HasKeyForm f text n × ((begun : ℕ) → form.key_given f begun text n ≡ form.number_given begun text n))

number_there : (text : Text) → IsNumber text (key_len text)
number_there text =
    let at = sign_len text in
    let signed = sign_there text in
    key_len_or text at (IsNumber text) refl
    (λ is some. let parts = hexadecimal_parts text at is in (
      form.hexadecimal_key signed.0,
      (
        (
          at,
          (
            signed.1,
            (
              parts.0,
              (
                ap (λ b. b == 120 || b == 88) (behind at text 1) ∙ parts.1.0,
                (run is_ascii_hexdigit text (at + 2), ((run_some is_ascii_hexdigit text (at + 2) parts.1.1 refl, run_all is_ascii_hexdigit (drop (at + 2) text)), refl)),
              ),
            ),
          ),
        ),
        λ begun. refl,
      ),
    ))
    (λ no_hexadecimal is some. let parts = binary_parts text at is in (
      form.binary_key signed.0,
      (
        (
          at,
          (
            signed.1,
            (
              parts.0,
              (
                ap (λ b. b == 98 || b == 66) (behind at text 1) ∙ parts.1.0,
                (run is_binary_digit text (at + 2), ((run_some is_binary_digit text (at + 2) parts.1.1 refl, run_all is_binary_digit (drop (at + 2) text)), refl)),
              ),
            ),
          ),
        ),
        λ begun. refl,
      ),
    ))
    (λ no_hexadecimal no_binary digit some.
    (form.decimal_key signed.0, ((at, (signed.1, (run is_ascii_digit text at, ((run_some is_ascii_digit text at digit refl, run_all is_ascii_digit (drop at text)), refl)))), λ begun. refl)))
    (λ no_hexadecimal no_binary no_digit some. absurd (omega (arith, some)))

pub key_outcome : (begun line : ℕ) (text : Text) → Outcome (key_due begun) line text (key_piece begun line text)
key_outcome begun line text =
    key_or begun line text (Outcome (key_due begun) line text)
    (λ some. (form.name_key, (name_there text 0 some, refl)))
    (λ no_name dollar some. (form.variable_key, ((dollar, (name_len text 1, (name_there text 1 some, refl))), variable_same begun text (1 + name_len text 1) (name_len text 1) refl)))
    (λ no_name no_variable some.
    let there = number_there text some in
    let len = number_len begun text (key_len text) (int_key text (key_len text)) in
    (there.0, (subst (form.HasKeyForm there.0 text) (sym len) there.1.0, ap (form.number_given begun text) (sym len) ∙ sym (subst (λ m. form.key_given there.0 begun text m ≡ form.number_given begun text m) (sym len) (there.1.1 begun)))))
    (λ no_name no_variable none. inr (λ e bars. bars, refl))
