-- How far the text of a template goes.
use Rattle.std.proofs.Common.{◌≡◌, ℕ, zero, suc, ◌+◌, ◌-◌, ◌<◌, ◌≤◌, Bool, true, false, ◌&&◌, ◌||◌, nat_lt, nat_le, cond, [], ◌∷◌, length, take, drop, refl, sym, ap, ◌∙◌, subst, arith}
use Rattle.std.specs.Prelude.{slice_index, ◌==◌}
use Rattle.std.specs.Char.{is_ascii_hexdigit}
use Rattle.std.proofs.lemmas.Grind.{common_steps}
use Rattle.std.proofs.lemmas.List.Sums.{prefix_len-le-length}
use Rattle.php_lex_pieces.specs.Bytes.{Text, run, is_octal_digit}
use Rattle.php_lex_pieces.specs.Numbers.{value}
use Rattle.php_lex_pieces.specs.Templates.{Delimiter, quote, stretch, escape, escaped_byte, scalar_escape, ends, begins_part, is_quote, text_len_from, text_len}
use Rattle.php_lex_laws.specs.Escapes.{IsInside}
use Rattle.php_lex_laws.proofs.EscapeLemmas.{unit_is, unit_there}
use Rattle.php_lex_laws.proofs.RangeLemmas.{chosen, other, same_byte, and_left, and_right}

is_some : (n : ℕ) → 0 < n → (n == 0) ≡ false
is_some n some = grind (arith, common_steps)

is_none : (n : ℕ) → n ≡ 0 → (n == 0) ≡ true
is_none n none = grind (arith, common_steps)

-- text by its stretches
abbrev IsRead : ℕ → Delimiter → Text → ℕ → Type 0
IsRead left by text zero = left ≡ 0
IsRead left by [] (suc k) = ⊥
IsRead (suc left) by (b ∷ text) (suc k) = IsRead left by text k
IsRead zero by (b ∷ text) (suc k) = (0 < (stretch by (b ∷ text)).0) × IsRead ((stretch by (b ∷ text)).0 - 1) by text k

read_reaches : (left : ℕ) (by : Delimiter) (text : Text) (k : ℕ) → IsRead left by text k → k ≤ text_len_from left by text
read_reaches left by text zero inside = omega arith
read_reaches left by [] (suc k) inside = absurd inside
read_reaches (suc left) by (b ∷ text) (suc k) inside = omega (arith, read_reaches left by text k inside)
read_reaches zero by (b ∷ text) (suc k) inside =
    let len = (stretch by (b ∷ text)).0 in
    let here = other (len == 0) 0 (suc (text_len_from (len - 1) by text)) (is_some len inside.0) in
    omega (arith, here, read_reaches (len - 1) by text k inside.1)

read_is : (left : ℕ) (by : Delimiter) (text : Text) (k : ℕ) → IsRead left by text k → (stretch by (drop k text)).0 ≡ 0 → text_len_from left by text ≡ k
read_is left by [] zero inside stops = refl
read_is left by [] (suc k) inside stops = absurd inside
read_is (suc left) by (b ∷ text) zero inside stops = absurd (omega (arith, inside))
read_is zero by (b ∷ text) zero inside stops =
    let len = (stretch by (b ∷ text)).0 in chosen (len == 0) 0 (suc (text_len_from (len - 1) by text)) (is_none len stops)
read_is (suc left) by (b ∷ text) (suc k) inside stops = ap suc (read_is left by text k inside stops)
read_is zero by (b ∷ text) (suc k) inside stops =
    let len = (stretch by (b ∷ text)).0 in
    other (len == 0) 0 (suc (text_len_from (len - 1) by text)) (is_some len inside.0) ∙ ap suc (read_is (len - 1) by text k inside.1 stops)

-- ---- an escape lies in the text

pub byte_past : (text : Text) (i : ℕ) → 0 < slice_index text i → i < length text
byte_past [] i some = absurd (omega arith)
byte_past (b ∷ text) zero some = omega arith
byte_past (b ∷ text) (suc i) some = omega (arith, byte_past text i some)

first_of_two : {A : Type 0} (v : Bool) (a b : ℕ × A) (n : ℕ) → (v ≡ true → a.0 ≤ n) → (v ≡ false → b.0 ≤ n) → (cond v a b).0 ≤ n
first_of_two true a b n one two = one refl
first_of_two false a b n one two = two refl

scalar_within : (text : Text) → (scalar_escape text).0 ≤ length text
unfolding scalar_escape
scalar_within text =
    let digits = run is_ascii_hexdigit text 3 in
    let number = value 16 (take digits (drop 3 text)) in
    first_of_two (nat_lt 0 digits && slice_index text (3 + digits) == 125 && nat_le number 1114111) _ _ (length text)
    (λ is. let brace = same_byte (slice_index text (3 + digits)) 125 (and_right (nat_lt 0 digits) (slice_index text (3 + digits) == 125) (and_left (nat_lt 0 digits && slice_index text (3 + digits) == 125) (nat_le number 1114111) is)) in
    omega (arith, byte_past text (3 + digits) (omega (arith, brace))))
    (λ _. omega arith)

escape_within : (in_quotes : Bool) (c : ℕ) (text : Text) → (escape in_quotes (92 ∷ c ∷ text)).0 ≤ suc (suc (length text))
unfolding escape
escape_within in_quotes c text =
    let whole = 92 ∷ c ∷ text in
    let n = suc (suc (length text)) in
    first_of_two (nat_lt 0 (escaped_byte c)) _ _ n (λ _. omega arith) (λ _.
    first_of_two (in_quotes && c == 34) _ _ n (λ _. omega arith) (λ _.
    first_of_two (is_octal_digit c) _ _ n (λ _. omega (arith, prefix_len-le-length is_octal_digit (c ∷ text))) (λ _.
    first_of_two ((c == 120 || c == 88) && is_ascii_hexdigit (slice_index whole 2)) _ _ n (λ _. omega (arith, prefix_len-le-length is_ascii_hexdigit text)) (λ _.
    first_of_two (c == 117 && slice_index whole 2 == 123) _ _ n (λ _. scalar_within whole) (λ _.
    first_of_two (c == 123) _ _ n (λ _. omega arith) (λ _. omega arith))))))

escape_alone : (in_quotes : Bool) → (escape in_quotes (92 ∷ [])).0 ≤ 1
unfolding escape
escape_alone true = omega arith
escape_alone false = omega arith

escape_fits : (in_quotes : Bool) (text : Text) → (escape in_quotes (92 ∷ text)).0 ≤ suc (length text)
escape_fits in_quotes [] = escape_alone in_quotes
escape_fits in_quotes (c ∷ text) = escape_within in_quotes c text

stretch_within : (by : Delimiter) (b : ℕ) (text : Text) → (stretch by (b ∷ text)).0 ≤ suc (length text)
unfolding stretch
stretch_within by b text =
    first_of_two (b == 92) _ _ (suc (length text))
    (λ backslash. subst (λ c. (escape (is_quote by) (c ∷ text)).0 ≤ suc (length text)) (sym (same_byte b 92 backslash)) (escape_fits (is_quote by) text))
    (λ _. first_of_two (ends by (b ∷ text) || begins_part (b ∷ text)) _ _ (suc (length text)) (λ _. omega arith) (λ _. omega arith))

read_there : (left : ℕ) (by : Delimiter) (text : Text) → left ≤ length text → IsRead left by text (text_len_from left by text)
read_there zero by [] within = refl
read_there (suc left) by [] within = absurd (omega arith)
read_there (suc left) by (b ∷ text) within = read_there left by text (omega arith)
read_there zero by (b ∷ text) within =
    let len = (stretch by (b ∷ text)).0 in
    by_test (len == 0) refl (read_there (len - 1) by text (omega (arith, stretch_within by b text)))
  where
    by_test : (v : Bool) → ((stretch by (b ∷ text)).0 == 0) ≡ v → IsRead ((stretch by (b ∷ text)).0 - 1) by text (text_len_from ((stretch by (b ∷ text)).0 - 1) by text)
        → IsRead zero by (b ∷ text) (cond v 0 (suc (text_len_from ((stretch by (b ∷ text)).0 - 1) by text)))
    by_test true none later = refl
    by_test false none later = (grind (arith, common_steps), later)

read_len : (by : Delimiter) (text : Text) → IsRead 0 by text (text_len by text)
read_len by text = read_there 0 by text (omega arith)

-- ---- what is no text

-- a quote is none of its own template
pub quote_stops : (text : Text) → slice_index text 0 ≡ 34 → (stretch quote text).0 ≡ 0
unfolding stretch ends
quote_stops text is = rw is refl

-- ---- the same of bytes and escapes

inside_read : (left : ℕ) (by : Delimiter) (text : Text) (k : ℕ) → IsInside left by text k → IsRead left by text k
inside_read left by text zero inside = inside
inside_read left by [] (suc k) inside = absurd inside
inside_read (suc left) by (b ∷ text) (suc k) inside = inside_read left by text k inside
inside_read zero by (b ∷ text) (suc k) inside =
    let told = unit_is by (b ∷ text) inside.0 inside.1.0 in
    (subst (λ m. 0 < m) (sym told.0) told.1, subst (λ m. IsRead (m - 1) by text k) (sym told.0) (inside_read (inside.0 - 1) by text k inside.1.1))

read_inside : (left : ℕ) (by : Delimiter) (text : Text) (k : ℕ) → IsRead left by text k → IsInside left by text k
read_inside left by text zero read = read
read_inside left by [] (suc k) read = absurd read
read_inside (suc left) by (b ∷ text) (suc k) read = read_inside left by text k read
read_inside zero by (b ∷ text) (suc k) read =
    ((stretch by (b ∷ text)).0, (unit_there by (b ∷ text) read.0, read_inside ((stretch by (b ∷ text)).0 - 1) by text k read.1))

pub inside_reaches : (left : ℕ) (by : Delimiter) (text : Text) (k : ℕ) → IsInside left by text k → k ≤ text_len_from left by text
inside_reaches left by text k inside = read_reaches left by text k (inside_read left by text k inside)

pub inside_is : (left : ℕ) (by : Delimiter) (text : Text) (k : ℕ) → IsInside left by text k → (stretch by (drop k text)).0 ≡ 0 → text_len_from left by text ≡ k
inside_is left by text k inside stops = read_is left by text k (inside_read left by text k inside) stops

pub inside_len : (by : Delimiter) (text : Text) → IsInside 0 by text (text_len by text)
inside_len by text = read_inside 0 by text (text_len by text) (read_len by text)
