-- The numbers that digits give.
use Rattle.std.proofs.Common.{◌≡◌, ℕ, zero, suc, ◌+◌, ◌*◌, ◌<◌, ◌≤◌, Bool, true, false, cond, nat_le, [], ◌∷◌, length, take, drop, get_or, get_or-drop, length-drop, length-take-le, Some, None, refl, arith}
use Rattle.std.proofs.lemmas.Grind.{common_steps}
use Rattle.std.proofs.lemmas.Nat.{mul-le}
use Rattle.php_lex_pieces.specs.Bytes.{Text}
use Rattle.php_lex_pieces.specs.Numbers.{digit_value, value_from, value, at_most}

value_from_grows : (base n : ℕ) (digits : Text) → 0 < base → n ≤ value_from base n digits
value_from_grows base n [] positive = omega arith
value_from_grows base n (b ∷ digits) positive =
    let later = value_from_grows base (n * base + digit_value b) digits positive in
    omega (arith, later, mul-le n 1 n base (omega arith) positive)

-- digits that pass a limit stay above it
pub value_over : (base n limit : ℕ) (digits : Text) → 0 < base → limit < n * base → 0 < length digits → limit < value_from base n digits
value_over base n limit [] positive over more = absurd (omega arith)
value_over base n limit (b ∷ digits) positive over more =
    omega (arith, value_from_grows base (n * base + digit_value b) digits positive)

choice_none : (v : Bool) (n : ℕ) → v ≡ false → cond v (Some n) None ≡ None
choice_none true n h = absurd (cc)
choice_none false n h = refl

pub at_most_none : (limit n : ℕ) → limit < n → at_most limit n ≡ None
at_most_none limit n over = let no : nat_le n limit ≡ false = grind (arith, common_steps) in choice_none (nat_le n limit) n no

choice_some : (v : Bool) (n : ℕ) → v ≡ true → cond v (Some n) None ≡ Some n
choice_some true n h = refl
choice_some false n h = absurd (cc)

pub at_most_some : (limit n : ℕ) → n ≤ limit → at_most limit n ≡ Some n
at_most_some limit n under = let yes : nat_le n limit ≡ true = grind (arith, common_steps) in choice_some (nat_le n limit) n yes

-- ---- at most three digits

digit_bound : (b : ℕ) → b < 256 → digit_value b < 256
digit_bound b small = grind (arith, common_steps)

next_bound : (n base d most : ℕ) → n ≤ most → base ≤ 16 → d < 256 → n * base + d ≤ most * 16 + 255
next_bound n base d most low few small = omega (arith, mul-le n base most 16 low few)

few_digits : (base : ℕ) (digits : Text) → base ≤ 16 → length digits ≤ 3 → ((i : ℕ) → get_or digits i 0 < 256) → value base digits ≤ 1048576
few_digits base [] small few bytes = omega arith
few_digits base (a ∷ []) small few bytes = omega (arith, next_bound 0 base (digit_value a) 0 (omega arith) small (digit_bound a (bytes 0)))
few_digits base (a ∷ b ∷ []) small few bytes =
    let first = next_bound 0 base (digit_value a) 0 (omega arith) small (digit_bound a (bytes 0)) in
    let second = next_bound (0 * base + digit_value a) base (digit_value b) 255 first small (digit_bound b (bytes 1)) in
    omega (arith, second)
few_digits base (a ∷ b ∷ c ∷ []) small few bytes =
    let first = next_bound 0 base (digit_value a) 0 (omega arith) small (digit_bound a (bytes 0)) in
    let second = next_bound (0 * base + digit_value a) base (digit_value b) 255 first small (digit_bound b (bytes 1)) in
    let third = next_bound ((0 * base + digit_value a) * base + digit_value b) base (digit_value c) 4335 second small (digit_bound c (bytes 2)) in
    omega (arith, third)
few_digits base (a ∷ b ∷ c ∷ d ∷ digits) small few bytes = absurd (omega arith)

bytes_drop : (text : Text) (at : ℕ) → ((i : ℕ) → get_or text i 0 < 256) → (i : ℕ) → get_or (drop at text) i 0 < 256
bytes_drop text at bytes i = rw (get_or-drop at text i 0) (bytes (at + i))

bytes_take : (text : Text) (n : ℕ) → ((i : ℕ) → get_or text i 0 < 256) → (i : ℕ) → get_or (take n text) i 0 < 256
bytes_take [] zero bytes i = bytes i
bytes_take [] (suc n) bytes i = bytes i
bytes_take (b ∷ text) zero bytes i = omega arith
bytes_take (b ∷ text) (suc n) bytes zero = bytes 0
bytes_take (b ∷ text) (suc n) bytes (suc i) = bytes_take text n (λ k. bytes (suc k)) i

pub few_digits_at : (base : ℕ) (text : Text) (at n : ℕ) → base ≤ 16 → n ≤ 3 → at + n ≤ length text → ((i : ℕ) → get_or text i 0 < 256) → value base (take n (drop at text)) ≤ 1048576
few_digits_at base text at n small few within bytes =
    few_digits base (take n (drop at text)) small (omega (arith, length-take-le n (drop at text) (omega (arith, length-drop at text)))) (bytes_take (drop at text) n (bytes_drop text at bytes))
