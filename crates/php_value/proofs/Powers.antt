-- Results that have 64 bits, and powers with great exponents.
use Rattle.std.proofs.Common.{inl, inr, to_z, of_z, ◌≡◌, ℕ, suc, zero, ◌+◌, ◌%◌, ◌^◌, ◌<◌, ◌≤◌, Bool, true, false, cond, nat_lt, refl, ap, sym, ◌∙◌, arith, le_trans, pow-suc, mul-zero}
use Rattle.std.proofs.Math.Nat.{pow-le-pow_left, pow-le-pow_right}
use Rattle.std.specs.Prelude.{int_lt, ℤ, pos, negsuc, neg_ℤ, unsigned_abs, FitsSigned, Option, Some, None, Result, Ok, Err, MatchOption, SomeIff, ◌==◌, if◌then◌else◌}
use Rattle.std.specs.Int.{w64, int_pow}
use Rattle.std.proofs.lemmas.Bool.{cases_Bool, le-ltb, ltb-false, true≢false}
use Rattle.std.proofs.lemmas.Int.{to_z-of_z}
use Rattle.php_value.specs.declared.fault.Fault.TheVariants.{Overflow}
use Rattle.php_value.specs.declared.fault.Stopped.{Stopped}
use Rattle.php_value.specs.declared.fault.Stopped.TheVariants.{Fault as Ends}
use Rattle.php_value.specs.declared.scalar.Scalar.{Scalar}
use Rattle.php_value.specs.declared.scalar.Scalar.TheVariants.{Int}
use Rattle.php_value.specs.Decimal.{fits_int}
use Rattle.php_value.specs.Operator.{int_result, power}
use Rattle.php_value.proofs.Numerals.{fits_int-decides}

pub int_result-fits : (z : ℤ) → FitsSigned w64 z → int_result z ≡ Ok (Int z)
int_result-fits z h = rw ((fits_int-decides z).1 h) refl

pub int_result-past : (z : ℤ) → (FitsSigned w64 z → ⊥) → int_result z ≡ Err (Ends Overflow)
int_result-past z h = elim (cases_Bool (fits_int z)) [ inl fits ↦ absurd (h ((fits_int-decides z).0 fits)) | inr past ↦ rw past refl ]

-- what a checked operation of the kit gives is the result
pub ranged : (z : ℤ) (o : Option ℤ) (r : Result Scalar Stopped) → SomeIff o (FitsSigned w64 z) z
    → MatchOption o (r ≡ Err (Ends Overflow)) (λ v. r ≡ Ok (Int v)) → r ≡ int_result z
ranged z None r past e = e ∙ sym (int_result-past z past)
ranged z (Some v) r fits e = e ∙ ap (λ y. Ok (Int y)) fits.1 ∙ sym (int_result-fits z fits.0)

-- the same, where the operands are read back from their bits
pub ranged_by : (f : ℤ → ℤ → ℤ) (x y : ℤ) (o : Option ℤ) (r : Result Scalar Stopped) → FitsSigned w64 x → FitsSigned w64 y
    → SomeIff o (FitsSigned w64 (f (to_z w64 (of_z w64 x)) (to_z w64 (of_z w64 y)))) (f (to_z w64 (of_z w64 x)) (to_z w64 (of_z w64 y)))
    → MatchOption o (r ≡ Err (Ends Overflow)) (λ v. r ≡ Ok (Int v)) → r ≡ int_result (f x y)
ranged_by f x y o r left right h e = ranged (f x y) o r (rw (to_z-of_z w64 x left, to_z-of_z w64 y right) at h) e

one-pow : (n : ℕ) → 1 ^ n ≡ 1
one-pow zero = refl
one-pow (suc n) = rw (pow-suc, one-pow n) refl

zero-pow : (n : ℕ) → 0 < n → 0 ^ n ≡ 0
zero-pow zero h = absurd (omega arith)
zero-pow (suc n) h = rw (pow-suc, mul-zero) refl

great : (a n : ℕ) → 2 ≤ a → 64 ≤ n → 2 ^ 64 ≤ a ^ n
great a n at_least long = le_trans (pow-le-pow_right (omega arith) long) (pow-le-pow_left at_least n)

past : (m : ℕ) → 2 ^ 64 ≤ m → fits_int (pos m) ≡ false
past m h = le-ltb m (2 ^ 63) (omega arith)

past_below : (m : ℕ) → 2 ^ 64 ≤ m → fits_int (neg_ℤ (pos m)) ≡ false
past_below zero h = absurd (omega arith)
past_below (suc m) h = le-ltb m (2 ^ 63) (omega arith)

past_either : (b : Bool) (m : ℕ) → 2 ^ 64 ≤ m → fits_int (cond b (pos m) (neg_ℤ (pos m))) ≡ false
past_either true m h = past m h
past_either false m h = past_below m h

-- the power of an integer other than -1, 0 and 1 does not fit
power-great : (base : ℤ) (n : ℕ) → 2 ≤ unsigned_abs base → 64 ≤ n → int_result (int_pow base n) ≡ Err (Ends Overflow)
power-great (pos a) n at_least long = rw (past (a ^ n) (great a n at_least long)) refl
power-great (negsuc a) n at_least long = rw (past_either (n % 2 == 0) (suc a ^ n) (great (suc a) n at_least long)) refl

-- two exponents from 64 on that are both even or both odd
alike : (base : ℤ) (m n : ℕ) → 64 ≤ m → 64 ≤ n → m % 2 ≡ n % 2 → int_result (int_pow base m) ≡ int_result (int_pow base n)
alike (pos zero) m n long far same = rw (zero-pow m (omega arith), zero-pow n (omega arith)) refl
alike (pos (suc zero)) m n long far same = rw (one-pow m, one-pow n) refl
alike (pos (suc (suc a))) m n long far same =
    power-great (pos (suc (suc a))) m (omega arith) long ∙ sym (power-great (pos (suc (suc a))) n (omega arith) far)
alike (negsuc zero) m n long far same = rw (same, one-pow m, one-pow n) refl
alike (negsuc (suc a)) m n long far same =
    power-great (negsuc (suc a)) m (omega arith) long ∙ sym (power-great (negsuc (suc a)) n (omega arith) far)

enough : (base : ℤ) (n : ℕ) (short : Bool) → nat_lt n 64 ≡ short → int_result (int_pow base (if short then n else 64 + n % 2)) ≡ int_result (int_pow base n)
enough base n true e = refl
enough base n false e = alike base (64 + n % 2) n (omega arith) (ltb-false n 64 e) (omega arith)

-- what a power gives by an exponent that is large enough
pub powered : (base exponent : ℤ) (e : ℕ) (o : Option ℤ) (r : Result Scalar Stopped) → FitsSigned w64 base → FitsSigned w64 exponent → int_lt (to_z w64 (of_z w64 exponent)) (pos 0) ≡ false
    → ((n : ℕ) → to_z w64 (of_z w64 exponent) ≡ pos n → e ≡ (if nat_lt n 64 then n else 64 + n % 2))
    → SomeIff o (FitsSigned w64 (int_pow (to_z w64 (of_z w64 base)) e)) (int_pow (to_z w64 (of_z w64 base)) e)
    → MatchOption o (r ≡ Err (Ends Overflow)) (λ v. r ≡ Ok (Int v)) → r ≡ power base exponent
powered base (negsuc n) e o r fits short sign reduced h found = absurd (true≢false (rw (to_z-of_z w64 (negsuc n) short) at sign))
powered base (pos n) e o r fits short sign reduced h found =
    ranged (int_pow base e) o r (rw (to_z-of_z w64 base fits) at h) found
    ∙ ap (λ k. int_result (int_pow base k)) (reduced n (to_z-of_z w64 (pos n) short))
    ∙ enough base n (nat_lt n 64) refl
