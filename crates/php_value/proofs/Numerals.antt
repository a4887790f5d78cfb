-- The tests of `written_int` decide what `parse` asks.
use Rattle.std.proofs.Common.{◌∙◌, ap, sym, inl, inr, ◌≡◌, ℕ, ◌^◌, Bool, true, false, ◌&&◌, List, [], ◌∷◌, length, nat_lt, refl, arith}
use Rattle.std.specs.Prelude.{IsAscii, cond, drop, ◌==◌, ℤ, pos, negsuc, Some, None, Result, Ok, Err, IsUtf8, FitsSigned, if◌then◌else◌}
use Rattle.std.specs.Bool.{Decides}
use Rattle.std.specs.Char.{digit_value}
use Rattle.std.specs.Int.{w64}
use Rattle.std.specs.List.{list_all}
use Rattle.std.specs.Result.{result_ok}
use Rattle.std.specs.Str.Parse.{AllDigits, IsNumeral, ParsesSigned, without_leading_sign, signed_digits_value}
use Rattle.std.proofs.lemmas.Bool.Decides.{Decides-ltb, Decides-like, Decides-and, not_from_Decides}
use Rattle.std.proofs.lemmas.Bool.{cases_Bool, eqb-true}
use Rattle.std.proofs.lemmas.Str.Ascii.{IsAscii-cons}
use Rattle.std.proofs.lemmas.Fmt.{IsAscii-from_digits, parse-signed_decimal}
use Rattle.std.proofs.lemmas.Str.{IsUtf8-from_ascii, IsUtf8-nil}
use Rattle.std.specs.Cmp.Lexicographic.{bytes_decides}
use Rattle.std.specs.Fmt.{signed_decimal}
use Rattle.php_value.specs.declared.key.Key.TheVariants.{Int}
use Rattle.php_value.specs.Key.{key_of_text}
use Rattle.php_value.specs.Decimal.{fits_int, is_numeral, written_int}

pub fits_int-decides : (z : ℤ) → Decides (fits_int z) (FitsSigned w64 z)
fits_int-decides (pos n) = Decides-like (nat_lt n (2 ^ 63)) (λ h. record { sfits = h }) (λ h. h.sfits) (Decides-ltb n (2 ^ 63))
fits_int-decides (negsuc n) = Decides-like (nat_lt n (2 ^ 63)) (λ h. record { sfits = h }) (λ h. h.sfits) (Decides-ltb n (2 ^ 63))

digits-decides : (ds : List ℕ) → Decides (list_all (λ c. nat_lt (digit_value c) 10) ds) (AllDigits 10 ds)
digits-decides [] = (λ _. tt, λ _. refl)
digits-decides (c ∷ cs) =
    Decides-and (nat_lt (digit_value c) 10) (list_all (λ d. nat_lt (digit_value d) 10) cs) (Decides-ltb (digit_value c) 10) (digits-decides cs)

pub is_numeral-decides : (ds : List ℕ) → Decides (is_numeral ds) (IsNumeral 10 ds)
is_numeral-decides ds =
    Decides-and (nat_lt 0 (length ds)) (list_all (λ c. nat_lt (digit_value c) 10) ds) (Decides-ltb 0 (length ds)) (digits-decides ds)

-- what `parse` asks of a text
abbrev pub WritesInt : List ℕ → Type 0
WritesInt bs = IsNumeral 10 (without_leading_sign bs) × FitsSigned w64 (signed_digits_value 10 bs)

both-decide : (bs : List ℕ) → Decides (is_numeral (without_leading_sign bs) && fits_int (signed_digits_value 10 bs)) (WritesInt bs)
both-decide bs =
    Decides-and (is_numeral (without_leading_sign bs)) (fits_int (signed_digits_value 10 bs)) (is_numeral-decides (without_leading_sign bs)) (fits_int-decides (signed_digits_value 10 bs))

chosen : {X : Type 0} (b : Bool) (x y : X) → b ≡ true → (if b then x else y) ≡ x
chosen b x y e = rw e refl

unchosen : {X : Type 0} (b : Bool) (x y : X) → b ≡ false → (if b then x else y) ≡ y
unchosen b x y e = rw e refl

pub written_int-some : (bs : List ℕ) → WritesInt bs → written_int bs ≡ Some (signed_digits_value 10 bs)
written_int-some bs h = chosen (is_numeral (without_leading_sign bs) && fits_int (signed_digits_value 10 bs)) _ _ ((both-decide bs).1 h)

pub written_int-none : (bs : List ℕ) → (WritesInt bs → ⊥) → written_int bs ≡ None
written_int-none bs h =
    elim (cases_Bool (is_numeral (without_leading_sign bs) && fits_int (signed_digits_value 10 bs))) [
      | inl passes ↦ absurd (h ((both-decide bs).0 passes))
      | inr fails ↦ unchosen (is_numeral (without_leading_sign bs) && fits_int (signed_digits_value 10 bs)) _ _ fails
    ]

-- what `parse` gives, by `written_int`
pub parsed : {E : Type 0} (bs : List ℕ) (r : Result ℤ E) → ParsesSigned w64 10 bs r → result_ok r ≡ written_int bs
parsed bs (Ok z) h = rw (written_int-some bs h.0) (ap Some h.1)
parsed bs (Err e) h = rw (written_int-none bs h) refl

signed_digits_are_ascii : (c : ℕ) (cs : List ℕ) (minus plus : Bool) → c == 45 ≡ minus → c == 43 ≡ plus
    → AllDigits 10 (cond minus cs (drop (cond plus 1 0) (c ∷ cs))) → IsAscii (c ∷ cs)
signed_digits_are_ascii c cs true plus m p h =
    let at : c ≡ 45 = eqb-true c 45 m in IsAscii-cons c cs (omega arith) (IsAscii-from_digits cs h)
signed_digits_are_ascii c cs false true m p h =
    let at : c ≡ 43 = eqb-true c 43 p in IsAscii-cons c cs (omega arith) (IsAscii-from_digits cs h)
signed_digits_are_ascii c cs false false m p h = IsAscii-from_digits (c ∷ cs) h

digits_are_text : (bs : List ℕ) → AllDigits 10 (without_leading_sign bs) → IsUtf8 bs
digits_are_text [] h = IsUtf8-nil
digits_are_text (c ∷ cs) h = IsUtf8-from_ascii (c ∷ cs) (signed_digits_are_ascii c cs (c == 45) (c == 43) refl refl h)

-- bytes that are no text write no integer
pub unreadable : (bs : List ℕ) → (IsUtf8 bs → ⊥) → None ≡ written_int bs
unreadable bs h = sym (written_int-none bs (λ w. h (digits_are_text bs w.0.1)))

-- the decimal text of an integer writes that integer
abbrev as_read : ℤ → Result ℤ ℕ
as_read v = Ok v

abbrev as_unread : Result ℤ ℕ
as_unread = Err 0

read_back : (z v : ℤ) → FitsSigned w64 z → ParsesSigned w64 10 (signed_decimal z) (as_read v) → v ≡ z
read_back z v fits h =
    let same : as_read v ≡ Ok z = parse-signed_decimal w64 z (signed_decimal z) (as_read v) fits fits.sfits refl h in cc

unread : (z : ℤ) → FitsSigned w64 z → (WritesInt (signed_decimal z) → ⊥) → ⊥
unread z fits h =
    let same : as_unread ≡ Ok z = parse-signed_decimal w64 z (signed_decimal z) as_unread fits fits.sfits refl h in cc

pub written_int-signed_decimal : (z : ℤ) → FitsSigned w64 z → written_int (signed_decimal z) ≡ Some z
written_int-signed_decimal z fits =
    elim (cases_Bool (is_numeral (without_leading_sign (signed_decimal z)) && fits_int (signed_digits_value 10 (signed_decimal z)))) [
      | inl passes ↦
          let writes : WritesInt (signed_decimal z) = (both-decide (signed_decimal z)).0 passes in
          written_int-some (signed_decimal z) writes ∙ ap Some (read_back z (signed_digits_value 10 (signed_decimal z)) fits (writes, refl))
      | inr fails ↦ absurd (unread z fits (not_from_Decides _ (both-decide (signed_decimal z)) fails))
    ]

pub key_of_text-signed_decimal : (z : ℤ) → FitsSigned w64 z → key_of_text (signed_decimal z) ≡ Int z
key_of_text-signed_decimal z fits =
    rw (written_int-signed_decimal z fits)
    (rw ((bytes_decides (signed_decimal z) (signed_decimal z)).1 refl) refl)
