-- Decimal digits, one after another.
use Rattle.std.proofs.Common.{◌≡◌, ℕ, ◌+◌, ◌-◌, ◌*◌, ◌<◌, ◌≤◌, Bool, true, false, ◌&&◌, List, [], ◌∷◌, drop, length, get_or, refl, sym, ap, ◌∙◌, subst, add-one, arith}
use Rattle.std.specs.List.{list_all}
use Rattle.std.proofs.lemmas.Bool.{leb-true}
use Rattle.std.proofs.Math.Seq.{drop-cons}
use Rattle.php_run.specs.Numerals.{is_digit, numeral, numeral_from}

-- a test of two parts that holds
pub both : (a b : Bool) → (a && b) ≡ true → (a ≡ true) × (b ≡ true)
both true b h = (refl, h)
both false b h = absurd cc

pub digit_from : (d : ℕ) → is_digit d ≡ true → 48 ≤ d
digit_from d h = leb-true 48 d (both _ _ h).0

pub digit_to : (d : ℕ) → is_digit d ≡ true → d ≤ 57
digit_to d h = leb-true d 57 (both _ _ h).1

-- further digits make no number less
pub numeral_from-le : (v : ℕ) (ds : List ℕ) → v ≤ numeral_from v ds
numeral_from-le v [] = omega arith
numeral_from-le v (d ∷ ds) = let h = numeral_from-le (10 * v + (d - 48)) ds in omega arith

-- the digit at a place, and those behind it
digits_split : (ds : List ℕ) (i : ℕ) → i < length ds → drop i ds ≡ get_or ds i 0 ∷ drop (i + 1) ds
digits_split ds i within = drop-cons ds i 0 within ∙ ap (λ n. get_or ds i 0 ∷ drop n ds) (sym (add-one i))

pub digits-at : (ds : List ℕ) (i : ℕ) → i < length ds → list_all is_digit (drop i ds) ≡ true →
    (is_digit (get_or ds i 0) ≡ true) × (list_all is_digit (drop (i + 1) ds) ≡ true)
digits-at ds i within all = both _ _ (ap (λ l. list_all is_digit l) (sym (digits_split ds i within)) ∙ all)

pub numeral-at : (ds : List ℕ) (v i : ℕ) → i < length ds → numeral_from v (drop i ds) ≡ numeral_from (10 * v + (get_or ds i 0 - 48)) (drop (i + 1) ds)
numeral-at ds v i within = ap (λ l. numeral_from v l) (digits_split ds i within)

-- the number with the digit at a place is no greater than the whole
pub numeral-at_least : (ds : List ℕ) (v i : ℕ) → i < length ds → numeral_from v (drop i ds) ≡ numeral ds → 10 * v + (get_or ds i 0 - 48) ≤ numeral ds
numeral-at_least ds v i within so_far =
    let P : ℕ → Type 0 = λ n. 10 * v + (get_or ds i 0 - 48) ≤ n in
    subst P (sym (numeral-at ds v i within) ∙ so_far) (numeral_from-le (10 * v + (get_or ds i 0 - 48)) (drop (i + 1) ds))
