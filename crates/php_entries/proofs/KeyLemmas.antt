-- Keys that compare equal are equal.
use Rattle.std.proofs.Common.{◌≡◌, inl, inr, ℕ, ◌+◌, ◌<◌, ◌≤◌, List, [], ◌∷◌, refl, sym, ◌∙◌, ap, arith}
use Rattle.std.specs.Prelude.{true, false, nat_eq, pos, negsuc}
use Rattle.std.specs.Cmp.{signed_Decides}
use Rattle.std.specs.Cmp.Lexicographic.{pointwise}
use Rattle.std.proofs.lemmas.Bool.{and_from, eqb-true, eq-eqb, and_parts, cases_Bool, false≢true}
use Rattle.php_value.specs.declared.key.Key.{Key}
use Rattle.php_value.specs.declared.key.Key.TheVariants.{Int, Str}
use Rattle.php_entries.specs.Keys.{key_eq, next_key_above, next_key_without}
use Rattle.php_entries.specs.Soundness.{IsKeyBelow}

bytes_equal : (xs ys : List ℕ) → pointwise nat_eq xs ys ≡ true → xs ≡ ys
bytes_equal [] [] e = refl
bytes_equal [] (y ∷ ys) e = absurd (false≢true e)
bytes_equal (x ∷ xs) [] e = absurd (false≢true e)
bytes_equal (x ∷ xs) (y ∷ ys) e =
    let parts = and_parts (nat_eq x y) (pointwise nat_eq xs ys) e in
    let first = eqb-true x y parts.0 in
    let rest = bytes_equal xs ys parts.1 in
    λ i. first i ∷ rest i

bytes_self : (xs : List ℕ) → pointwise nat_eq xs xs ≡ true
bytes_self [] = refl
bytes_self (x ∷ xs) = and_from (nat_eq x x) (pointwise nat_eq xs xs) (eq-eqb x x refl) (bytes_self xs)

pub key_eq-true : (a b : Key) → key_eq a b ≡ true → a ≡ b
key_eq-true (Int i) (Int j) e = ap Int ((signed_Decides i j).0 e)
key_eq-true (Str s) (Str t) e = ap Str (bytes_equal s t e)
key_eq-true (Int i) (Str t) e = absurd (false≢true e)
key_eq-true (Str s) (Int j) e = absurd (false≢true e)

pub key_eq-self : (a : Key) → key_eq a a ≡ true
key_eq-self (Int i) = (signed_Decides i i).1 refl
key_eq-self (Str s) = bytes_self s

pub key_eq-sym_false : (a b : Key) → key_eq a b ≡ false → key_eq b a ≡ false
key_eq-sym_false a b apart =
    elim (cases_Bool (key_eq b a)) [
      | inl same ↦ absurd (false≢true (sym apart ∙ ap (λ (k : Key). key_eq a k) (key_eq-true b a same) ∙ key_eq-self a))
      | inr other ↦ other
    ]

-- a bound on keys may be raised
pub IsKeyBelow-raise : (k : Key) (n m : ℕ) → n ≤ m → IsKeyBelow n k → IsKeyBelow m k
IsKeyBelow-raise (Int (pos k)) n m up h = omega arith
IsKeyBelow-raise (Int (negsuc k)) n m up h = tt
IsKeyBelow-raise (Str s) n m up h = tt

pub IsKeyBelow-next_key_above : (k : Key) (next : ℕ) → IsKeyBelow (next_key_above k next) k
IsKeyBelow-next_key_above (Int (pos k)) next = omega arith
IsKeyBelow-next_key_above (Int (negsuc k)) next = tt
IsKeyBelow-next_key_above (Str s) next = tt

pub next_key_above-up : (k : Key) (next : ℕ) → next ≤ next_key_above k next
next_key_above-up (Int (pos k)) next = omega arith
next_key_above-up (Int (negsuc k)) next = omega arith
next_key_above-up (Str s) next = omega arith

pub next_key_above-within : (k : Key) (next bound : ℕ) → next ≤ bound → IsKeyBelow bound k → next_key_above k next ≤ bound
next_key_above-within (Int (pos k)) next bound h below = omega arith
next_key_above-within (Int (negsuc k)) next bound h below = h
next_key_above-within (Str s) next bound h below = h

-- the next key is above a key that is there already, so that key does not raise it
pub next_key_above-same : (k : Key) (next : ℕ) → IsKeyBelow next k → next_key_above k next ≡ next
next_key_above-same (Int (pos k)) next below = omega arith
next_key_above-same (Int (negsuc k)) next below = refl
next_key_above-same (Str s) next below = refl

pub next_key_without-down : (k : Key) (next : ℕ) → next_key_without k next ≤ next
next_key_without-down (Int (pos k)) next =
    elim (cases_Bool (nat_eq (k + 1) next)) [
      | inl e ↦ (let same : k + 1 ≡ next = eqb-true (k + 1) next e in let value : next_key_without (Int (pos k)) next ≡ k = rw e refl in omega arith)
      | inr e ↦ (let value : next_key_without (Int (pos k)) next ≡ next = rw e refl in omega arith)
    ]
next_key_without-down (Int (negsuc k)) next = omega arith
next_key_without-down (Str s) next = omega arith

-- another key that was below the next key is still below it
pub IsKeyBelow-next_key_without : (k q : Key) (next : ℕ) → key_eq k q ≡ false → IsKeyBelow next q → IsKeyBelow (next_key_without k next) q
IsKeyBelow-next_key_without (Int (pos k)) (Int (pos j)) next apart below =
    elim (cases_Bool (nat_eq (k + 1) next)) [
      | inl e ↦ (
          let same : k + 1 ≡ next = eqb-true (k + 1) next e in
          let value : next_key_without (Int (pos k)) next ≡ k = rw e refl in
          let other : k ≡ j → ⊥ = λ (is : k ≡ j). false≢true (sym apart ∙ ap (λ (n : ℕ). key_eq (Int (pos k)) (Int (pos n))) (sym is) ∙ key_eq-self (Int (pos k))) in
          let lower : j < k = omega arith in
          omega arith)
      | inr e ↦ (let value : next_key_without (Int (pos k)) next ≡ next = rw e refl in omega arith)
    ]
IsKeyBelow-next_key_without (Int (negsuc k)) (Int (pos j)) next apart below = below
IsKeyBelow-next_key_without (Str s) (Int (pos j)) next apart below = below
IsKeyBelow-next_key_without k (Int (negsuc j)) next apart below = tt
IsKeyBelow-next_key_without k (Str t) next apart below = tt

-- a key below a number isn't that number
pub key_eq-above : (n : ℕ) (k : Key) → IsKeyBelow n k → key_eq (Int (pos n)) k ≡ false
key_eq-above n (Int (pos k)) below =
    elim (cases_Bool (key_eq (Int (pos n)) (Int (pos k)))) [
      | inl same ↦ (
          let is : Int (pos n) ≡ Int (pos k) = key_eq-true (Int (pos n)) (Int (pos k)) same in
          let equal : n ≡ k = cc in
          absurd (omega arith))
      | inr other ↦ other
    ]
key_eq-above n (Int (negsuc k)) below =
    elim (cases_Bool (key_eq (Int (pos n)) (Int (negsuc k)))) [
      | inl same ↦ (let is : Int (pos n) ≡ Int (negsuc k) = key_eq-true (Int (pos n)) (Int (negsuc k)) same in cc)
      | inr other ↦ other
    ]
key_eq-above n (Str s) below = refl
