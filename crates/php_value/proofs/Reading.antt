-- Reading a number byte by byte finds the longest prefix that is one.
use Rattle.std.proofs.Common.{◌≡◌, ℕ, ◌+◌, ◌<◌, ◌≤◌, Bool, true, false, ◌&&◌, List, [], ◌∷◌, length, map, drop, get_or, refl, ap, sym, ◌∙◌, arith, add-one, drop-cons, if◌then◌else◌}
use Rattle.std.specs.Prelude.{Option, Some, None, IfSome}
use Rattle.php_value.specs.declared.form.ByteKind.{ByteKind}
use Rattle.php_value.specs.declared.form.ByteKind.TheVariants.{Blank, Sign, Digit, Point, Mark, Other}
use Rattle.php_value.specs.declared.form.Place.{Place}
use Rattle.php_value.specs.declared.form.Place.TheVariants.{Start, Signed, Whole, PointFirst, Fraction, Marked, MarkedSigned, Exponent}
use Rattle.php_value.specs.Form.{kind_of, is_all_digits, is_digits, without_sign, without_point, before_mark, has_exponent_digits, is_unsigned_number, is_number, longer, longest_prefix}
use Rattle.php_value.specs.Reading.{place_after, ends_number}

-- what can follow at a place, so that all is a number
abbrev pub completes : Place → List ByteKind → Bool
completes Start ks = is_number ks
completes Signed ks = is_unsigned_number ks
completes Whole ks = is_all_digits (without_point (before_mark ks)) && has_exponent_digits ks
completes PointFirst ks = is_digits (before_mark ks) && has_exponent_digits ks
completes Fraction ks = is_all_digits (before_mark ks) && has_exponent_digits ks
completes Marked ks = is_digits (without_sign ks)
completes MarkedSigned ks = is_digits ks
completes Exponent ks = is_all_digits ks

abbrev pub completes_after : Option Place → List ByteKind → Bool
completes_after (Some q) ks = completes q ks
completes_after None ks = false

-- what follows a byte is what can follow at the place that it leads to
pub completes-step : (p : Place) (k : ByteKind) (ks : List ByteKind) → completes p (k ∷ ks) ≡ completes_after (place_after p k) ks
completes-step Start Blank ks = refl
completes-step Start Sign ks = refl
completes-step Start Digit ks = refl
completes-step Start Point ks = refl
completes-step Start Mark ks = refl
completes-step Start Other ks = refl
completes-step Signed k ks = elim k as (λ k. completes Signed (k ∷ ks) ≡ completes_after (place_after Signed k) ks) [ Blank ↦ refl | Sign ↦ refl | Digit ↦ refl | Point ↦ refl | Mark ↦ refl | Other ↦ refl ]
completes-step Whole k ks = elim k as (λ k. completes Whole (k ∷ ks) ≡ completes_after (place_after Whole k) ks) [ Blank ↦ refl | Sign ↦ refl | Digit ↦ refl | Point ↦ refl | Mark ↦ refl | Other ↦ refl ]
completes-step PointFirst k ks = elim k as (λ k. completes PointFirst (k ∷ ks) ≡ completes_after (place_after PointFirst k) ks) [ Blank ↦ refl | Sign ↦ refl | Digit ↦ refl | Point ↦ refl | Mark ↦ refl | Other ↦ refl ]
completes-step Fraction k ks = elim k as (λ k. completes Fraction (k ∷ ks) ≡ completes_after (place_after Fraction k) ks) [ Blank ↦ refl | Sign ↦ refl | Digit ↦ refl | Point ↦ refl | Mark ↦ refl | Other ↦ refl ]
completes-step Marked k ks = elim k as (λ k. completes Marked (k ∷ ks) ≡ completes_after (place_after Marked k) ks) [ Blank ↦ refl | Sign ↦ refl | Digit ↦ refl | Point ↦ refl | Mark ↦ refl | Other ↦ refl ]
completes-step MarkedSigned k ks = elim k as (λ k. completes MarkedSigned (k ∷ ks) ≡ completes_after (place_after MarkedSigned k) ks) [ Blank ↦ refl | Sign ↦ refl | Digit ↦ refl | Point ↦ refl | Mark ↦ refl | Other ↦ refl ]
completes-step Exponent k ks = elim k as (λ k. completes Exponent (k ∷ ks) ≡ completes_after (place_after Exponent k) ks) [ Blank ↦ refl | Sign ↦ refl | Digit ↦ refl | Point ↦ refl | Mark ↦ refl | Other ↦ refl ]

pub completes-end : (p : Place) → completes p [] ≡ ends_number p
completes-end Start = refl
completes-end Signed = refl
completes-end Whole = refl
completes-end PointFirst = refl
completes-end Fraction = refl
completes-end Marked = refl
completes-end MarkedSigned = refl
completes-end Exponent = refl

-- two tests that agree have the same longest prefix
longest_prefix-same : (f g : List ByteKind → Bool) (ks : List ByteKind) → ((js : List ByteKind) → f js ≡ g js) → longest_prefix f ks ≡ longest_prefix g ks
longest_prefix-same f g [] same = rw (same []) refl
longest_prefix-same f g (k ∷ ks) same =
    rw (longest_prefix-same (λ js. f (k ∷ js)) (λ js. g (k ∷ js)) ks (λ js. same (k ∷ js)), same []) refl

longest_prefix-fails : (ks : List ByteKind) → longest_prefix (λ js. false) ks ≡ None
longest_prefix-fails [] = refl
longest_prefix-fails (k ∷ ks) = rw (longest_prefix-fails ks) refl

longer-none : (o : Option ℕ) (b : Bool) → longer o b ≡ None → b ≡ false
longer-none (Some n) b e = cc
longer-none None true e = cc
longer-none None false e = refl

-- where no prefix passes, the empty one does not
longest_prefix-none : (test : List ByteKind → Bool) (ks : List ByteKind) → longest_prefix test ks ≡ None → test [] ≡ false
longest_prefix-none test [] e = at_end (test []) e where
  at_end : (b : Bool) → if◌then◌else◌ {A = Option ℕ} b (Some 0) None ≡ None → b ≡ false
  at_end true e = cc
  at_end false e = refl
longest_prefix-none test (k ∷ ks) e = longer-none (longest_prefix (λ js. test (k ∷ js)) ks) (test []) e

-- the length found, where a prefix of what is left was found or where it was found before
abbrev pub found_in_all : Option ℕ → ℕ → Option ℕ → Option ℕ
found_in_all found i (Some n) = Some (i + n)
found_in_all found i None = found

-- i bytes were read, which led to this place, and the longest number among them was found
pub record IsReading (t : List ℕ) (i : ℕ) (p : Place) (found : Option ℕ) : Type 0 where
  pub longest : longest_prefix is_number (map kind_of t) ≡ found_in_all found i (longest_prefix (completes p) (map kind_of (drop i t)))
  pub kept : ends_number p ≡ true → found ≡ Some i
  pub within : IfSome found (λ n. n ≤ i)

pub reading-start : (t : List ℕ) → IsReading t 0 Start None
reading-start t = record { longest = begun (longest_prefix is_number (map kind_of t)); kept = λ e. cc; within = tt } where
  begun : (o : Option ℕ) → o ≡ found_in_all None 0 o
  begun (Some n) = ap Some (omega arith)
  begun None = refl

-- one byte further
abbrev pub found_at : Option ℕ → ℕ → Place → Option ℕ
found_at found i q = if ends_number q then Some (i + 1) else found

further : (found : Option ℕ) (i : ℕ) (o : Option ℕ) (here : Bool) (q : Place)
    → (here ≡ true → found ≡ Some i) → (o ≡ None → ends_number q ≡ false)
    → found_in_all found i (longer o here) ≡ found_in_all (found_at found i q) (i + 1) o
further found i (Some n) here q kept ends = ap Some (omega arith)
further found i None true q kept ends = rw (ends refl, kept refl) (ap Some (omega arith))
further found i None false q kept ends = rw (ends refl) refl

stopped : (found : Option ℕ) (i : ℕ) (here : Bool) → (here ≡ true → found ≡ Some i) → found_in_all found i (longer None here) ≡ found
stopped found i true kept = rw (kept refl) (ap Some (omega arith))
stopped found i false kept = refl

-- what is left from a byte on
completes-from : (p : Place) (k : ByteKind) (ks : List ByteKind)
    → longest_prefix (completes p) (k ∷ ks) ≡ longer (longest_prefix (completes_after (place_after p k)) ks) (ends_number p)
completes-from p k ks =
    rw (longest_prefix-same (λ js. completes p (k ∷ js)) (completes_after (place_after p k)) ks (λ js. completes-step p k js), completes-end p) refl

left-cons : (t : List ℕ) (i : ℕ) → i < length t → map kind_of (drop i t) ≡ kind_of (get_or t i 0) ∷ map kind_of (drop (i + 1) t)
left-cons t i h = rw (add-one, drop-cons t i 0 h) refl

-- the longest number, by what stands behind the byte at i
behind : (t : List ℕ) (i : ℕ) (p : Place) (found : Option ℕ) (next : Option Place)
    → IsReading t i p found → i < length t → place_after p (kind_of (get_or t i 0)) ≡ next
    → longest_prefix is_number (map kind_of t)
    ≡ found_in_all found i (longer (longest_prefix (completes_after next) (map kind_of (drop (i + 1) t))) (ends_number p))
behind t i p found next r h e =
    r.longest
    ∙ ap (λ ks. found_in_all found i (longest_prefix (completes p) ks)) (left-cons t i h)
    ∙ ap (found_in_all found i) (completes-from p (kind_of (get_or t i 0)) (map kind_of (drop (i + 1) t)))
    ∙ ap (λ o. found_in_all found i (longer (longest_prefix (completes_after o) (map kind_of (drop (i + 1) t))) (ends_number p))) e

kept_at : (found : Option ℕ) (i : ℕ) (q : Place) → ends_number q ≡ true → found_at found i q ≡ Some (i + 1)
kept_at found i q e = rw e refl

within_at : (found : Option ℕ) (i : ℕ) (ends : Bool) → IfSome found (λ n. n ≤ i) → IfSome (if ends then Some (i + 1) else found) (λ n. n ≤ i + 1)
within_at found i true h = omega arith
within_at (Some n) i false h = omega arith
within_at None i false h = h

pub reading-step : (t : List ℕ) (i : ℕ) (p q : Place) (found : Option ℕ)
    → IsReading t i p found → i < length t → place_after p (kind_of (get_or t i 0)) ≡ Some q → IsReading t (i + 1) q (found_at found i q)
reading-step t i p q found r h e = record {
  longest =
      behind t i p found (Some q) r h e
      ∙ further found i (longest_prefix (completes q) (map kind_of (drop (i + 1) t))) (ends_number p) q r.kept
      (λ none. sym (completes-end q) ∙ longest_prefix-none (completes q) (map kind_of (drop (i + 1) t)) none);
  kept = kept_at found i q;
  within = within_at found i (ends_number q) r.within;
}

pub reading-stop : (t : List ℕ) (i : ℕ) (p : Place) (found : Option ℕ)
    → IsReading t i p found → i < length t → place_after p (kind_of (get_or t i 0)) ≡ None → longest_prefix is_number (map kind_of t) ≡ found
reading-stop t i p found r h e =
    behind t i p found None r h e
    ∙ ap (λ o. found_in_all found i (longer o (ends_number p))) (longest_prefix-fails (map kind_of (drop (i + 1) t)))
    ∙ stopped found i (ends_number p) r.kept
