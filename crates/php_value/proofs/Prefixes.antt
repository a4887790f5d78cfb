-- The longest prefix that passes a test passes it, and no longer one does.
use Rattle.std.proofs.Common.{◌≡◌, ℕ, suc, zero, ◌<◌, ◌≤◌, ◌⊎◌, Bool, true, false, List, [], ◌∷◌, length, take, refl, inl, inr, arith, if◌then◌else◌}
use Rattle.std.specs.Prelude.{Option, Some, None}
use Rattle.php_value.specs.declared.form.ByteKind.{ByteKind}
use Rattle.php_value.specs.Form.{longer, longest_prefix}

-- the longest prefix goes on behind the first byte, or it is the empty one
cases_longer : (o : Option ℕ) (b : Bool) (n : ℕ) → longer o b ≡ Some n
    → ((m : ℕ) × ((o ≡ Some m) × (n ≡ suc m))) ⊎ ((o ≡ None) × ((b ≡ true) × (n ≡ 0)))
cases_longer (Some m) b n e = inl (m, (refl, cc))
cases_longer None true n e = inr (refl, (refl, cc))
cases_longer None false n e = absurd cc

cases_none : (o : Option ℕ) (b : Bool) → longer o b ≡ None → (o ≡ None) × (b ≡ false)
cases_none (Some m) b e = absurd cc
cases_none None true e = absurd cc
cases_none None false e = (refl, refl)

at_end : (b : Bool) (n : ℕ) → if◌then◌else◌ {A = Option ℕ} b (Some 0) None ≡ Some n → (b ≡ true) × (n ≡ 0)
at_end true n e = (refl, cc)
at_end false n e = absurd cc

none_at_end : (b : Bool) → if◌then◌else◌ {A = Option ℕ} b (Some 0) None ≡ None → b ≡ false
none_at_end true e = absurd cc
none_at_end false e = refl

pub longest_prefix-passes : (test : List ByteKind → Bool) (ks : List ByteKind) (n : ℕ) → longest_prefix test ks ≡ Some n → test (take n ks) ≡ true
longest_prefix-passes test [] n e = let end = at_end (test []) n e in rw end.1 end.0
longest_prefix-passes test (k ∷ ks) n e =
    elim (cases_longer (longest_prefix (λ js. test (k ∷ js)) ks) (test []) n e) [
      | inl further ↦ rw further.1.1 (longest_prefix-passes (λ js. test (k ∷ js)) ks further.0 further.1.0)
      | inr here ↦ rw here.1.1 here.1.0
    ]

pub longest_prefix-fails_all : (test : List ByteKind → Bool) (ks : List ByteKind) (m : ℕ) → longest_prefix test ks ≡ None → m ≤ length ks → test (take m ks) ≡ false
longest_prefix-fails_all test [] zero e h = none_at_end (test []) e
longest_prefix-fails_all test [] (suc m) e h = absurd (omega arith)
longest_prefix-fails_all test (k ∷ ks) zero e h = (cases_none (longest_prefix (λ js. test (k ∷ js)) ks) (test []) e).1
longest_prefix-fails_all test (k ∷ ks) (suc m) e h =
    longest_prefix-fails_all (λ js. test (k ∷ js)) ks m (cases_none (longest_prefix (λ js. test (k ∷ js)) ks) (test []) e).0 (omega arith)

pub longest_prefix-last : (test : List ByteKind → Bool) (ks : List ByteKind) (n m : ℕ) → longest_prefix test ks ≡ Some n → n < m → m ≤ length ks → test (take m ks) ≡ false
longest_prefix-last test [] n m e past h = absurd (omega arith)
longest_prefix-last test (k ∷ ks) n zero e past h = absurd (omega arith)
longest_prefix-last test (k ∷ ks) n (suc m) e past h =
    elim (cases_longer (longest_prefix (λ js. test (k ∷ js)) ks) (test []) n e) [
      | inl further ↦
          let below : further.0 < m = omega (arith, further.1.1) in
          longest_prefix-last (λ js. test (k ∷ js)) ks further.0 m further.1.0 below (omega arith)
      | inr here ↦ longest_prefix-fails_all (λ js. test (k ∷ js)) ks m here.0 (omega arith)
    ]
