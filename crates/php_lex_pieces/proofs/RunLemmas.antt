-- Counting the bytes before a place.
use Rattle.std.proofs.Common.{◌≡◌, ℕ, zero, suc, ◌+◌, ◌-◌, ◌<◌, ◌≤◌, Bool, true, false, cond, [], ◌∷◌, length, take, drop, refl, sym, ap, subst, arith, zero-add}
use Rattle.std.specs.Prelude.{slice_index}
use Rattle.std.proofs.lemmas.List.{drop-drop, length-drop, take_rest}
use Rattle.memchr.specs.Find.{Nowhere, Passes}
use Rattle.php_lex_pieces.specs.Bytes.{Text, len_before}
use Rattle.php_lex_pieces.specs.Search.{Skips, Wants}

is_false : (v : Bool) → (v ≡ true → ⊥) → v ≡ false
is_false true not_true = absurd (not_true refl)
is_false false not_true = refl

-- where a test fails, one more byte stands before the place
pub len_before_goes : (test : Text → Bool) (text : Text) (i : ℕ) → i < length text → test (drop i text) ≡ false → len_before test (drop i text) ≡ suc (len_before test (drop (i + 1) text))
len_before_goes test [] i h fails = absurd (omega arith)
len_before_goes test (b ∷ text) zero h fails = ap (λ v. cond v 0 (suc (len_before test text))) fails
len_before_goes test (b ∷ text) (suc i) h fails =
    let next : suc i + 1 ≡ suc (i + 1) = omega arith in
    rw next (len_before_goes test text i (omega arith) fails)

-- where it holds, none does
pub len_before_stops : (test : Text → Bool) (text : Text) → test text ≡ true → len_before test text ≡ 0
len_before_stops test [] holds = refl
len_before_stops test (b ∷ text) holds = ap (λ v. cond v 0 (suc (len_before test text))) holds

-- a test that wants a byte of a class holds at no place before the first such byte
pub len_before_skips : (test : Text → Bool) (class : ℕ → Bool) → ((t : Text) → test t ≡ true → class (slice_index t 0) ≡ true) → (text : Text) (k : ℕ) → k ≤ length text → Nowhere (Passes class text) 0 k → len_before test text ≡ k + len_before test (drop k text)
len_before_skips test class wants [] zero within nowhere = refl
len_before_skips test class wants [] (suc k) within nowhere = absurd (omega arith)
len_before_skips test class wants (b ∷ text) zero within nowhere = sym (zero-add _)
len_before_skips test class wants (b ∷ text) (suc k) within nowhere =
    let fails = is_false (test (b ∷ text)) (λ holds. nowhere 0 (omega arith) (omega arith) (wants (b ∷ text) holds)) in
    let rest = len_before_skips test class wants text k (omega arith) (λ i low high. nowhere (suc i) (omega arith) (omega arith)) in
    let here : len_before test (b ∷ text) ≡ suc (len_before test text) = ap (λ v. cond v 0 (suc (len_before test text))) fails in
    omega (arith, rest, here)

-- the part from a place on, as a search is given it
abbrev pub part : Text → ℕ → Text
part text at = take (length text - at) (drop at text)

-- from one place to another
pub skips_to : (class : ℕ → Bool) (text : Text) (at k : ℕ) → at ≤ length text → k ≤ length (part text at) → Nowhere (Passes class (part text at)) 0 k → Skips class text at (at + k)
skips_to class text at k start within nowhere test wants =
    let whole = take_rest text at in
    let none : Nowhere (Passes class (drop at text)) 0 k = subst (λ t. Nowhere (Passes class t) 0 k) whole nowhere in
    let e = len_before_skips test class wants (drop at text) k (omega (arith, ap length whole)) none in
    let distance : at + k - at ≡ k = omega arith in
    rw (distance, ← drop-drop k at text) e

-- to the end
pub skips_all : (class : ℕ → Bool) (text : Text) (at : ℕ) → at ≤ length text → Nowhere (Passes class (part text at)) 0 (length (part text at)) → Skips class text at (length text)
skips_all class text at start nowhere =
    let len : at + length (part text at) ≡ length text = omega (arith, ap length (take_rest text at), length-drop at text) in
    subst (Skips class text at) len (skips_to class text at (length (part text at)) start (omega arith) nowhere)

-- a search that begins at a place
pub search_begins : (test : Text → Bool) (class : ℕ → Bool) (text : Text) (at to : ℕ) → Wants test class → at ≤ to → Skips class text at to → to + len_before test (drop to text) ≡ at + len_before test (drop at text)
search_begins test class text at to wants rises skips = omega (arith, skips test wants)

-- a search that goes on behind a place at which the test fails
pub search_goes : (test : Text → Bool) (class : ℕ → Bool) (text : Text) (at to : ℕ) → Wants test class → at < length text → test (part text at) ≡ false → at + 1 ≤ to → Skips class text (at + 1) to → to + len_before test (drop to text) ≡ at + len_before test (drop at text)
search_goes test class text at to wants within fails rises skips =
    let here : test (drop at text) ≡ false = subst (λ t. test t ≡ false) (take_rest text at) fails in
    omega (arith, skips test wants, len_before_goes test text at within here)

-- a search that ends at a place
pub search_ends : (test : Text → Bool) (text : Text) (at : ℕ) → test (part text at) ≡ true → len_before test (drop at text) ≡ 0
search_ends test text at holds = len_before_stops test (drop at text) (subst (λ t. test t ≡ true) (take_rest text at) holds)

-- where the test fails at once, some byte stands before the place
pub len_before_some : (test : Text → Bool) (text : Text) → 0 < length text → test text ≡ false → 0 < len_before test text
len_before_some test [] some fails = absurd (omega arith)
len_before_some test (b ∷ text) some fails =
    let here : len_before test (b ∷ text) ≡ suc (len_before test text) = ap (λ v. cond v 0 (suc (len_before test text))) fails in
    omega (arith, here)
