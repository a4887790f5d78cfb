-- Bytes of a class in a row, and places before the first at which a test holds.
use Rattle.std.proofs.Common.{◌≡◌, ℕ, zero, suc, ◌+◌, ◌<◌, ◌≤◌, Bool, true, false, ◌&&◌, nat_lt, cond, [], ◌∷◌, length, drop, refl, sym, ap, ◌∙◌, arith, get_or-drop}
use Rattle.std.specs.Prelude.{slice_index, ◌==◌}
use Rattle.std.specs.List.{prefix_len}
use Rattle.std.proofs.lemmas.Grind.{common_steps}
use Rattle.php_lex_pieces.specs.Bytes.{Text, is_name_start, is_name_byte, run, name_len, len_before}
use Rattle.php_lex_pieces.specs.Comments.{raw_len}
use Rattle.php_lex_laws.specs.Ranges.{AllIn, NoneAt, FirstAt, IsName, IsRaw}

pub no_both : (v : Bool) → v ≡ true → v ≡ false → ⊥
no_both v holds fails = cc

pub chosen : {A : Type 0} (v : Bool) (x y : A) → v ≡ true → cond v x y ≡ x
chosen true x y h = refl
chosen false x y h = absurd (cc)

pub other : {A : Type 0} (v : Bool) (x y : A) → v ≡ false → cond v x y ≡ y
other true x y h = absurd (cc)
other false x y h = refl

pub decide : {G : Type 0} (v : Bool) → (v ≡ true → G) → (v ≡ false → G) → G
decide true yes_case no_case = yes_case refl
decide false yes_case no_case = no_case refl

pub same_byte : (a b : ℕ) → (a == b) ≡ true → a ≡ b
same_byte a b h = grind (arith, common_steps)

pub other_byte : (a b : ℕ) → (a == b) ≡ false → a ≡ b → ⊥
other_byte a b h is = grind (arith, common_steps)

pub is_byte : (a b : ℕ) → a ≡ b → (a == b) ≡ true
is_byte a b h = grind (arith, common_steps)

pub is_over : (n : ℕ) → nat_lt 0 n ≡ true → 0 < n
is_over n h = grind (arith, common_steps)

pub is_positive : (n : ℕ) → 0 < n → nat_lt 0 n ≡ true
is_positive n some = grind (arith, common_steps)

pub is_under : (n : ℕ) → nat_lt 0 n ≡ false → n ≡ 0
is_under n h = grind (arith, common_steps)

pub and_left : (p q : Bool) → (p && q) ≡ true → p ≡ true
and_left true q h = refl
and_left false q h = h

pub and_right : (p q : Bool) → (p && q) ≡ true → q ≡ true
and_right true q h = h
and_right false q h = absurd (cc)

pub both_hold : (p q : Bool) → p ≡ true → q ≡ true → (p && q) ≡ true
both_hold true q h k = k
both_hold false q h k = absurd (cc)

-- ---- runs

pub run_reaches : (test : ℕ → Bool) (text : Text) (k : ℕ) → test 0 ≡ false → AllIn test text k → k ≤ prefix_len test text
run_reaches test text zero no_end all = omega arith
run_reaches test [] (suc k) no_end all = absurd (no_both (test 0) (all 0 (omega arith)) no_end)
run_reaches test (b ∷ text) (suc k) no_end all =
    let later = run_reaches test text k no_end (λ i low. all (suc i) (omega arith)) in
    let here : prefix_len test (b ∷ text) ≡ 1 + prefix_len test text = chosen (test b) (1 + prefix_len test text) 0 (all 0 (omega arith)) in
    omega (arith, later, here)

pub run_all : (test : ℕ → Bool) (text : Text) → AllIn test text (prefix_len test text)
run_all test [] i low = absurd (omega arith)
run_all test (b ∷ text) i low = by_test (run_all test text) (test b) refl i low
  where
    by_place : AllIn test text (prefix_len test text) → test b ≡ true → (i : ℕ) → i < 1 + prefix_len test text → test (slice_index (b ∷ text) i) ≡ true
    by_place later holds zero low = holds
    by_place later holds (suc i) low = later i (omega arith)

    by_test : AllIn test text (prefix_len test text) → (v : Bool) → test b ≡ v → (i : ℕ) → i < cond v (1 + prefix_len test text) 0 → test (slice_index (b ∷ text) i) ≡ true
    by_test later true holds i low = by_place later holds i low
    by_test later false holds i low = absurd (omega arith)

pub run_stops : (test : ℕ → Bool) (text : Text) → test 0 ≡ false → test (slice_index text (prefix_len test text)) ≡ false
run_stops test [] no_end = no_end
run_stops test (b ∷ text) no_end = by_test (run_stops test text no_end) (test b) refl
  where
    next : (n : ℕ) → slice_index (b ∷ text) (1 + n) ≡ slice_index text n
    next n = let e : 1 + n ≡ suc n = omega arith in ap (slice_index (b ∷ text)) e

    by_test : test (slice_index text (prefix_len test text)) ≡ false → (v : Bool) → test b ≡ v → test (slice_index (b ∷ text) (cond v (1 + prefix_len test text) 0)) ≡ false
    by_test later true holds = ap test (next (prefix_len test text)) ∙ later
    by_test later false holds = holds

pub run_is : (test : ℕ → Bool) (text : Text) (k : ℕ) → test 0 ≡ false → AllIn test text k → test (slice_index text k) ≡ false → prefix_len test text ≡ k
run_is test text k no_end all stops =
    let low = run_reaches test text k no_end all in
    by_order (nat_lt k (prefix_len test text)) refl low
  where
    by_order : (v : Bool) → nat_lt k (prefix_len test text) ≡ v → k ≤ prefix_len test text → prefix_len test text ≡ k
    by_order true less low = absurd (no_both (test (slice_index text k)) (run_all test text k (grind (arith, common_steps))) stops)
    by_order false less low = grind (arith, common_steps)

-- fewer of a class
pub all_fewer : (test : ℕ → Bool) (text : Text) (k n : ℕ) → n ≤ k → AllIn test text k → AllIn test text n
all_fewer test text k n less all i low = all i (omega arith)

-- the byte at a place of what is behind another
pub behind : (at : ℕ) (text : Text) (i : ℕ) → slice_index (drop at text) i ≡ slice_index text (at + i)
behind at text i = get_or-drop at text i 0

pub behind_first : (at : ℕ) (text : Text) → slice_index (drop at text) 0 ≡ slice_index text at
behind_first at text = behind at text 0 ∙ ap (slice_index text) (let e : at + 0 ≡ at = omega arith in e)

-- ---- names

pub name_reaches : (text : Text) (at k : ℕ) → IsName (drop at text) k → k ≤ name_len text at
name_reaches text at k name =
    let starts : is_name_start (slice_index text at) ≡ true = ap is_name_start (sym (behind_first at text)) ∙ name.1.0 in
    let whole = chosen (is_name_start (slice_index text at)) (run is_name_byte text at) 0 starts in
    omega (arith, whole, run_reaches is_name_byte (drop at text) k refl name.1.1)

pub name_is : (text : Text) (at k : ℕ) → IsName (drop at text) k → is_name_byte (slice_index text (at + k)) ≡ false → name_len text at ≡ k
name_is text at k name stops =
    let starts : is_name_start (slice_index text at) ≡ true = ap is_name_start (sym (behind_first at text)) ∙ name.1.0 in
    chosen (is_name_start (slice_index text at)) (run is_name_byte text at) 0 starts
    ∙ run_is is_name_byte (drop at text) k refl name.1.1 (ap is_name_byte (behind at text k) ∙ stops)

pub name_there : (text : Text) (at : ℕ) → 0 < name_len text at → IsName (drop at text) (name_len text at)
name_there text at some = by_start (is_name_start (slice_index text at)) refl some
  where
    by_start : (v : Bool) → is_name_start (slice_index text at) ≡ v → 0 < cond v (run is_name_byte text at) 0 → IsName (drop at text) (cond v (run is_name_byte text at) 0)
    by_start true starts some = (some, (ap is_name_start (behind_first at text) ∙ starts, run_all is_name_byte (drop at text)))
    by_start false starts some = absurd (omega arith)

-- behind a name no name goes on
pub name_stops : (text : Text) (at : ℕ) → 0 < name_len text at → is_name_byte (slice_index text (at + name_len text at)) ≡ false
name_stops text at some = by_start (is_name_start (slice_index text at)) some
  where
    by_start : (v : Bool) → 0 < cond v (run is_name_byte text at) 0 → is_name_byte (slice_index text (at + cond v (run is_name_byte text at) 0)) ≡ false
    by_start true some = ap is_name_byte (sym (behind at text (run is_name_byte text at))) ∙ run_stops is_name_byte (drop at text) refl
    by_start false some = absurd (omega arith)

-- ---- the first place at which a test holds

pub none_before : (test : Text → Bool) (text : Text) → NoneAt test text (len_before test text)
none_before test [] i low = absurd (omega arith)
none_before test (b ∷ text) i low = by_test (none_before test text) (test (b ∷ text)) refl i low
  where
    by_place : NoneAt test text (len_before test text) → test (b ∷ text) ≡ false → (i : ℕ) → i < suc (len_before test text) → test (drop i (b ∷ text)) ≡ false
    by_place later fails zero low = fails
    by_place later fails (suc i) low = later i (omega arith)

    by_test : NoneAt test text (len_before test text) → (v : Bool) → test (b ∷ text) ≡ v → (i : ℕ) → i < cond v 0 (suc (len_before test text)) → test (drop i (b ∷ text)) ≡ false
    by_test later true fails i low = absurd (omega arith)
    by_test later false fails i low = by_place later fails i low

pub before_within : (test : Text → Bool) (text : Text) → len_before test text ≤ length text
before_within test [] = omega arith
before_within test (b ∷ text) = by_test (before_within test text) (test (b ∷ text))
  where
    by_test : len_before test text ≤ length text → (v : Bool) → cond v 0 (suc (len_before test text)) ≤ suc (length text)
    by_test later true = omega arith
    by_test later false = omega (arith, later)

pub before_reaches : (test : Text → Bool) (text : Text) (k : ℕ) → k ≤ length text → NoneAt test text k → k ≤ len_before test text
before_reaches test text zero within none = omega arith
before_reaches test [] (suc k) within none = absurd (omega arith)
before_reaches test (b ∷ text) (suc k) within none =
    let later = before_reaches test text k (omega arith) (λ i low. none (suc i) (omega arith)) in
    let here : len_before test (b ∷ text) ≡ suc (len_before test text) = other (test (b ∷ text)) 0 (suc (len_before test text)) (none 0 (omega arith)) in
    omega (arith, later, here)

pub before_is : (test : Text → Bool) (text : Text) (k : ℕ) → test [] ≡ false → FirstAt test text k → len_before test text ≡ k
before_is test [] zero no_end first = refl
before_is test [] (suc k) no_end first = absurd (no_both (test []) first.1 no_end)
before_is test (b ∷ text) zero no_end first = chosen (test (b ∷ text)) 0 (suc (len_before test text)) first.1
before_is test (b ∷ text) (suc k) no_end first =
    let here : len_before test (b ∷ text) ≡ suc (len_before test text) = other (test (b ∷ text)) 0 (suc (len_before test text)) (first.0 0 (omega arith)) in
    let later = before_is test text k no_end ((λ i low. first.0 (suc i) (omega arith)), first.1) in
    here ∙ ap suc later

pub first_within : (test : Text → Bool) (text : Text) (k : ℕ) → test [] ≡ false → test (drop k text) ≡ true → k < length text
first_within test [] zero no_end holds = absurd (no_both (test []) holds no_end)
first_within test [] (suc k) no_end holds = absurd (no_both (test []) holds no_end)
first_within test (b ∷ text) zero no_end holds = omega arith
first_within test (b ∷ text) (suc k) no_end holds = omega (arith, first_within test text k no_end holds)

pub before_holds : (test : Text → Bool) (text : Text) → len_before test text < length text → test (drop (len_before test text) text) ≡ true
before_holds test [] some = absurd (omega arith)
before_holds test (b ∷ text) some = by_test (before_holds test text) (test (b ∷ text)) refl some
  where
    by_test : (len_before test text < length text → test (drop (len_before test text) text) ≡ true) → (v : Bool) → test (b ∷ text) ≡ v → cond v 0 (suc (len_before test text)) < suc (length text) → test (drop (cond v 0 (suc (len_before test text))) (b ∷ text)) ≡ true
    by_test later true holds some = holds
    by_test later false holds some = later (omega arith)

pub before_none : (test : Text → Bool) (text : Text) → test [] ≡ false → len_before test text ≡ length text → (k : ℕ) → test (drop k text) ≡ false
before_none test text no_end all k =
    by_test (test (drop k text)) refl
  where
    by_test : (v : Bool) → test (drop k text) ≡ v → v ≡ false
    by_test false is = refl
    by_test true holds =
        let within = first_within test text k no_end holds in
        absurd (no_both (test (drop k text)) holds (none_before test text k (omega (arith, all, within))))

-- ---- text in single quotes

pub raw_is : (v : Bool) (text : Text) (k : ℕ) → IsRaw v text k → slice_index text k ≡ 39 → (raw_len v text ≡ k) × (k < length text)
raw_is v [] zero raw closes = absurd (omega (arith, closes))
raw_is v [] (suc k) raw closes = absurd raw
raw_is true (b ∷ text) zero raw closes = absurd (cc)
raw_is false (b ∷ text) zero raw closes = (chosen (b == 39) 0 (suc (raw_len (b == 92) text)) (is_byte b 39 closes), omega arith)
raw_is true (b ∷ text) (suc k) raw closes = let later = raw_is false text k raw closes in (ap suc later.0, omega (arith, later.1))
raw_is false (b ∷ text) (suc k) raw closes =
    let later = raw_is (b == 92) text k raw.1 closes in
    (other (b == 39) 0 (suc (raw_len (b == 92) text)) raw.0 ∙ ap suc later.0, omega (arith, later.1))

pub raw_there : (v : Bool) (text : Text) → raw_len v text < length text → IsRaw v text (raw_len v text) × (slice_index text (raw_len v text) ≡ 39)
raw_there v [] some = absurd (omega arith)
raw_there true (b ∷ text) some = raw_there false text (omega arith)
raw_there false (b ∷ text) some = by_test (raw_there (b == 92) text) (b == 39) refl some
  where
    by_test : (raw_len (b == 92) text < length text → IsRaw (b == 92) text (raw_len (b == 92) text) × (slice_index text (raw_len (b == 92) text) ≡ 39)) → (v : Bool) → (b == 39) ≡ v → cond v 0 (suc (raw_len (b == 92) text)) < suc (length text)
        → IsRaw false (b ∷ text) (cond v 0 (suc (raw_len (b == 92) text))) × (slice_index (b ∷ text) (cond v 0 (suc (raw_len (b == 92) text))) ≡ 39)
    by_test later true quote some = (refl, same_byte b 39 quote)
    by_test later false quote some = let rest = later (omega arith) in ((quote, rest.0), rest.1)

pub raw_within : (v : Bool) (text : Text) → raw_len v text ≤ length text
raw_within v [] = omega arith
raw_within true (b ∷ text) = omega (arith, raw_within false text)
raw_within false (b ∷ text) = by_test (raw_within (b == 92) text) (b == 39)
  where
    by_test : raw_len (b == 92) text ≤ length text → (v : Bool) → cond v 0 (suc (raw_len (b == 92) text)) ≤ suc (length text)
    by_test later true = omega arith
    by_test later false = omega (arith, later)
