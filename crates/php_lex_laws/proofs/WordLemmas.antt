-- Words, `yield from` and casts.
use Rattle.std.proofs.Common.{◌≡◌, ℕ, zero, suc, ◌+◌, ◌-◌, ◌<◌, ◌≤◌, Bool, true, false, ◌&&◌, nat_lt, cond, length, drop, take, Option, Some, None, refl, sym, ap, ◌∙◌, subst, arith, length-take-le}
use Rattle.std.specs.Prelude.{slice_index, ◌==◌, codes}
use Rattle.std.specs.Str.{str_eq_ignore_ascii_case, str_to_ascii_lowercase}
use Rattle.std.proofs.lemmas.Grind.{common_steps}
use Rattle.std.proofs.lemmas.List.{length-map}
use Rattle.std.proofs.lemmas.List.Sums.{prefix_len-le-length}
use Rattle.std.proofs.lemmas.Slice.Eq.{bytes_eq-Decides}
use Rattle.php_token.specs.declared.kind.Cast.{Cast}
use Rattle.php_lex_pieces.specs.Bytes.{Text, is_blank, is_gap, is_name_start, is_name_byte, run, name_len}
use Rattle.php_lex_pieces.specs.Words.{word_at, is_word_at, yield_from_len, cast, cast_words, closed_cast, look_up}
use Rattle.php_lex_laws.specs.Ranges.{AllIn, IsName}
use Rattle.php_lex_laws.specs.ScriptForms as form
use Rattle.php_lex_laws.proofs.HeredocLemmas.{and_last}
use Rattle.php_lex_laws.proofs.RangeLemmas.{chosen, same_byte, is_byte, both_hold, run_reaches, run_is, run_all, behind, behind_first, name_is, name_there, name_stops}

if_positive : (v : Bool) (n : ℕ) → 0 < cond v n 0 → v ≡ true
if_positive true n h = refl
if_positive false n h = absurd (omega arith)

run_within : (text : Text) (at : ℕ) → name_len text at ≤ length (drop at text)
run_within text at = by_start (is_name_start (slice_index text at))
  where
    by_start : (v : Bool) → cond v (run is_name_byte text at) 0 ≤ length (drop at text)
    by_start true = prefix_len-le-length is_name_byte (drop at text)
    by_start false = omega arith

-- a name lies in its text
pub name_within : (text : Text) (k : ℕ) → IsName text k → k ≤ length text
name_within text k name = omega (arith, run_reaches is_name_byte text k refl name.1.1, prefix_len-le-length is_name_byte text)

-- a word that equals another has its length
word_len : (text : Text) (at : ℕ) (expected : Text) → is_word_at text at expected ≡ true → name_len text at ≡ length expected
unfolding is_word_at
word_len text at expected same =
    let lower = (bytes_eq-Decides (str_to_ascii_lowercase expected) (str_to_ascii_lowercase (word_at text at))).0 same in
    let lengths = ap length lower in
    let whole = length-take-le (name_len text at) (drop at text) (run_within text at) in
    omega (arith, lengths, whole, length-map {A = ℕ} {B = ℕ})

word_is_at : (text : Text) (at k : ℕ) (expected : Text) → name_len text at ≡ k → str_eq_ignore_ascii_case expected (take k (drop at text)) ≡ true → is_word_at text at expected ≡ true
unfolding is_word_at
word_is_at text at k expected len same = ap (λ j. str_eq_ignore_ascii_case expected (take j (drop at text))) len ∙ same

word_read : (text : Text) (at k : ℕ) (expected : Text) → name_len text at ≡ k → is_word_at text at expected ≡ true → str_eq_ignore_ascii_case expected (take k (drop at text)) ≡ true
unfolding is_word_at
word_read text at k expected len same = ap (λ j. str_eq_ignore_ascii_case expected (take j (drop at text))) (sym len) ∙ same

blank_no_name : (b : ℕ) → is_blank b ≡ true → is_name_byte b ≡ false
blank_no_name b blank = grind (arith, common_steps)

name_no_blank : (b : ℕ) → is_name_start b ≡ true → is_blank b ≡ false
name_no_blank b name = grind (arith, common_steps)

past_five : (b : ℕ) → 0 < b → nat_lt 5 (5 + b) ≡ true
past_five b some = grind (arith, common_steps)

over_five : (b : ℕ) → nat_lt 5 (5 + b) ≡ true → 0 < b
over_five b h = grind (arith, common_steps)

-- where `yield`, blanks and `from` stand, the definition counts them
pub yield_is : (text : Text) (n : ℕ) → form.HasScriptForm form.yield_from text n → yield_from_len text ≡ n
unfolding yield_from_len
yield_is text n has =
    let b = has.1.0 in
    let blanks = has.1.1.0 in
    let from = has.1.1.1.0 in
    let stops = has.1.1.1.1.0 in
    let blank_there : is_blank (slice_index text 5) ≡ true = ap is_blank (sym (behind_first 5 text)) ∙ blanks.1 0 blanks.0 in
    let first : name_len text 0 ≡ 5 = name_is text 0 5 has.0.0 (blank_no_name (slice_index text 5) blank_there) in
    let name_there : is_blank (slice_index (drop 5 text) b) ≡ false =
    ap is_blank (behind 5 text b ∙ sym (behind_first (5 + b) text)) ∙ name_no_blank (slice_index (drop (5 + b) text) 0) from.0.1.0 in
    let count : run is_blank text 5 ≡ b = run_is is_blank (drop 5 text) b refl blanks.1 name_there in
    let place : 5 + b + 4 ≡ 9 + b = omega arith in
    let second : name_len text (5 + b) ≡ 4 = name_is text (5 + b) 4 from.0 (ap (λ i. is_name_byte (slice_index text i)) place ∙ stops) in
    let at : 5 + run is_blank text 5 ≡ 5 + b = ap (λ k. 5 + k) count in
    let one = word_is_at text 0 5 (codes "yield") first has.0.1 in
    let more : nat_lt 5 (5 + run is_blank text 5) ≡ true = ap (nat_lt 5) at ∙ past_five b blanks.0 in
    let two : is_word_at text (5 + run is_blank text 5) (codes "from") ≡ true = ap (λ i. is_word_at text i (codes "from")) at ∙ word_is_at text (5 + b) 4 (codes "from") second from.1 in
    let last : name_len text (5 + run is_blank text 5) ≡ 4 = ap (name_len text) at ∙ second in
    let total : 5 + run is_blank text 5 + name_len text (5 + run is_blank text 5) ≡ n = omega (arith, at, last, has.1.1.1.1.1) in
    chosen (is_word_at text 0 (codes "yield") && nat_lt 5 (5 + run is_blank text 5) && is_word_at text (5 + run is_blank text 5) (codes "from")) _ 0
    (both_hold (is_word_at text 0 (codes "yield") && nat_lt 5 (5 + run is_blank text 5)) (is_word_at text (5 + run is_blank text 5) (codes "from"))
    (both_hold (is_word_at text 0 (codes "yield")) (nat_lt 5 (5 + run is_blank text 5)) one more) two)
    ∙ total

-- what the definition counts is `yield`, blanks and `from`
pub yield_has : (text : Text) → 0 < yield_from_len text → form.HasScriptForm form.yield_from text (yield_from_len text)
unfolding yield_from_len
yield_has text some =
    let b = run is_blank text 5 in
    let test = is_word_at text 0 (codes "yield") && nat_lt 5 (5 + b) && is_word_at text (5 + b) (codes "from") in
    let holds = if_positive test (5 + b + name_len text (5 + b)) some in
    let parts = and_last (is_word_at text 0 (codes "yield")) (nat_lt 5 (5 + b)) (is_word_at text (5 + b) (codes "from")) holds in
    let first = word_len text 0 (codes "yield") parts.0 in
    let second = word_len text (5 + b) (codes "from") parts.1.1 in
    let total : cond test (5 + b + name_len text (5 + b)) 0 ≡ 9 + b = chosen test (5 + b + name_len text (5 + b)) 0 holds ∙ (let e : 5 + b + name_len text (5 + b) ≡ 9 + b = omega (arith, second) in e) in
    let place : 5 + b + name_len text (5 + b) ≡ 9 + b = omega (arith, second) in (
      (subst (IsName text) first (name_there text 0 (omega (arith, first))), word_read text 0 5 (codes "yield") first parts.0),
      (
        b,
        (
          (over_five b parts.1.0, run_all is_blank (drop 5 text)),
          (
            (subst (IsName (drop (5 + b) text)) second (name_there text (5 + b) (omega (arith, second))), word_read text (5 + b) 4 (codes "from") second parts.1.1),
            (ap (λ i. is_name_byte (slice_index text i)) (sym place) ∙ name_stops text (5 + b) (omega (arith, second)), total),
          ),
        ),
      ),
    )

-- `yield from` is longer than its first word
pub yield_longer : (text : Text) → 0 < yield_from_len text → name_len text 0 < yield_from_len text
yield_longer text some =
    let has = yield_has text some in
    let blanks = has.1.1.0 in
    let blank_there : is_blank (slice_index text 5) ≡ true = ap is_blank (sym (behind_first 5 text)) ∙ blanks.1 0 blanks.0 in
    let first : name_len text 0 ≡ 5 = name_is text 0 5 has.0.0 (blank_no_name (slice_index text 5) blank_there) in
    omega (arith, first, has.1.1.1.1.1)

-- ---- casts

name_no_gap : (b : ℕ) → is_name_start b ≡ true → is_gap b ≡ false
name_no_gap b name = grind (arith, common_steps)

paren_no_gap : (b : ℕ) → b ≡ 41 → is_gap b ≡ false
paren_no_gap b is = grind (arith, common_steps)

paren_no_name : (b : ℕ) → b ≡ 41 → is_name_byte b ≡ false
paren_no_name b is = grind (arith, common_steps)

gap_no_name : (b : ℕ) → is_gap b ≡ true → is_name_byte b ≡ false
gap_no_name b gap = grind (arith, common_steps)

-- behind the word of a cast stands a space, a tab or the parenthesis
cast_stops : (text : Text) (end b : ℕ) → AllIn is_gap (drop end text) b → slice_index text (end + b) ≡ 41 → is_name_byte (slice_index text end) ≡ false
cast_stops text end zero gaps close = let e : end + 0 ≡ end = omega arith in paren_no_name (slice_index text end) (ap (slice_index text) (sym e) ∙ close)
cast_stops text end (suc b) gaps close = gap_no_name (slice_index text end) (ap is_gap (sym (behind_first end text)) ∙ gaps 0 (omega arith))

pub cast_is : (text : Text) (kind : Cast) (n : ℕ) → form.HasScriptForm (form.cast_sign kind) text n → cast text ≡ Some (kind, n)
unfolding cast
cast_is text kind n has =
    let a = has.1.0 in
    let k = has.1.1.0 in
    let b = has.1.1.1.0 in
    let gaps = has.1.1.1.1.0.0 in
    let name = has.1.1.1.1.0.1.0.0 in
    let known = has.1.1.1.1.0.1.0.1 in
    let later = has.1.1.1.1.0.1.1.0 in
    let close = has.1.1.1.1.0.1.1.1 in
    let name_first : is_gap (slice_index (drop 1 text) a) ≡ false = ap is_gap (behind 1 text a ∙ sym (behind_first (1 + a) text)) ∙ name_no_gap (slice_index (drop (1 + a) text) 0) name.1.0 in
    let before : run is_gap text 1 ≡ a = run_is is_gap (drop 1 text) a refl gaps name_first in
    let len : name_len text (1 + a) ≡ k = name_is text (1 + a) k name (cast_stops text (1 + a + k) b later close) in
    let after : run is_gap text (1 + a + k) ≡ b = run_is is_gap (drop (1 + a + k) text) b refl later (ap is_gap (behind (1 + a + k) text b) ∙ paren_no_gap (slice_index text (1 + a + k + b)) close) in
    let width : 1 + a + k - (1 + a) ≡ k = omega arith in
    let total : 1 + a + k + b + 1 ≡ n = omega (arith, has.1.1.1.1.1) in
    rw (before, len, after, width, known) (chosen (slice_index text (1 + a + k + b) == 41) (Some (kind, 1 + a + k + b + 1)) None (is_byte (slice_index text (1 + a + k + b)) 41 close) ∙ ap (λ m. Some (kind, m)) total)

none_known : (text : Text) (kind : Cast) → look_up cast_words (take 0 text) ≡ Some kind → ⊥
unfolding cast_words
none_known text kind is = cc

closed_there : (text : Text) (at : ℕ) (found : Option Cast) (c : Cast × ℕ) → closed_cast text at found ≡ Some c → (found ≡ Some c.0) × ((slice_index text at ≡ 41) × (c.1 ≡ at + 1))
closed_there text at None c is = absurd (cc)
closed_there text at (Some kind) c is = by_test (slice_index text at == 41) refl is
  where
    same : (x y : Cast × ℕ) → ◌≡◌ {A = Option (Cast × ℕ)} (Some x) (Some y) → x ≡ y
    same x y h = cc

    by_test : (v : Bool) → (slice_index text at == 41) ≡ v → cond v (Some (kind, at + 1)) None ≡ Some c → (Some kind ≡ Some c.0) × ((slice_index text at ≡ 41) × (c.1 ≡ at + 1))
    by_test true close is = let e = same (kind, at + 1) c is in (ap (λ x. Some x.0) e, (same_byte (slice_index text at) 41 close, sym (ap (λ x. x.1) e)))
    by_test false close is = absurd (cc)

pub cast_has : (text : Text) (c : Cast × ℕ) → slice_index text 0 ≡ 40 → cast text ≡ Some c → form.HasScriptForm (form.cast_sign c.0) text c.1
unfolding cast
cast_has text c begins is =
    let a = run is_gap text 1 in
    let k = name_len text (1 + a) in
    let b = run is_gap text (1 + a + k) in
    let width : 1 + a + k - (1 + a) ≡ k = omega arith in
    let parts = closed_there text (1 + a + k + b) (look_up cast_words (take (1 + a + k - (1 + a)) (drop (1 + a) text))) c is in
    let known : look_up cast_words (take k (drop (1 + a) text)) ≡ Some c.0 = ap (λ w. look_up cast_words (take w (drop (1 + a) text))) (sym width) ∙ parts.0 in
    let some : 0 < k = by_len k known in
    (begins, (a, (k, (b, ((run_all is_gap (drop 1 text), ((name_there text (1 + a) some, known), (run_all is_gap (drop (1 + a + k) text), parts.1.0))), omega (arith, parts.1.1))))))
  where
    by_len : (k : ℕ) → look_up cast_words (take k (drop (1 + run is_gap text 1) text)) ≡ Some c.0 → 0 < k
    by_len zero known = absurd (none_known (drop (1 + run is_gap text 1) text) c.0 known)
    by_len (suc k) known = omega arith
