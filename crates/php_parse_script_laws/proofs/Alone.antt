-- Answers of a parser exclude one another, whatever it reads: here of any trees, of the symbols that spell them, and of how
-- deep each symbol of a tree is nested.
use Rattle.std.proofs.Common.{◌≡◌, ◌≤◌, ◌<◌, ℕ, zero, suc, ◌+◌, ◌-◌, Bool, true, false, Option, Some, None, List, [], ◌∷◌, ◌++◌, map, take, drop, refl, sym, ◌∙◌, ap, subst, arith, append_assoc, ltb-true, ltb-false}
use Rattle.std.specs.Prelude.{nat_lt}
use Rattle.std.proofs.Math.Seq.{take-add}
use Rattle.std.proofs.lemmas.List.{map-append}
use Rattle.php_grammar.specs.TooDeep.{nesting_limit, one_further, first_too_deep}
use Rattle.php_grammar.specs.expression.Machine.{pick}

-- ---- numbers

pub same_place : (k j : ℕ) → (k < j → ⊥) → (j < k → ⊥) → k ≡ j
same_place zero zero p q = refl
same_place zero (suc j) p q = absurd (p (omega arith))
same_place (suc k) zero p q = absurd (q (omega arith))
same_place (suc k) (suc j) p q = ap suc (same_place k j (λ h. p (omega (arith, h))) (λ h. q (omega (arith, h))))

-- of two numbers that are not in one order
less_by : {k j : ℕ} (b : Bool) → nat_lt j k ≡ b → (k ≤ j → ⊥) → j < k
less_by {k} {j} true is not_so = ltb-true j k is
less_by {k} {j} false is not_so = absurd (not_so (ltb-false j k is))

some_same : (k j : ℕ) → Some k ≡ Some j → k ≡ j
some_same k j h = cc

-- ---- the first number that is too deep

one_by : (b : Bool) (o p : Option ℕ) (k : ℕ) → pick b (Some 0) (one_further o) ≡ Some (suc k) → (o ≡ Some k → p ≡ None → ⊥) → pick b (Some 0) (one_further p) ≡ None → ⊥
one_by true o p k h next none = cc
one_by false None p k h next none = cc
one_by false (Some j) None k h next none = next (cc) refl
one_by false (Some j) (Some i) k h next none = cc

first_by : (b : Bool) (o p : Option ℕ) → pick b (Some 0) (one_further o) ≡ Some 0 → pick b (Some 0) (one_further p) ≡ None → ⊥
first_by true o p h none = cc
first_by false None p h none = cc
first_by false (Some j) p h none = cc

-- Where the first one that is too deep stands before a place, it is among the numbers before that place.
pub one_before : (d k j : ℕ) (ns : List ℕ) → first_too_deep d ns ≡ Some k → k < j → first_too_deep d (take j ns) ≡ None → ⊥
one_before d k zero ns h less none = omega (arith, less)
one_before d k (suc j) [] h less none = cc
one_before d zero (suc j) (n ∷ ns) h less none = first_by (nat_lt nesting_limit (d + n)) (first_too_deep d ns) (first_too_deep d (take j ns)) h none
one_before d (suc k) (suc j) (n ∷ ns) h less none =
    one_by (nat_lt nesting_limit (d + n)) (first_too_deep d ns) (first_too_deep d (take j ns)) k h (λ is. one_before d k j ns is (omega (arith, less))) none

-- ---- the first symbols

-- So many of the first symbols, in front of the others of more of them.
pub record Further {S : Type 0} (few many : List S) : Type 0 where
  pub more : List S
  pub is : many ≡ few ++ more

pub further : {T S : Type 0} (f : T → S) (l : List T) (i n : ℕ) → i ≤ n → Further (map f (take i l)) (map f (take n l))
further f l i n le =
    let m = n - i in
    let sum : i + m ≡ n = omega (arith, le) in
    record {
      more = map f (take m (drop i l));
      is = ap (λ z. map f (take z l)) (sym sum) ∙ ap (map f) (take-add i m l) ∙ map-append f (take i l) (take m (drop i l));
    }

-- ---- answers

-- A parser of trees begins at a place of so many symbols, with so many constructs open around it. `front k` are the symbols
-- from there to before the place k.
module _ {S A : Type 0} (spells : A → List S → Type 0) (nests : A → List ℕ) (d at count : ℕ) (front : ℕ → List S) (grows : (k j : ℕ) → k ≤ j → Further (front k) (front j)) where
  pub record Begun (w : List S) : Type 0 where
    pub tree : A
    pub rest : List S
    pub spelled : spells tree (w ++ rest)

  -- No more symbols begin a tree than those to before a place.
  pub record Reached (k : ℕ) : Type 0 where
    pub ahead : at ≤ k
    pub within : k ≤ count
    pub begins : Begun (front k)
    pub most : (j : ℕ) → k < j → j ≤ count → Begun (front j) → ⊥

  -- Those up to and with a place begin one, and that is the first place that is too deep.
  pub record Sunk (k : ℕ) : Type 0 where
    pub ahead : at ≤ k
    pub within : k < count
    pub begins : Begun (front (k + 1))
    pub sinks : (a : A) (more : List S) → spells a (front (k + 1) ++ more) → first_too_deep d (nests a) ≡ Some (k - at)

  -- None of them is too deep, in whatever tree they begin.
  abbrev pub Shallow : ℕ → Type 0
  Shallow k = (a : A) (more : List S) → spells a (front k ++ more) → first_too_deep d (take (k - at) (nests a)) ≡ None

  pub same_reach : (k j : ℕ) → Reached k → Reached j → k ≡ j
  same_reach k j p q = same_place k j (λ h. p.most j h q.within q.begins) (λ h. q.most k h p.within p.begins)

  -- what is too deep stands before the end of what begins a tree
  sunk_before : (k j : ℕ) → Reached k → Sunk j → j < k
  sunk_before k j p q = less_by (nat_lt j k) refl (λ h. p.most (j + 1) (omega (arith, h)) (omega (arith, q.within)) q.begins)

  pub read_is_not_deep : (k j : ℕ) (a : A) → Reached k → spells a (front k) → first_too_deep d (nests a) ≡ None → Sunk j → ⊥
  read_is_not_deep k j a p spelled shallow q =
      let r = grows (j + 1) k (omega (arith, sunk_before k j p q)) in
      let wrong : Some (j - at) ≡ None = sym (q.sinks a r.more (subst (spells a) r.is spelled)) ∙ shallow in
      cc

  pub syntax_is_not_deep : (k j : ℕ) → Reached k → Shallow k → Sunk j → ⊥
  syntax_is_not_deep k j p shallow q =
      let before = sunk_before k j p q in
      let r = grows (j + 1) k (omega (arith, before)) in
      let b = p.begins in
      let split : front k ++ b.rest ≡ front (j + 1) ++ (r.more ++ b.rest) = ap (λ u. u ++ b.rest) r.is ∙ append_assoc (front (j + 1)) r.more b.rest in
      one_before d (j - at) (k - at) (nests b.tree) (q.sinks b.tree (r.more ++ b.rest) (subst (spells b.tree) split b.spelled)) (omega (arith, before, q.ahead)) (shallow b.tree b.rest b.spelled)

  -- of two places that are the first too deep one, none stands before the other
  not_before : (k j : ℕ) → Sunk k → Sunk j → k < j → ⊥
  not_before k j p q less =
      let r = grows (k + 1) (j + 1) (omega (arith, less)) in
      let b = q.begins in
      let split : front (j + 1) ++ b.rest ≡ front (k + 1) ++ (r.more ++ b.rest) = ap (λ u. u ++ b.rest) r.is ∙ append_assoc (front (k + 1)) r.more b.rest in
      let same : k - at ≡ j - at = some_same (k - at) (j - at) (sym (p.sinks b.tree (r.more ++ b.rest) (subst (spells b.tree) split b.spelled)) ∙ q.sinks b.tree b.rest b.spelled) in
      omega (arith, same, less, p.ahead, q.ahead)

  pub same_depth : (k j : ℕ) → Sunk k → Sunk j → k ≡ j
  same_depth k j p q = same_place k j (not_before k j p q) (not_before j k q p)
