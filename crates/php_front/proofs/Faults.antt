-- The first fault of a script, and what is told of it.
use Rattle.std.proofs.Common.{◌≡◌, ◌≤◌, ◌<◌, ◌⊎◌, inl, inr, ℕ, zero, suc, Option, Some, None, List, [], ◌∷◌, ◌++◌, map, refl, sym, ◌∙◌, ap, arith}
use Rattle.php_token.specs.Token.{Token}
use Rattle.php_ast.specs.expression.View.{Note}
use Rattle.php_ast.specs.declaration.Tree.{Item, Script}
use Rattle.php_reader.specs.Line.{line_at}
use Rattle.php_legality.specs.declared.kind.Kind.{Kind}
use Rattle.php_legality.specs.declared.kind.Kind.TheVariants as kind
use Rattle.php_legality.specs.declared.fault.Fault.{Fault}
use Rattle.php_legality.specs.First.{fault_at, rank, IsNoLater}
use Rattle.php_legality.specs.Lists.{elements, Has}
use Rattle.php_legality.specs.Legality.{IsFirstFault, IsLegal, all_kinds, faults_of, faults_of_kinds, places_of}
use Rattle.php_names.specs.Fails.{fault_of}
use Rattle.php_names.specs.declared.fail.NameFail.{NameFail}
use Rattle.php_names.specs.declared.fail.NameFail.TheVariants as fail
use Rattle.php_front.specs.Read.{IsFaultAt}

-- ---- kinds by their ranks

abbrev of_rank : ℕ → Kind
of_rank zero = kind.NoPlace
of_rank (suc zero) = kind.BadBreak
of_rank (suc (suc zero)) = kind.JumpFromFinally
of_rank (suc (suc (suc zero))) = kind.Duplicate
of_rank (suc (suc (suc (suc zero)))) = kind.NoConstant
of_rank (suc (suc (suc (suc (suc zero))))) = kind.BadList
of_rank (suc (suc (suc (suc (suc (suc zero)))))) = kind.BadUse
of_rank (suc (suc (suc (suc (suc (suc (suc n))))))) = kind.TooManyNames

ranked : (k : Kind) → of_rank (rank k) ≡ k
ranked kind.NoPlace = refl
ranked kind.BadBreak = refl
ranked kind.JumpFromFinally = refl
ranked kind.Duplicate = refl
ranked kind.NoConstant = refl
ranked kind.BadList = refl
ranked kind.BadUse = refl
ranked kind.TooManyNames = refl

one_kind : (a b : Kind) → rank a ≡ rank b → a ≡ b
one_kind a b same = sym (ranked a) ∙ ap of_rank same ∙ ranked b

-- ---- two faults, neither of them later

one_place : (a b : Fault) → IsNoLater a b → IsNoLater b a → (a.spot.place ≡ b.spot.place) × (rank a.kind ≡ rank b.kind)
one_place a b (inl less) (inl more) = absurd (omega arith)
one_place a b (inl less) (inr more) = absurd (omega (arith, more.0))
one_place a b (inr less) (inl more) = absurd (omega (arith, less.0))
one_place a b (inr less) (inr more) = (less.0, omega (arith, less.1, more.1))

abbrev the_fault : Kind → ℕ → ℕ → Fault
the_fault k place line = record { kind = k; spot = record { place = place; line = line } }

pub one_fault : (found : List Token) (script : Script Note) (a b : Fault) → IsFaultAt found script a → IsFaultAt found script b → a ≡ b
one_fault found script a b first other =
    let at : Fault = the_fault a.kind a.spot.place first.noted in
    let at_other : Fault = the_fault b.kind b.spot.place other.noted in
    let same = one_place at at_other (first.first.1 at_other other.first.0) (other.first.1 at first.first.0) in
    let kinds : a.kind ≡ b.kind = one_kind a.kind b.kind same.1 in
    let lines : a.spot.line ≡ b.spot.line = first.on_line ∙ ap (line_at found) same.0 ∙ sym other.on_line in
    ap (λ k. the_fault k a.spot.place a.spot.line) kinds
    ∙ ap (λ p. the_fault b.kind p a.spot.line) same.0
    ∙ ap (λ l. the_fault b.kind b.spot.place l) lines

-- ---- a script with a first fault isn't legal

in_one_of : (xs ys : List Fault) (x : Fault) → Has (xs ++ ys) x → Has xs x ⊎ Has ys x
in_one_of [] ys x has = inr has
in_one_of (y ∷ xs) ys x (inl same) = inl (inl same)
in_one_of (y ∷ xs) ys x (inr has) = elim (in_one_of xs ys x has) [
  | inl first ↦ inl (inr first)
  | inr second ↦ inr second
]

of_a_note : (k : Kind) (notes : List Note) (x : Fault) → Has (map (fault_at k) notes) x → (at : Note) × Has notes at
of_a_note k [] x has = absurd has
of_a_note k (at ∷ notes) x (inl same) = (at, inl refl)
of_a_note k (at ∷ notes) x (inr has) = let r = of_a_note k notes x has in (r.0, inr r.1)

of_a_kind : (kinds : List Kind) (items : List (Item Note)) (x : Fault) → Has (faults_of_kinds kinds items) x → (k : Kind) × (at : Note) × Has (places_of k items) at
of_a_kind [] items x has = absurd has
of_a_kind (k ∷ kinds) items x has = elim (in_one_of (faults_of items k) (faults_of_kinds kinds items) x has) [
  | inl first ↦ let r = of_a_note k (places_of k items) x first in (k, r.0, r.1)
  | inr second ↦ of_a_kind kinds items x second
]

pub legal_or_faulty : (found : List Token) (script : Script Note) (fault : Fault) → IsLegal script → IsFaultAt found script fault → ⊥
legal_or_faulty found script fault legal first =
    let r = of_a_kind all_kinds (elements script) (the_fault fault.kind fault.spot.place first.noted) first.first.0 in
    legal r.0 r.1 r.2

-- ---- what is told of a fault

abbrev told_by : Kind → ℕ → ℕ → NameFail
told_by kind.NoPlace line place = fail.NotAPlace line place
told_by kind.BadBreak line place = fail.BadBreak line place
told_by kind.JumpFromFinally line place = fail.JumpFromFinally line place
told_by kind.Duplicate line place = fail.Duplicate line place
told_by kind.NoConstant line place = fail.BadConstant line place
told_by kind.BadList line place = fail.BadList line place
told_by kind.BadUse line place = fail.BadUse line place
told_by kind.TooManyNames line place = fail.TooManyNames line place

abbrev told_of : Option Fault → NameFail
told_of None = fail.NoMemory
told_of (Some fault) = told_by fault.kind fault.spot.line fault.spot.place

told_back : (failure : NameFail) → told_of (fault_of failure) ≡ failure
told_back (fail.NotAPlace line place) = refl
told_back (fail.BadBreak line place) = refl
told_back (fail.JumpFromFinally line place) = refl
told_back (fail.Duplicate line place) = refl
told_back (fail.BadConstant line place) = refl
told_back (fail.BadList line place) = refl
told_back (fail.BadUse line place) = refl
told_back (fail.TooManyNames line place) = refl
told_back fail.NoMemory = refl

pub one_told : (a b : NameFail) → fault_of a ≡ fault_of b → a ≡ b
one_told a b same = sym (told_back a) ∙ ap told_of same ∙ told_back b
