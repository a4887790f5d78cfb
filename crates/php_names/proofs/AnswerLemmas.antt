-- A script has one answer at most, besides that memory was wanted.
use Rattle.std.proofs.Common.{◌≡◌, ℕ, nat_eq, cond, Option, Some, None, refl, sym, ◌∙◌, ap, arith}
use Rattle.std.specs.Prelude.{◌≢◌, Result, Ok, Err}
use mathlib.Core.Logic.{inl, inr}
use Rattle.php_ast.specs.declared.script.Script.{Script}
use Rattle.php_ast.specs.expression.View.{Note}
use Rattle.php_ast.specs.declaration.Tree as tree
use Rattle.php_ast.specs.declaration.View.{script_view}
use Rattle.php_legality.specs.declared.kind.Kind.{Kind}
use Rattle.php_legality.specs.declared.kind.Kind.TheVariants as kind
use Rattle.php_legality.specs.declared.fault.Fault.{Fault}
use Rattle.php_legality.specs.First.{rank, IsNoLater}
use Rattle.php_legality.specs.Legality.{all_kinds, IsLegal, IsFirstFault}
use Rattle.php_names.specs.declared.fail.NameFail.{NameFail}
use Rattle.php_names.specs.declared.fail.NameFail.TheVariants as fail
use Rattle.php_names.specs.Fails.{fault_of, IsFirstIfAny}
use Rattle.php_names.specs.Answers.{IsAnswer, without_line, told, HasOneLine}
use Rattle.php_names.proofs.KindLemmas.{from_kinds}

-- ---- two first faults

abbrev kind_at : ℕ → Kind
kind_at n =
    cond (nat_eq n 0) kind.NoPlace (cond (nat_eq n 1) kind.BadBreak (cond (nat_eq n 2) kind.JumpFromFinally (cond (nat_eq n 3) kind.Duplicate
    (cond (nat_eq n 4) kind.NoConstant (cond (nat_eq n 5) kind.BadList (cond (nat_eq n 6) kind.BadUse kind.TooManyNames))))))

at_rank : (k : Kind) → kind_at (rank k) ≡ k
at_rank kind.NoPlace = refl
at_rank kind.BadBreak = refl
at_rank kind.JumpFromFinally = refl
at_rank kind.Duplicate = refl
at_rank kind.NoConstant = refl
at_rank kind.BadList = refl
at_rank kind.BadUse = refl
at_rank kind.TooManyNames = refl

same_rank : (k j : Kind) → rank k ≡ rank j → k ≡ j
same_rank k j is = sym (at_rank k) ∙ ap kind_at is ∙ at_rank j

same_token : (a b : Fault) → IsNoLater a b → IsNoLater b a → (a.kind ≡ b.kind) × (a.spot.place ≡ b.spot.place)
same_token a b (inl p) (inl q) = (same_rank a.kind b.kind (omega (arith, p, q)), omega (arith, p, q))
same_token a b (inl p) (inr q) = (same_rank a.kind b.kind (omega (arith, p, q.0)), omega (arith, p, q.0))
same_token a b (inr p) (inl q) = (same_rank a.kind b.kind (omega (arith, p.0, q)), p.0)
same_token a b (inr p) (inr q) = (same_rank a.kind b.kind (omega (arith, p.1, q.1)), p.0)

both_first : (script : tree.Script Note) (a b : Fault) → IsFirstFault script a → IsFirstFault script b
    → (a.kind ≡ b.kind) × (a.spot.place ≡ b.spot.place)
both_first script a b of_a of_b = same_token a b (of_a.1 b of_b.0) (of_b.1 a of_a.0)

same_line : (script : tree.Script Note) (a b : Fault) → HasOneLine script → IsFirstFault script a → IsFirstFault script b → a.spot.line ≡ b.spot.line
same_line script a b one of_a of_b =
    from_kinds (a.spot.line ≡ b.spot.line) script all_kinds a of_a.0
    (λ k at there is. from_kinds (a.spot.line ≡ b.spot.line) script all_kinds b of_b.0
    (λ j to there_too is_too. sym (ap (λ f. f.spot.line) is)
    ∙ one k j at to there there_too (ap (λ f. f.spot.place) is ∙ (both_first script a b of_a of_b).1 ∙ sym (ap (λ f. f.spot.place) is_too))
    ∙ ap (λ f. f.spot.line) is_too))

abbrev fault_of_parts : Kind → ℕ → ℕ → Fault
fault_of_parts kind_of place line = record { kind = kind_of; spot = record { place = place; line = line } }

same_fault : (a b : Fault) → a.kind ≡ b.kind → a.spot.place ≡ b.spot.place → a.spot.line ≡ b.spot.line → a ≡ b
same_fault a b of_kind place line =
    ap (λ k. fault_of_parts k a.spot.place a.spot.line) of_kind ∙ ap (λ p. fault_of_parts b.kind p a.spot.line) place
    ∙ ap (λ l. fault_of_parts b.kind b.spot.place l) line

-- ---- what failures tell

told_first : (script : tree.Script Note) (a b : Option Fault) → IsFirstIfAny script a → IsFirstIfAny script b → a ≢ None → b ≢ None
    → without_line a ≡ without_line b
told_first script None b of_a of_b some_a some_b = absurd (some_a refl)
told_first script (Some a) None of_a of_b some_a some_b = absurd (some_b refl)
told_first script (Some a) (Some b) of_a of_b some_a some_b =
    let same = both_first script a b of_a of_b in
    ap (λ k. Some (k, a.spot.place)) same.0 ∙ ap (λ p. Some (b.kind, p)) same.1

one_first : (script : tree.Script Note) (a b : Option Fault) → HasOneLine script → IsFirstIfAny script a → IsFirstIfAny script b → a ≢ None → b ≢ None
    → a ≡ b
one_first script None b one of_a of_b some_a some_b = absurd (some_a refl)
one_first script (Some a) None one of_a of_b some_a some_b = absurd (some_b refl)
one_first script (Some a) (Some b) one of_a of_b some_a some_b =
    let same = both_first script a b of_a of_b in
    ap (λ f. Some f) (same_fault a b same.0 same.1 (same_line script a b one of_a of_b))

legal_or_first : (script : tree.Script Note) (a : Option Fault) → IsLegal script → IsFirstIfAny script a → a ≢ None → ⊥
legal_or_first script None legal first some = some refl
legal_or_first script (Some a) legal first some = from_kinds ⊥ script all_kinds a first.0 (λ k at there is. legal k at there)

abbrev fail_at : Kind → ℕ → ℕ → NameFail
fail_at kind.NoPlace line place = fail.NotAPlace line place
fail_at kind.BadBreak line place = fail.BadBreak line place
fail_at kind.JumpFromFinally line place = fail.JumpFromFinally line place
fail_at kind.Duplicate line place = fail.Duplicate line place
fail_at kind.NoConstant line place = fail.BadConstant line place
fail_at kind.BadList line place = fail.BadList line place
fail_at kind.BadUse line place = fail.BadUse line place
fail_at kind.TooManyNames line place = fail.TooManyNames line place

abbrev fail_from : Option Fault → NameFail
fail_from None = fail.NoMemory
fail_from (Some fault) = fail_at fault.kind fault.spot.line fault.spot.place

told_back : (f : NameFail) → fail_from (fault_of f) ≡ f
told_back (fail.NotAPlace line place) = refl
told_back (fail.BadBreak line place) = refl
told_back (fail.JumpFromFinally line place) = refl
told_back (fail.Duplicate line place) = refl
told_back (fail.BadConstant line place) = refl
told_back (fail.BadList line place) = refl
told_back (fail.BadUse line place) = refl
told_back (fail.TooManyNames line place) = refl
told_back fail.NoMemory = refl

-- A failure that isn't want of memory tells a fault.
abbrev refused : NameFail → Result Script NameFail
refused f = Err f

tells : (f : NameFail) → refused f ≢ refused fail.NoMemory → fault_of f ≢ None
tells f wanted none = wanted (ap refused (sym (told_back f) ∙ ap fail_from none))

-- ---- answers

pub one_token : (script : Script) (a b : Result Script NameFail) → IsAnswer script a → IsAnswer script b → a ≢ Err fail.NoMemory → b ≢ Err fail.NoMemory
    → told a ≡ told b
one_token script (Ok a) (Ok b) of_a of_b not_a not_b = refl
one_token script (Ok a) (Err b) of_a of_b not_a not_b = absurd (legal_or_first (script_view script) (fault_of b) of_a.1 of_b.2 (tells b not_b))
one_token script (Err a) (Ok b) of_a of_b not_a not_b = absurd (legal_or_first (script_view script) (fault_of a) of_b.1 of_a.2 (tells a not_a))
one_token script (Err a) (Err b) of_a of_b not_a not_b =
    told_first (script_view script) (fault_of a) (fault_of b) of_a.2 of_b.2 (tells a not_a) (tells b not_b)

pub one_answer : (script : Script) (a b : Result Script NameFail) → HasOneLine (script_view script) → IsAnswer script a → IsAnswer script b
    → a ≢ Err fail.NoMemory → b ≢ Err fail.NoMemory → a ≡ b
one_answer script (Ok a) (Ok b) one of_a of_b not_a not_b = ap (λ s. Ok s) (of_a.0 ∙ sym of_b.0)
one_answer script (Ok a) (Err b) one of_a of_b not_a not_b =
    absurd (legal_or_first (script_view script) (fault_of b) of_a.1 of_b.2 (tells b not_b))
one_answer script (Err a) (Ok b) one of_a of_b not_a not_b =
    absurd (legal_or_first (script_view script) (fault_of a) of_b.1 of_a.2 (tells a not_a))
one_answer script (Err a) (Err b) one of_a of_b not_a not_b =
    ap refused (sym (told_back a)
    ∙ ap fail_from (one_first (script_view script) (fault_of a) (fault_of b) one of_a.2 of_b.2 (tells a not_a) (tells b not_b)) ∙ told_back b)
