-- The first of the firsts of two lists is the first of both.
use Rattle.std.proofs.Common.{◌≡◌, Option, Some, None, List, [], ◌∷◌, ◌++◌, refl, sym, ◌∙◌, ap, subst}
use Rattle.std.specs.Prelude.{◌⊎◌}
use mathlib.Core.Logic.{inl, inr}
use Rattle.php_ast.specs.expression.View.{Note}
use Rattle.php_ast.specs.declaration.Tree.{Script}
use Rattle.php_legality.specs.declared.kind.Kind.{Kind}
use Rattle.php_legality.specs.declared.fault.Fault.{Fault}
use Rattle.php_legality.specs.Lists.{elements, Has}
use Rattle.php_legality.specs.First.{IsNoLater, IsFirst, sooner}
use Rattle.php_legality.specs.Legality.{faults_of, faults_of_kinds, IsFirstOf}
use Rattle.php_legality.proofs.FirstLemmas.{no_later_trans, first_is_found}
use Rattle.php_legality.proofs.HasLemmas.{has_left, has_right, has_either, flat_map_joined}

nothing_behind : {A : Type 0} (xs : List A) → xs ++ [] ≡ xs
nothing_behind [] = refl
nothing_behind (x ∷ xs) = ap (λ ys. x ∷ ys) (nothing_behind xs)

-- of two faults
first_of_two : (a b : Fault) → IsFirst (a ∷ b ∷ []) (sooner (Some a) b)
first_of_two a b = first_is_found (a ∷ b ∷ [])

module _ (xs ys : List Fault) (a b : Fault) (of_xs : IsFirst xs (Some a)) (of_ys : IsFirst ys (Some b)) where
  -- the first of the two goes before all
  goes_first : (r : Option Fault) → IsFirst (a ∷ b ∷ []) r → IsFirst (xs ++ ys) r
  goes_first None pair = absurd (cc)
  goes_first (Some c) pair = (among pair.0, each)
    where
      among : Has (a ∷ b ∷ []) c → Has (xs ++ ys) c
      among (inl is) = subst (Has (xs ++ ys)) is (has_left xs ys a of_xs.0)
      among (inr (inl is)) = subst (Has (xs ++ ys)) is (has_right xs ys b of_ys.0)
      among (inr (inr has)) = absurd has

      by_side : (f : Fault) → Has xs f ⊎ Has ys f → IsNoLater c f
      by_side f (inl has) = no_later_trans c a f (pair.1 a (inl refl)) (of_xs.1 f has)
      by_side f (inr has) = no_later_trans c b f (pair.1 b (inr (inl refl))) (of_ys.1 f has)

      each : (f : Fault) → Has (xs ++ ys) f → IsNoLater c f
      each f has = by_side f (has_either xs ys f has)

first_of_left : (xs ys : List Fault) (r : Option Fault) → IsFirst xs r → IsFirst ys None → IsFirst (xs ++ ys) r
first_of_left xs ys r first none = subst (λ zs. IsFirst zs r) (sym (ap (λ zs. xs ++ zs) none ∙ nothing_behind xs)) first

first_of_either : (xs ys : List Fault) (r : Option Fault) (b : Fault) → IsFirst xs r → IsFirst ys (Some b) → IsFirst (xs ++ ys) (sooner r b)
first_of_either xs ys None b none first = subst (λ zs. IsFirst zs (Some b)) (sym (ap (λ zs. zs ++ ys) none)) first
first_of_either xs ys (Some a) b of_xs of_ys = goes_first xs ys a b of_xs of_ys (sooner (Some a) b) (first_of_two a b)

-- ---- of the faults of kinds

faults_joined : (script : Script Note) (ks js : List Kind)
    → faults_of_kinds (ks ++ js) (elements script) ≡ faults_of_kinds ks (elements script) ++ faults_of_kinds js (elements script)
faults_joined script ks js = flat_map_joined (λ (k : Kind). faults_of (elements script) k) ks js

-- The other check found nothing.
pub first_alone : (script : Script Note) (ks js : List Kind) (r : Option Fault) → IsFirstOf ks script r → IsFirstOf js script None
    → IsFirstOf (ks ++ js) script r
first_alone script ks js r first none =
    subst (λ xs. IsFirst xs r) (sym (faults_joined script ks js))
    (first_of_left (faults_of_kinds ks (elements script)) (faults_of_kinds js (elements script)) r first none)

-- It found a fault.
pub first_of_both : (script : Script Note) (ks js : List Kind) (r : Option Fault) (b : Fault) → IsFirstOf ks script r → IsFirstOf js script (Some b)
    → IsFirstOf (ks ++ js) script (sooner r b)
first_of_both script ks js r b of_ks of_js =
    subst (λ xs. IsFirst xs (sooner r b)) (sym (faults_joined script ks js))
    (first_of_either (faults_of_kinds ks (elements script)) (faults_of_kinds js (elements script)) r b of_ks of_js)
