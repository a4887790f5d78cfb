-- The faults of all kinds, in whatever order the kinds are gone over.
use Rattle.std.proofs.Common.{◌≡◌, Option, None, List, [], ◌∷◌, ◌++◌, map, refl, sym, ap, subst}
use Rattle.std.specs.Prelude.{◌⊎◌}
use mathlib.Core.Logic.{inl, inr}
use Rattle.php_ast.specs.expression.View.{Note}
use Rattle.php_ast.specs.declaration.Tree.{Item, Script}
use Rattle.php_legality.specs.declared.kind.Kind.{Kind}
use Rattle.php_legality.specs.declared.kind.Kind.TheVariants as kind
use Rattle.php_legality.specs.declared.fault.Fault.{Fault}
use Rattle.php_legality.specs.Lists.{elements, Has}
use Rattle.php_legality.specs.First.{fault_at}
use Rattle.php_legality.specs.Legality.{places_of, faults_of, faults_of_kinds, all_kinds, HasFault, IsLegal, IsFirstOf}
use Rattle.php_legality.proofs.FirstLemmas.{first_of_same}
use Rattle.php_legality.proofs.HasLemmas.{has_left, has_right, has_either}
use Rattle.php_jumps.specs.Promise.{jump_kinds}
use Rattle.php_forms.specs.Promise.{form_kinds}
use Rattle.php_duplicates.specs.Promise.{duplicate_kinds}
use Rattle.php_many_names.specs.Promise.{name_kinds}

-- the kinds in the order in which the checks are joined
abbrev pub joined_kinds : List Kind
joined_kinds = (jump_kinds ++ form_kinds) ++ (duplicate_kinds ++ name_kinds)

in_all : (k : Kind) → Has all_kinds k
in_all kind.NoPlace = inl refl
in_all kind.BadBreak = inr (inl refl)
in_all kind.JumpFromFinally = inr (inr (inl refl))
in_all kind.Duplicate = inr (inr (inr (inl refl)))
in_all kind.NoConstant = inr (inr (inr (inr (inl refl))))
in_all kind.BadList = inr (inr (inr (inr (inr (inl refl)))))
in_all kind.BadUse = inr (inr (inr (inr (inr (inr (inl refl))))))
in_all kind.TooManyNames = inr (inr (inr (inr (inr (inr (inr (inl refl)))))))

in_joined : (k : Kind) → Has joined_kinds k
in_joined kind.BadBreak = inl refl
in_joined kind.JumpFromFinally = inr (inl refl)
in_joined kind.NoPlace = inr (inr (inl refl))
in_joined kind.NoConstant = inr (inr (inr (inl refl)))
in_joined kind.BadList = inr (inr (inr (inr (inl refl))))
in_joined kind.BadUse = inr (inr (inr (inr (inr (inl refl)))))
in_joined kind.Duplicate = inr (inr (inr (inr (inr (inr (inl refl))))))
in_joined kind.TooManyNames = inr (inr (inr (inr (inr (inr (inr (inl refl)))))))

-- a fault of a kind is one of the faults of kinds that have it
of_kinds : (items : List (Item Note)) (ks : List Kind) (k : Kind) (x : Fault) → Has ks k → Has (faults_of items k) x → Has (faults_of_kinds ks items) x
of_kinds items [] k x has of = absurd has
of_kinds items (j ∷ ks) k x (inl is) of =
    has_left (faults_of items j) (faults_of_kinds ks items) x (subst (λ i. Has (faults_of items i) x) (sym is) of)
of_kinds items (j ∷ ks) k x (inr has) of = has_right (faults_of items j) (faults_of_kinds ks items) x (of_kinds items ks k x has of)

-- and so of any kinds that have all
moved : (items : List (Item Note)) (ks js : List Kind) → ((k : Kind) → Has js k) → (x : Fault) → Has (faults_of_kinds ks items) x
    → Has (faults_of_kinds js items) x
moved items [] js all x has = absurd has
moved items (k ∷ ks) js all x has = by (λ rest. moved items ks js all x rest) (has_either (faults_of items k) (faults_of_kinds ks items) x has)
  where
    by : (Has (faults_of_kinds ks items) x → Has (faults_of_kinds js items) x) → Has (faults_of items k) x ⊎ Has (faults_of_kinds ks items) x
        → Has (faults_of_kinds js items) x
    by on (inl of) = of_kinds items js k x (all k) of
    by on (inr rest) = on rest

pub in_order : (script : Script Note) (found : Option Fault) → IsFirstOf joined_kinds script found → IsFirstOf all_kinds script found
in_order script found first =
    first_of_same (faults_of_kinds joined_kinds (elements script)) (faults_of_kinds all_kinds (elements script)) found
    (moved (elements script) joined_kinds all_kinds in_all) (moved (elements script) all_kinds joined_kinds in_joined) first

-- ---- no fault at all

at_note : (k : Kind) (ns : List Note) (at : Note) → Has ns at → Has (map (fault_at k) ns) (fault_at k at)
at_note k [] at has = absurd has
at_note k (n ∷ ns) at (inl is) = inl (ap (fault_at k) is)
at_note k (n ∷ ns) at (inr has) = inr (at_note k ns at has)

pub is_legal : (script : Script Note) → IsFirstOf all_kinds script None → IsLegal script
is_legal script none k at has =
    subst (λ (xs : List Fault). Has xs (fault_at k at)) none
    (of_kinds (elements script) all_kinds k (fault_at k at) (in_all k) (at_note k (places_of k (elements script)) at has))

-- ---- where a fault comes from

from_notes : (C : Type 0) (k : Kind) (ns : List Note) (x : Fault) → Has (map (fault_at k) ns) x
    → ((at : Note) → Has ns at → fault_at k at ≡ x → C) → C
from_notes C k [] x has go = absurd has
from_notes C k (n ∷ ns) x (inl is) go = go n (inl refl) is
from_notes C k (n ∷ ns) x (inr has) go = from_notes C k ns x has (λ at there is. go at (inr there) is)

pub from_kinds : (C : Type 0) (script : Script Note) (ks : List Kind) (x : Fault) → Has (faults_of_kinds ks (elements script)) x
    → ((k : Kind) (at : Note) → HasFault script k at → fault_at k at ≡ x → C) → C
from_kinds C script [] x has go = absurd has
from_kinds C script (k ∷ ks) x has go =
    by (λ rest. from_kinds C script ks x rest go) (has_either (faults_of (elements script) k) (faults_of_kinds ks (elements script)) x has)
  where
    by : (Has (faults_of_kinds ks (elements script)) x → C) → Has (faults_of (elements script) k) x ⊎ Has (faults_of_kinds ks (elements script)) x → C
    by on (inl of) = from_notes C k (places_of k (elements script)) x of (λ at there is. go k at there is)
    by on (inr rest) = on rest
