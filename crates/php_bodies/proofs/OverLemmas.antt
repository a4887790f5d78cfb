-- Going over a list that is made of another one, and going over faults.
use Rattle.std.proofs.Common.{◌≡◌, Option, List, [], ◌∷◌, ◌++◌, map, flat_map, refl, sym, ◌∙◌, ap}
use Rattle.php_legality.specs.declared.fault.Fault.{Fault}
use Rattle.php_legality.specs.First.{first_from}
use Rattle.php_legality.proofs.FirstLemmas.{first_from_joined}
use Rattle.php_places.specs.Over.{over}

pub over_joined : {A C : Type 0} (each : A → C → C) (xs ys : List A) (met : C) → over each (xs ++ ys) met ≡ over each ys (over each xs met)
over_joined each [] ys met = refl
over_joined each (x ∷ xs) ys met = over_joined each xs ys (each x met)

pub over_map : {A B C : Type 0} (each : B → C → C) (f : A → B) (xs : List A) (met : C) → over each (map f xs) met ≡ over (λ x m. each (f x) m) xs met
over_map each f [] met = refl
over_map each f (x ∷ xs) met = over_map each f xs (each (f x) met)

-- lists of lists
pub over_flat : {A B C : Type 0} (each : B → C → C) (whole : A → C → C) (f : A → List B) → ((x : A) (m : C) → whole x m ≡ over each (f x) m) → (xs : List A) (met : C)
    → over whole xs met ≡ over each (flat_map f xs) met
over_flat each whole f same [] met = refl
over_flat each whole f same (x ∷ xs) met =
    ap (over whole xs) (same x met) ∙ over_flat each whole f same xs (over each (f x) met) ∙ sym (over_joined each (f x) (flat_map f xs) met)

-- what each element meets is the first of its faults
pub over_faults : {A : Type 0} (each : A → Option Fault → Option Fault) (faults : A → List Fault) → ((x : A) (m : Option Fault) → each x m ≡ first_from m (faults x)) → (xs : List A) (met : Option Fault)
    → over each xs met ≡ first_from met (flat_map faults xs)
over_faults each faults same [] met = refl
over_faults each faults same (x ∷ xs) met =
    ap (over each xs) (same x met) ∙ over_faults each faults same xs (first_from met (faults x)) ∙ sym (first_from_joined met (faults x) (flat_map faults xs))
