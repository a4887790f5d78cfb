-- The labels of a `switch`, one after the other.
use Rattle.std.proofs.Common.{◌≡◌, ◌≤◌, ◌<◌, ℕ, ◌+◌, Bool, true, false, ◌&&◌, ◌||◌, Option, Some, None, List, [], ◌∷◌, ◌++◌, map, drop, length, get_or, refl, sym, ◌∙◌, ap}
use Rattle.std.proofs.lemmas.List.{at_drop_more, at_drop_all}
use Rattle.php_ast.specs.declared.expression.Expr.{Expr}
use Rattle.php_ast.specs.declared.statement.Case.{Case}
use Rattle.php_ast.specs.declared.statement.Stmt.{Stmt}
use Rattle.php_ast.specs.declared.statement.CaseEnd.{CaseEnd}
use Rattle.php_ast.specs.declared.spot.Spot.{Spot}
use Rattle.php_ast.specs.expression.Tree.{Tree}
use Rattle.php_ast.specs.expression.View.{Note, spot_view, view}
use Rattle.php_ast.specs.statement.Tree.{Statement, Cases, no_case, and_case}
use Rattle.php_ast.specs.statement.View.{optional, list_view, cases_from, statement_view}
use Rattle.php_legality.specs.declared.fault.Fault.{Fault}
use Rattle.php_legality.specs.Lists.{where_true}
use Rattle.php_legality.specs.First.{first_from}
use Rattle.php_legality.specs.Rows.{defaults_in}
use Rattle.php_duplicates.specs.Saw.{duplicate_at}
use Rattle.php_duplicates.specs.Met.{is_default, labels, met_labels}
use Rattle.php_ast.specs.statement.Parts.{case_with}

-- the note of a label that is `default`
abbrev at_default : Bool → Spot → List Note
at_default is spot = where_true is (spot_view spot)

abbrev defaults : List (Case Stmt) → List Note
defaults [] = []
defaults (c ∷ cs) = at_default (is_default c.value) c.spot ++ defaults cs

append_assoc : {A : Type 0} (xs ys zs : List A) → (xs ++ ys) ++ zs ≡ xs ++ (ys ++ zs)
append_assoc [] ys zs = refl
append_assoc (x ∷ xs) ys zs = ap (λ rest. x ∷ rest) (append_assoc xs ys zs)

nothing_behind : {A : Type 0} (xs : List A) → xs ++ [] ≡ xs
nothing_behind [] = refl
nothing_behind (x ∷ xs) = ap (λ ys. x ∷ ys) (nothing_behind xs)

one_label : (before : Cases Note) (spot : Spot) (value : Option Expr) (end : CaseEnd) (body : List (Statement Note))
    → defaults_in (and_case before (spot_view spot) (optional view value) end (list_view body)) ≡ defaults_in before ++ at_default (is_default value) spot
one_label before spot None end body = refl
one_label before spot (Some e) end body = sym (nothing_behind (defaults_in before))

defaults_from : (before : Cases Note) (cs : List (Case Stmt)) → defaults_in (cases_from before (map (case_with statement_view) cs)) ≡ defaults_in before ++ defaults cs
defaults_from before [] = sym (nothing_behind (defaults_in before))
defaults_from before (c ∷ cs) =
    defaults_from (and_case before (spot_view c.spot) (optional view c.value) c.end (list_view (map statement_view c.body))) cs
    ∙ ap (λ ns. ns ++ defaults cs) (one_label before c.spot c.value c.end (map statement_view c.body))
    ∙ append_assoc (defaults_in before) (at_default (is_default c.value) c.spot) (defaults cs)

-- those behind the first one
abbrev later : Bool → List Note → List Note
later true ns = ns
later false ns = drop 1 ns

one_more : (has is : Bool) (spot : Spot) (ns : List Note) (met : Option Fault)
    → first_from (first_from met (where_true (has && is) (duplicate_at (spot_view spot)))) (map duplicate_at (later (has || is) ns))
    ≡ first_from met (map duplicate_at (later has (at_default is spot ++ ns)))
one_more true true spot ns met = refl
one_more true false spot ns met = refl
one_more false true spot ns met = refl
one_more false false spot ns met = refl

labels_are : (has : Bool) (cs : List (Case Stmt)) (met : Option Fault) → labels has cs met ≡ first_from met (map duplicate_at (later has (defaults cs)))
labels_are true [] met = refl
labels_are false [] met = refl
labels_are has (c ∷ cs) met =
    labels_are (has || is_default c.value) cs (first_from met (where_true (has && is_default c.value) (duplicate_at (spot_view c.spot))))
    ∙ one_more has (is_default c.value) c.spot (defaults cs) met

-- all labels of a `switch`
pub labels_met : (cs : List (Case Stmt)) (met : Option Fault) → labels false cs met ≡ met_labels (cases_from no_case (map (case_with statement_view) cs)) met
unfolding met_labels
labels_met cs met = labels_are false cs met ∙ ap (λ ns. first_from met (map duplicate_at (drop 1 ns))) (sym (defaults_from no_case cs))

-- ---- one more label, and the end

pub step_labels : (xs : List (Case Stmt)) (i : ℕ) (x : Case Stmt) (has new_has : Bool) (met new whole : Option Fault) → i < length xs → x ≡ get_or xs i x
    → labels has (drop i xs) met ≡ whole → new_has ≡ has || is_default x.value → new ≡ first_from met (where_true (has && is_default x.value) (duplicate_at (spot_view x.spot)))
    → labels new_has (drop (i + 1) xs) new ≡ whole
step_labels xs i x has new_has met new whole within is before now one =
    ap (λ b. labels b (drop (i + 1) xs) new) now ∙ ap (labels (has || is_default x.value) (drop (i + 1) xs)) one
    ∙ ap (λ y. labels has (y ∷ drop (i + 1) xs) met) is ∙ sym (at_drop_more (λ ys. labels has ys met) xs i x within) ∙ before

pub end_labels : (xs : List (Case Stmt)) (i : ℕ) (has : Bool) (met whole : Option Fault) → length xs ≤ i → labels has (drop i xs) met ≡ whole → met ≡ whole
end_labels xs i has met whole past before = sym (at_drop_all (λ ys. labels has ys met) xs i past) ∙ before
