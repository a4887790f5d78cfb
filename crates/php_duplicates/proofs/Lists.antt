-- Lists of parts of statements, element by element from the first one on.
use Rattle.std.proofs.Common.{◌≡◌, ◌≤◌, ◌<◌, ℕ, ◌+◌, Option, List, [], ◌∷◌, map, drop, length, get_or, refl, sym, ◌∙◌, ap}
use Rattle.std.proofs.lemmas.List.{at_drop_more, at_drop_all}
use Rattle.php_ast.specs.declared.statement.ElseIf.{ElseIf}
use Rattle.php_ast.specs.declared.statement.Case.{Case}
use Rattle.php_ast.specs.declared.statement.Catch.{Catch}
use Rattle.php_ast.specs.expression.View.{Note, spot_view, view}
use Rattle.php_ast.specs.statement.Tree.{Statement, Statements, and_statement, ElseIfs, and_elseif, ElseIfLists, and_elseif_list, Cases, and_case, Catches, and_catch}
use Rattle.php_ast.specs.statement.View.{optional, name_view, names_view, list_view, statements_from, elseifs_from, elseif_lists_from, cases_from, catches_from}
use Rattle.php_legality.specs.declared.fault.Fault.{Fault}
use Rattle.php_duplicates.specs.Over.{over}
use Rattle.php_duplicates.specs.Met.{met_statement, met_list, met_elseifs, met_elseif_lists, met_cases, met_catches}

abbrev pub at_elseif : ElseIf (Statement Note) → Option Fault → Option Fault
at_elseif p met = met_statement p.body met

abbrev pub at_elseif_list : ElseIf (List (Statement Note)) → Option Fault → Option Fault
at_elseif_list p met = met_list (list_view p.body) met

abbrev pub at_case : Case (Statement Note) → Option Fault → Option Fault
at_case c met = met_list (list_view c.body) met

abbrev pub at_catch : Catch (Statement Note) → Option Fault → Option Fault
at_catch c met = met_list (list_view c.body) met

pub list_over : (before : Statements Note) (xs : List (Statement Note)) (met : Option Fault)
    → over met_statement xs (met_list before met) ≡ met_list (statements_from before xs) met
list_over before [] met = refl
list_over before (x ∷ xs) met = list_over (and_statement before x) xs met

pub elseifs_over : (before : ElseIfs Note) (xs : List (ElseIf (Statement Note))) (met : Option Fault)
    → over at_elseif xs (met_elseifs before met) ≡ met_elseifs (elseifs_from before xs) met
elseifs_over before [] met = refl
elseifs_over before (x ∷ xs) met = elseifs_over (and_elseif before (view x.test) x.body) xs met

pub elseif_lists_over : (before : ElseIfLists Note) (xs : List (ElseIf (List (Statement Note)))) (met : Option Fault)
    → over at_elseif_list xs (met_elseif_lists before met) ≡ met_elseif_lists (elseif_lists_from before xs) met
elseif_lists_over before [] met = refl
elseif_lists_over before (x ∷ xs) met = elseif_lists_over (and_elseif_list before (view x.test) (list_view x.body)) xs met

pub cases_over : (before : Cases Note) (xs : List (Case (Statement Note))) (met : Option Fault)
    → over at_case xs (met_cases before met) ≡ met_cases (cases_from before xs) met
cases_over before [] met = refl
cases_over before (x ∷ xs) met = cases_over (and_case before (spot_view x.spot) (optional view x.value) x.end (list_view x.body)) xs met

pub catches_over : (before : Catches Note) (xs : List (Catch (Statement Note))) (met : Option Fault)
    → over at_catch xs (met_catches before met) ≡ met_catches (catches_from before xs) met
catches_over before [] met = refl
catches_over before (x ∷ xs) met = catches_over (and_catch before (names_view x.classes) (name_view x.variable) (list_view x.body)) xs met

-- ---- one more element, and the end

at_place : {A B : Type 0} (F : List A → B) (xs : List A) (i : ℕ) (x : A) → i < length xs → x ≡ get_or xs i x → F (x ∷ drop (i + 1) xs) ≡ F (drop i xs)
at_place F xs i x within is = ap (λ y. F (y ∷ drop (i + 1) xs)) is ∙ sym (at_drop_more F xs i x within)

pub step_over : {A B V : Type 0} (each : B → V → V) (g : A → B) (xs : List A) (i : ℕ) (x : A) (met new whole : V)
    → i < length xs → x ≡ get_or xs i x → over each (map g (drop i xs)) met ≡ whole → new ≡ each (g x) met → over each (map g (drop (i + 1) xs)) new ≡ whole
step_over each g xs i x met new whole within is before one =
    ap (over each (map g (drop (i + 1) xs))) one ∙ at_place (λ ys. over each (map g ys) met) xs i x within is ∙ before

pub end_over : {A B V : Type 0} (each : B → V → V) (g : A → B) (xs : List A) (i : ℕ) (met whole : V)
    → length xs ≤ i → over each (map g (drop i xs)) met ≡ whole → met ≡ whole
end_over each g xs i met whole past before = sym (at_drop_all (λ ys. over each (map g ys) met) xs i past) ∙ before
