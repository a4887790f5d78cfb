-- Lists of parts of statements, element by element from the first one on.
use Rattle.std.proofs.Common.{◌≡◌, Bool, Option, List, [], ◌∷◌, map, refl, sym, ◌∙◌, ap}
use Rattle.php_ast.specs.declared.statement.ElseIf.{ElseIf}
use Rattle.php_ast.specs.declared.statement.Case.{Case}
use Rattle.php_ast.specs.declared.statement.Catch.{Catch}
use Rattle.php_ast.specs.expression.View.{Note, spot_view, view}
use Rattle.php_ast.specs.statement.Tree.{Statement, Statements, and_statement, ElseIfs, and_elseif, ElseIfLists, and_elseif_list, Cases, and_case, Catches, and_catch}
use Rattle.php_ast.specs.statement.View.{optional, name_view, names_view, list_view, statements_from, elseifs_from, elseif_lists_from, cases_from, catches_from}
use Rattle.php_legality.specs.declared.fault.Fault.{Fault}
use Rattle.php_legality.specs.declared.scope.Scope.{Scope}
use Rattle.php_legality.specs.Lists.{elements}
use Rattle.php_places.specs.Over.{over}
use Rattle.php_bodies.specs.Own as own
use Rattle.php_bodies.specs.Met.{met_statement, met_list, met_elseifs, met_elseif_lists, met_cases, met_catches}

abbrev pub at_elseif : Scope → ElseIf (Statement Note) → Option Fault → Option Fault
at_elseif scope p met = met_statement scope p.body met

abbrev pub at_elseif_list : Scope → ElseIf (List (Statement Note)) → Option Fault → Option Fault
at_elseif_list scope p met = met_list scope (list_view p.body) met

abbrev pub at_case : Scope → Case (Statement Note) → Option Fault → Option Fault
at_case scope c met = met_list scope (list_view c.body) met

abbrev pub at_catch : Scope → Catch (Statement Note) → Option Fault → Option Fault
at_catch scope c met = met_list scope (list_view c.body) met

pub list_over : (scope : Scope) (before : Statements Note) (xs : List (Statement Note)) (met : Option Fault)
    → over (met_statement scope) xs (met_list scope before met) ≡ met_list scope (statements_from before xs) met
list_over scope before [] met = refl
list_over scope before (x ∷ xs) met = list_over scope (and_statement before x) xs met

pub elseifs_over : (scope : Scope) (before : ElseIfs Note) (xs : List (ElseIf (Statement Note))) (met : Option Fault)
    → over (at_elseif scope) xs (met_elseifs scope before met) ≡ met_elseifs scope (elseifs_from before xs) met
elseifs_over scope before [] met = refl
elseifs_over scope before (x ∷ xs) met = elseifs_over scope (and_elseif before (view x.test) x.body) xs met

pub elseif_lists_over : (scope : Scope) (before : ElseIfLists Note) (xs : List (ElseIf (List (Statement Note)))) (met : Option Fault)
    → over (at_elseif_list scope) xs (met_elseif_lists scope before met) ≡ met_elseif_lists scope (elseif_lists_from before xs) met
elseif_lists_over scope before [] met = refl
elseif_lists_over scope before (x ∷ xs) met = elseif_lists_over scope (and_elseif_list before (view x.test) (list_view x.body)) xs met

pub cases_over : (scope : Scope) (before : Cases Note) (xs : List (Case (Statement Note))) (met : Option Fault)
    → over (at_case scope) xs (met_cases scope before met) ≡ met_cases scope (cases_from before xs) met
cases_over scope before [] met = refl
cases_over scope before (x ∷ xs) met = cases_over scope (and_case before (spot_view x.spot) (optional view x.value) x.end (list_view x.body)) xs met

pub catches_over : (scope : Scope) (before : Catches Note) (xs : List (Catch (Statement Note))) (met : Option Fault)
    → over (at_catch scope) xs (met_catches scope before met) ≡ met_catches scope (catches_from before xs) met
catches_over scope before [] met = refl
catches_over scope before (x ∷ xs) met = catches_over scope (and_catch before (names_view x.classes) (name_view x.variable) (list_view x.body)) xs met

-- ---- the names in `catch` parts

abbrev pub names_of : Bool → Catch (Statement Note) → Option Fault → Option Fault
names_of in_class c met = over (own.met_name in_class) (elements (names_view c.classes)) met

pub names_over : (in_class : Bool) (before : Catches Note) (xs : List (Catch (Statement Note))) (met : Option Fault)
    → over (names_of in_class) xs (own.met_catches in_class before met) ≡ own.met_catches in_class (catches_from before xs) met
names_over in_class before [] met = refl
names_over in_class before (x ∷ xs) met = names_over in_class (and_catch before (names_view x.classes) (name_view x.variable) (list_view x.body)) xs met
