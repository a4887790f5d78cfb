-- The expressions of a statement, as lists of the program have them.
use Rattle.std.proofs.Common.{◌≡◌, Option, Some, None, List, [], ◌∷◌, ◌++◌, map, flat_map, refl, sym, ◌∙◌, ap}
use Rattle.php_ast.specs.declared.expression.Expr.{Expr}
use Rattle.php_ast.specs.declared.statement.Stmt.{Stmt}
use Rattle.php_ast.specs.declared.statement.ElseIf.{ElseIf}
use Rattle.php_ast.specs.declared.statement.Case.{Case}
use Rattle.php_ast.specs.expression.Tree.{Tree, Items, none, and, plain}
use Rattle.php_ast.specs.expression.View.{Note, spot_view, values_from, view}
use Rattle.php_ast.specs.statement.Tree.{Sequence, Variable, Constant, Statement, ElseIfs, no_elseif, and_elseif, ElseIfLists, no_elseif_list, and_elseif_list, Cases, no_case, and_case}
use Rattle.php_ast.specs.statement.View.{optional, list_view, elseifs_from, elseif_lists_from, cases_from}
use Rattle.php_legality.specs.declared.fault.Fault.{Fault}
use Rattle.php_legality.specs.declared.scope.Scope.{Scope}
use Rattle.php_legality.specs.Lists.{elements, where_some}
use Rattle.php_legality.specs.Expressions.{Use, Used, used, valued}
use Rattle.php_legality.specs.Statements.{values, as_values, first_values, constant_values, elseif_tests, elseif_list_tests, labels}
use Rattle.php_legality.proofs.HasLemmas.{map_flat_map}
use Rattle.php_places.specs.Over.{over}
use Rattle.php_places.specs.Met.{met_used}
use Rattle.php_bodies.specs.Own.{met_any, met_optional, met_variable, met_constant_item, met_constant, met_optional_constant, met_first_value, met_constant_value}
use Rattle.php_ast.specs.statement.Parts.{elseif_with, elseif_list_with, case_with}
use Rattle.php_bodies.proofs.OverLemmas.{over_joined, over_map, over_flat}

-- ---- values

pub values_met : (scope : Scope) (u : Use) (before : Items Note) (es : List (Tree Note)) (met : Option Fault)
    → over (met_used scope u) es (over (met_any scope) (values u before) met) ≡ over (met_any scope) (values u (values_from before es)) met
values_met scope u before [] met = refl
values_met scope u before (e ∷ es) met =
    ap (over (met_used scope u) es) (sym (over_joined (met_any scope) (values u before) (used u e ∷ []) met)) ∙ values_met scope u (and before plain e) es met

-- ---- variables and constants

optional_any : (scope : Scope) (v : Option (Tree Note)) (met : Option Fault) → met_optional scope v met ≡ over (met_any scope) (as_values (where_some (λ e. e ∷ []) v)) met
optional_any scope None met = refl
optional_any scope (Some e) met = refl

-- the values that some elements have
pub optional_values : {A : Type 0} (scope : Scope) (value : A → Option (Tree Note)) (xs : List A) (met : Option Fault)
    → over (λ x m. met_optional scope (value x) m) xs met ≡ over (met_any scope) (as_values (flat_map (λ x. where_some (λ e. e ∷ []) (value x)) xs)) met
optional_values scope value xs met =
    over_flat (met_any scope) (λ x m. met_optional scope (value x) m) (λ x. as_values (where_some (λ e. e ∷ []) (value x))) (λ x m. optional_any scope (value x) m) xs met
    ∙ ap (λ es. over (met_any scope) es met) (sym (map_flat_map (used valued) (λ x. where_some (λ e. e ∷ []) (value x)) xs))

pub variables_met : (scope : Scope) (xs : Sequence (Variable Note)) (met : Option Fault) → over (met_variable scope) (elements xs) met ≡ over (met_any scope) (as_values (first_values xs)) met
variables_met scope xs met = optional_values scope (λ x. x.value) (elements xs) met

optional_constant : (v : Option (Tree Note)) (met : Option Fault) → met_optional_constant v met ≡ over met_constant (where_some (λ e. e ∷ []) v) met
optional_constant None met = refl
optional_constant (Some e) met = refl

pub optional_constants : {A : Type 0} (value : A → Option (Tree Note)) (xs : List A) (met : Option Fault)
    → over (λ x m. met_optional_constant (value x) m) xs met ≡ over met_constant (flat_map (λ x. where_some (λ e. e ∷ []) (value x)) xs) met
optional_constants value xs met =
    over_flat met_constant (λ x m. met_optional_constant (value x) m) (λ x. where_some (λ e. e ∷ []) (value x)) (λ x m. optional_constant (value x) m) xs met

pub variables_constant : (xs : Sequence (Variable Note)) (met : Option Fault) → over met_first_value (elements xs) met ≡ over met_constant (first_values xs) met
variables_constant xs met = optional_constants (λ x. x.value) (elements xs) met

pub constants_met : (scope : Scope) (xs : Sequence (Constant Note)) (met : Option Fault) → over (met_constant_item scope) (elements xs) met ≡ over (met_any scope) (as_values (constant_values xs)) met
constants_met scope xs met =
    sym (over_map (λ e m. met_any scope (used valued e) m) (λ x. x.value) (elements xs) met) ∙ sym (over_map (met_any scope) (used valued) (map (λ x. x.value) (elements xs)) met)

pub constants_constant : (xs : Sequence (Constant Note)) (met : Option Fault) → over met_constant_value (elements xs) met ≡ over met_constant (constant_values xs) met
constants_constant xs met = sym (over_map met_constant (λ x. x.value) (elements xs) met)

-- ---- parts of statements

abbrev pub at_test : {B : Type 0} → Scope → ElseIf B → Option Fault → Option Fault
at_test scope p met = met_any scope (used valued (view p.test)) met

abbrev pub at_label : Scope → Case (Statement Note) → Option Fault → Option Fault
at_label scope c met = met_optional scope (optional view c.value) met

pub tests_over : (scope : Scope) (before : ElseIfs Note) (ps : List (ElseIf (Statement Note))) (met : Option Fault)
    → over (at_test scope) ps (over (met_any scope) (elseif_tests before) met) ≡ over (met_any scope) (elseif_tests (elseifs_from before ps)) met
tests_over scope before [] met = refl
tests_over scope before (p ∷ ps) met =
    ap (over (at_test scope) ps) (sym (over_joined (met_any scope) (elseif_tests before) (used valued (view p.test) ∷ []) met))
    ∙ tests_over scope (and_elseif before (view p.test) p.body) ps met

pub list_tests_over : (scope : Scope) (before : ElseIfLists Note) (ps : List (ElseIf (List (Statement Note)))) (met : Option Fault)
    → over (at_test scope) ps (over (met_any scope) (elseif_list_tests before) met) ≡ over (met_any scope) (elseif_list_tests (elseif_lists_from before ps)) met
list_tests_over scope before [] met = refl
list_tests_over scope before (p ∷ ps) met =
    ap (over (at_test scope) ps) (sym (over_joined (met_any scope) (elseif_list_tests before) (used valued (view p.test) ∷ []) met))
    ∙ list_tests_over scope (and_elseif_list before (view p.test) (list_view p.body)) ps met

label_any : (scope : Scope) (v : Option (Tree Note)) (met : Option Fault) → met_optional scope v met ≡ over (met_any scope) (where_some (λ e. used valued e ∷ []) v) met
label_any scope None met = refl
label_any scope (Some e) met = refl

pub labels_over : (scope : Scope) (before : Cases Note) (cs : List (Case (Statement Note))) (met : Option Fault)
    → over (at_label scope) cs (over (met_any scope) (labels before) met) ≡ over (met_any scope) (labels (cases_from before cs)) met
labels_over scope before [] met = refl
labels_over scope before (c ∷ cs) met =
    ap (over (at_label scope) cs)
    (label_any scope (optional view c.value) (over (met_any scope) (labels before) met)
    ∙ sym (over_joined (met_any scope) (labels before) (where_some (λ e. used valued e ∷ []) (optional view c.value)) met))
    ∙ labels_over scope (and_case before (spot_view c.spot) (optional view c.value) c.end (list_view c.body)) cs met
