-- The views of statements whose parts are lists.
use Rattle.std.proofs.Common.{◌≡◌, Option, Some, None, List, ◌++◌, map, refl, sym, ◌∙◌, ap}
use Rattle.php_ast.specs.declared.spot.Spot.{Spot}
use Rattle.php_ast.specs.declared.statement.VariableItem.{VariableItem}
use Rattle.php_ast.specs.declared.statement.ConstantItem.{ConstantItem}
use Rattle.php_ast.specs.declared.statement.ForHead.{ForHead}
use Rattle.php_ast.specs.declared.statement.Body.{Body}
use Rattle.php_ast.specs.declared.statement.Stmt.{Stmt}
use Rattle.php_ast.specs.declared.statement.Stmt.TheVariants.{Static, Const, For, rolls-Static, rolls-Const, rolls-For}
use Rattle.php_ast.specs.declared.statement.Stmt.TheOpen.{Stmt-F}
use Rattle.php_ast.specs.declared.statement.Stmt.TheFolds.{fold-roll-Stmt}
use Rattle.php_ast.specs.expression.View.{Note, spot_view}
use Rattle.php_ast.specs.statement.Tree.{Statement, statics, constants}
use Rattle.php_ast.specs.statement.View.{sequence, values_view, variable_view, constant_view, statement_view, statement_step}
use Rattle.php_legality.specs.declared.fault.Fault.{Fault}
use Rattle.php_legality.specs.declared.scope.Scope.{Scope}
use Rattle.php_legality.specs.Lists.{elements}
use Rattle.php_legality.specs.Expressions.{valued}
use Rattle.php_legality.specs.Statements.{own, own_constants, values}
use Rattle.php_places.specs.Over.{over}
use Rattle.php_bodies.specs.Own.{met_any, met_variable, met_constant_item, met_for, met_constant, met_first_value, met_constant_value}
use Rattle.php_bodies.proofs.OverLemmas.{over_joined}
use Rattle.php_bodies.proofs.OwnLemmas.{variables_met, variables_constant, constants_met, constants_constant}

view_static : (spot : Spot) (xs : List VariableItem) → statement_view (Static spot xs) ≡ statics (spot_view spot) (sequence variable_view xs)
view_static spot xs = ap statement_view (sym (rolls-Static spot xs)) ∙ fold-roll-Stmt (Statement Note) statement_step (Stmt-F.Static spot xs)

view_const : (spot : Spot) (xs : List ConstantItem) → statement_view (Const spot xs) ≡ constants (spot_view spot) (sequence constant_view xs)
view_const spot xs = ap statement_view (sym (rolls-Const spot xs)) ∙ fold-roll-Stmt (Statement Note) statement_step (Stmt-F.Const spot xs)

own_for : (spot : Spot) (head : ForHead) (body : Body Stmt) → own (statement_view (For spot head body)) ≡ ((values valued (values_view head.starts) ++ values valued (values_view head.tests)) ++ values valued (values_view head.steps))
own_for spot head body = ap (λ s. own s) (ap statement_view (sym (rolls-For spot head body)) ∙ fold-roll-Stmt (Statement Note) statement_step (Stmt-F.For spot head body))

pub walked_static : (scope : Scope) (spot : Spot) (xs : List VariableItem) (met : Option Fault)
    → over (met_variable scope) (elements (sequence variable_view xs)) met ≡ over (met_any scope) (own (statement_view (Static spot xs))) met
walked_static scope spot xs met = variables_met scope (sequence variable_view xs) met ∙ ap (λ s. over (met_any scope) (own s) met) (sym (view_static spot xs))

pub walked_const : (scope : Scope) (spot : Spot) (xs : List ConstantItem) (met : Option Fault)
    → over (met_constant_item scope) (elements (sequence constant_view xs)) met ≡ over (met_any scope) (own (statement_view (Const spot xs))) met
walked_const scope spot xs met = constants_met scope (sequence constant_view xs) met ∙ ap (λ s. over (met_any scope) (own s) met) (sym (view_const spot xs))

pub walked_for : (scope : Scope) (spot : Spot) (head : ForHead) (body : Body Stmt) (met : Option Fault)
    → met_for scope (values_view head.starts) (values_view head.tests) (values_view head.steps) met ≡ over (met_any scope) (own (statement_view (For spot head body))) met
walked_for scope spot head body met =
    sym (over_joined (met_any scope) (values valued (values_view head.starts) ++ values valued (values_view head.tests)) (values valued (values_view head.steps)) met
    ∙ ap (over (met_any scope) (values valued (values_view head.steps))) (over_joined (met_any scope) (values valued (values_view head.starts)) (values valued (values_view head.tests)) met))
    ∙ ap (λ es. over (met_any scope) es met) (sym (own_for spot head body))

pub checked_static : (spot : Spot) (xs : List VariableItem) (met : Option Fault)
    → over met_first_value (elements (sequence variable_view xs)) met ≡ over met_constant (own_constants (statement_view (Static spot xs))) met
checked_static spot xs met = variables_constant (sequence variable_view xs) met ∙ ap (λ s. over met_constant (own_constants s) met) (sym (view_static spot xs))

pub checked_const : (spot : Spot) (xs : List ConstantItem) (met : Option Fault)
    → over met_constant_value (elements (sequence constant_view xs)) met ≡ over met_constant (own_constants (statement_view (Const spot xs))) met
checked_const spot xs met = constants_constant (sequence constant_view xs) met ∙ ap (λ s. over met_constant (own_constants s) met) (sym (view_const spot xs))
