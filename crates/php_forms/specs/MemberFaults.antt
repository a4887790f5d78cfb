-- The first fault of a member, behind those met so far, and its faults.
use Rattle.std.specs.Prelude.{Bool, true, false, Option, Some, None, List, [], ◌++◌, map, flat_map}
use Rattle.php_ast.specs.expression.View.{Note}
use Rattle.php_ast.specs.statement.Tree.{Variable}
use Rattle.php_ast.specs.declaration.Tree.{ClassConstant, Method, Rule, renames, Member, uses_by, class_constants, method, properties}
use Rattle.php_legality.specs.declared.kind.Kind.TheVariants as kind
use Rattle.php_legality.specs.declared.fault.Fault.{Fault}
use Rattle.php_legality.specs.Lists.{elements, where_true}
use Rattle.php_legality.specs.First.{fault_at}
use Rattle.php_legality.specs.Expressions.{used, valued}
use Rattle.php_legality.specs.Statements.{as_values}
use Rattle.php_legality.specs.Declarations.{Owner, of_a_class, of_an_interface, class_scope, methods_of, properties_of, member_values, member_note}
use Rattle.php_legality.specs.Rows as rows
use Rattle.php_places.specs.Over.{over}
use Rattle.php_places.specs.Met.{where_bad}
use Rattle.php_bodies.specs.Own.{met_any, met_variable, met_constant, met_first_value}
use Rattle.php_bodies.specs.Sites.{expression_faults, constant_faults}
use Rattle.php_forms.specs.Modifiers.{met_modifiers}

abbrev pub met_class_constant : ClassConstant Note → Option Fault → Option Fault
met_class_constant x met = met_any class_scope (used valued x.value) met

abbrev pub met_constant_value : ClassConstant Note → Option Fault → Option Fault
met_constant_value x met = met_constant x.value met

abbrev pub met_values : Member Note → Option Fault → Option Fault
met_values (properties modifiers variables) met = over (met_variable class_scope) (elements variables) met
met_values (class_constants modifiers items) met = over met_class_constant (elements items) met
met_values _ met = met

abbrev pub met_constants : Member Note → Option Fault → Option Fault
met_constants (properties modifiers variables) met = over met_first_value (elements variables) met
met_constants (class_constants modifiers items) met = over met_constant_value (elements items) met
met_constants _ met = met

abbrev pub has_body : Method Note → Bool
has_body m = rows.has m.body

abbrev pub owner_of : Bool → Owner
owner_of true = of_an_interface
owner_of false = of_a_class

abbrev pub met_body : Owner → Member Note → Option Fault → Option Fault
met_body owner (method m) met = where_bad (rows.is_bad_body owner m) kind.BadUse (member_note m.name) met
met_body owner _ met = met

abbrev pub met_member_modifiers : Member Note → Option Fault → Option Fault
met_member_modifiers (class_constants modifiers items) met = met_modifiers (elements modifiers) met
met_member_modifiers (method m) met = met_modifiers (elements m.modifiers) met
met_member_modifiers (properties modifiers variables) met = met_modifiers (elements modifiers) met
met_member_modifiers _ met = met

abbrev pub met_property : Variable Note → Option Fault → Option Fault
met_property x met = where_bad true kind.BadUse x.name.note met

abbrev pub met_own_properties : Member Note → Option Fault → Option Fault
met_own_properties (properties modifiers variables) met = over met_property (elements variables) met
met_own_properties _ met = met

abbrev pub met_properties : Owner → Member Note → Option Fault → Option Fault
met_properties of_an_interface member met = met_own_properties member met
met_properties of_a_class member met = met

abbrev pub met_rule : Rule Note → Option Fault → Option Fault
met_rule (renames at origin name None None) met = where_bad true kind.BadUse at met
met_rule _ met = met

abbrev pub met_rules : Member Note → Option Fault → Option Fault
met_rules (uses_by at names rules) met = over met_rule (elements rules) met
met_rules _ met = met

unfoldable pub met_member : Owner → Member Note → Option Fault → Option Fault
met_member owner member met = met_rules member (met_properties owner member (met_member_modifiers member (met_body owner member (met_constants member (met_values member met)))))

-- ---- its faults

abbrev pub bodies_in : Owner → Member Note → List Note
bodies_in owner member = flat_map (λ m. where_true (rows.is_bad_body owner m) (member_note m.name)) (methods_of member)

abbrev pub modifiers_in : Owner → Member Note → List Note
modifiers_in owner member = rows.clashing (rows.modifiers_of member)

abbrev pub properties_in : Owner → Member Note → List Note
properties_in of_a_class member = []
properties_in of_an_interface member = map (λ x. x.name.note) (properties_of member)

abbrev pub rules_in : Owner → Member Note → List Note
rules_in owner member = flat_map rows.empty_rule (rows.rules_of member)

abbrev pub words_in : Owner → Member Note → List Note
words_in owner member = bodies_in owner member ++ (modifiers_in owner member ++ (properties_in owner member ++ rules_in owner member))

abbrev pub values_in : Owner → Member Note → List Fault
values_in owner member = expression_faults class_scope (as_values (member_values member))

abbrev pub constants_in : Owner → Member Note → List Fault
constants_in owner member = flat_map constant_faults (member_values member)

abbrev pub member_faults : Owner → Member Note → List Fault
member_faults owner member = values_in owner member ++ (constants_in owner member ++ map (fault_at kind.BadUse) (words_in owner member))
