-- The trees that declarations and scripts of the program stand for.
use Rattle.std.specs.Prelude.{List, Option, Some, None}
use Rattle.php_ast.specs.declared.spot.Spot.{Spot}
use Rattle.php_ast.specs.declared.declaration.Type as rust_type
use Rattle.php_ast.specs.declared.declaration.BaseType.{BaseType}
use Rattle.php_ast.specs.declared.declaration.BaseType.TheVariants as base_type
use Rattle.php_ast.specs.declared.declaration.Param as rust_param
use Rattle.php_ast.specs.declared.declaration.Signature as rust_signature
use Rattle.php_ast.specs.declared.declaration.FunctionDecl.{FunctionDecl}
use Rattle.php_ast.specs.declared.declaration.ClassModifier.{ClassModifier}
use Rattle.php_ast.specs.declared.declaration.ClassDecl.{ClassDecl}
use Rattle.php_ast.specs.declared.declaration.InterfaceDecl.{InterfaceDecl}
use Rattle.php_ast.specs.declared.declaration.TraitDecl.{TraitDecl}
use Rattle.php_ast.specs.declared.declaration.ClassMember.{ClassMember}
use Rattle.php_ast.specs.declared.declaration.ClassMember.TheVariants as member_form
use Rattle.php_ast.specs.declared.declaration.Modifier as rust_modifier
use Rattle.php_ast.specs.declared.declaration.ClassConstant as rust_constant
use Rattle.php_ast.specs.declared.declaration.Method as rust_method
use Rattle.php_ast.specs.declared.declaration.Rule as rust_rule
use Rattle.php_ast.specs.declared.declaration.Rule.TheVariants as rule_form
use Rattle.php_ast.specs.declared.script.Script as rust_script
use Rattle.php_ast.specs.declared.script.ScriptItem.{ScriptItem}
use Rattle.php_ast.specs.declared.script.ScriptItem.TheVariants as script_item
use Rattle.php_ast.specs.expression.View.{Note, spot_view, word_view, view}
use Rattle.php_ast.specs.statement.Tree.{Sequence, Name}
use Rattle.php_ast.specs.declaration.Tree.{Base, of_name, of_array, of_callable, Type_of, Param, Signature, Function, Modifier, ClassWord, ClassConstant, Method, Rule, renames, prefers, Member, uses, uses_by, class_constants, method, properties, Class, Interface, Trait, Item, of_statement, of_function, of_class, of_interface, of_trait, Script}
use Rattle.php_ast.specs.statement.View.{sequence, optional, name_view, names_view, variable_view, statement_view, statements_view}

abbrev pub base_view : BaseType → Base Note
base_view (base_type.Name n) = of_name (name_view n)
base_view base_type.Array = of_array
base_view base_type.Callable = of_callable

abbrev pub type_view : rust_type.Type → Type_of Note
type_view t = record { is_nullable = t.is_nullable; base = base_view t.base }

abbrev pub param_view : rust_param.Param → Param Note
param_view p = record {
  declared = optional type_view p.declared;
  is_reference = p.is_reference;
  is_variadic = p.is_variadic;
  name = name_view p.name;
  default = optional view p.default;
}

abbrev pub signature_view : rust_signature.Signature → Signature Note
signature_view s = record { params = sequence param_view s.params; result = optional type_view s.result }

abbrev pub function_view : FunctionDecl → Function Note
function_view f = record {
  note = spot_view f.spot;
  is_reference = f.is_reference;
  name = name_view f.name;
  signature = signature_view f.signature;
  body = statements_view f.body;
}

abbrev pub modifier_view : rust_modifier.Modifier → Modifier Note
modifier_view m = record { note = spot_view m.spot; word = m.word }

abbrev pub class_word_view : Spot × ClassModifier → ClassWord Note
class_word_view m = record { note = spot_view m.0; word = m.1 }

abbrev pub class_constant_view : rust_constant.ClassConstant → ClassConstant Note
class_constant_view c = record { name = word_view c.name; value = view c.value }

abbrev pub method_view : rust_method.Method → Method Note
method_view m = record {
  modifiers = sequence modifier_view m.modifiers;
  note = spot_view m.spot;
  is_reference = m.is_reference;
  name = word_view m.name;
  signature = signature_view m.signature;
  body = optional statements_view m.body;
}

abbrev pub rule_view : rust_rule.Rule → Rule Note
rule_view (rule_form.As spot origin w seen alias) = renames (spot_view spot) (optional name_view origin) (word_view w) seen (optional word_view alias)
rule_view (rule_form.InsteadOf spot origin w others) = prefers (spot_view spot) (name_view origin) (word_view w) (names_view others)

abbrev pub uses_view : Note → Sequence (Name Note) → Option (List rust_rule.Rule) → Member Note
uses_view at names None = uses at names
uses_view at names (Some rules) = uses_by at names (sequence rule_view rules)

abbrev pub member_view : ClassMember → Member Note
member_view (member_form.Use spot names rules) = uses_view (spot_view spot) (names_view names) rules
member_view (member_form.Const modifiers items) = class_constants (sequence modifier_view modifiers) (sequence class_constant_view items)
member_view (member_form.Method m) = method (method_view m)
member_view (member_form.Properties modifiers items) = properties (sequence modifier_view modifiers) (sequence variable_view items)

abbrev pub class_view : ClassDecl → Class Note
class_view c = record {
  modifiers = sequence class_word_view c.modifiers;
  note = spot_view c.spot;
  name = name_view c.name;
  parent = optional name_view c.parent;
  interfaces = names_view c.interfaces;
  members = sequence member_view c.members;
}

abbrev pub interface_view : InterfaceDecl → Interface Note
interface_view i = record {
  note = spot_view i.spot;
  name = name_view i.name;
  parents = names_view i.parents;
  members = sequence member_view i.members;
}

abbrev pub trait_view : TraitDecl → Trait Note
trait_view t = record { note = spot_view t.spot; name = name_view t.name; members = sequence member_view t.members }

abbrev pub item_view : ScriptItem → Item Note
item_view (script_item.Statement s) = of_statement (statement_view s)
item_view (script_item.Function f) = of_function (function_view f)
item_view (script_item.Class c) = of_class (class_view c)
item_view (script_item.Interface i) = of_interface (interface_view i)
item_view (script_item.Trait t) = of_trait (trait_view t)

abbrev pub script_view : rust_script.Script → Script Note
script_view s = sequence item_view s.items
