-- Flat signatures, members and scripts, there and back.
use Rattle.std.proofs.Common.{◌≡◌, true, List, [], ◌∷◌, ◌++◌, Option, Some, None, refl, sym, ◌∙◌, ap}
use Rattle.php_ast.specs.declared.spot.Spot.{Spot}
use Rattle.php_ast.specs.declared.spot.Name as rust_name
use Rattle.php_ast.specs.declared.spot.Word.{Word}
use Rattle.php_ast.specs.declared.expression.Expr.{Expr}
use Rattle.php_ast.specs.declared.statement.Stmt.{Stmt}
use Rattle.php_ast.specs.declared.declaration.Type as rust_type
use Rattle.php_ast.specs.declared.declaration.BaseType.{BaseType}
use Rattle.php_ast.specs.declared.declaration.BaseType.TheVariants as base_type
use Rattle.php_ast.specs.declared.declaration.Param as rust_param
use Rattle.php_ast.specs.declared.declaration.Signature as rust_signature
use Rattle.php_ast.specs.declared.declaration.FunctionDecl.{FunctionDecl}
use Rattle.php_ast.specs.declared.declaration.ClassModifier.{ClassModifier}
use Rattle.php_ast.specs.declared.declaration.ClassDecl.{ClassDecl}
use Rattle.php_ast.specs.declared.declaration.InterfaceDecl.{InterfaceDecl}
use Rattle.php_ast.specs.declared.declaration.TraitDecl.{TraitDecl}
use Rattle.php_ast.specs.declared.declaration.ClassMember.{ClassMember}
use Rattle.php_ast.specs.declared.declaration.ClassMember.TheVariants as member_form
use Rattle.php_ast.specs.declared.declaration.Modifier as rust_modifier
use Rattle.php_ast.specs.declared.declaration.ClassConstant as rust_constant
use Rattle.php_ast.specs.declared.declaration.Method as rust_method
use Rattle.php_ast.specs.declared.declaration.Rule as rust_rule
use Rattle.php_ast.specs.declared.declaration.Rule.TheVariants as rule_form
use Rattle.php_ast.specs.declared.script.Script as rust_script
use Rattle.php_ast.specs.declared.script.ScriptItem.{ScriptItem}
use Rattle.php_ast.specs.declared.script.ScriptItem.TheVariants as script_item
use Rattle.php_ast.specs.expression.View.{Note, spot_view, word_view}
use Rattle.php_ast.specs.statement.Tree.{Name, no_statement, and_statement}
use Rattle.php_ast.specs.declaration.Tree.{Base, of_name, of_array, of_callable, Type_of, Param, Signature, Function, Modifier, ClassWord, ClassConstant, Method, Rule, renames, prefers, Member, uses, uses_by, class_constants, method, properties, Class, Interface, Trait, Item, of_statement, of_function, of_class, of_interface, of_trait, Script}
use Rattle.php_ast.specs.statement.View.{optional, name_view, names_view, statements_from, statement_view, statements_view, sequence}
use Rattle.php_ast.specs.declaration.View.{base_view, type_view, param_view, signature_view, function_view, modifier_view, class_word_view, class_constant_view, method_view, rule_view, uses_view, member_view, class_view, interface_view, trait_view, item_view, script_view}
use Rattle.php_build.proofs.Flats.{first_of, second_of}
use Rattle.php_flat.specs.Statements.{is_flat_statement, are_flat_statements, is_flat_list}
use Rattle.php_flat.specs.Declarations.{is_flat_param, is_flat_signature, is_flat_function, is_flat_class_constant, is_flat_method, is_flat_member, are_flat_members, is_flat_script_item, is_flat_script}
use Rattle.php_parse_expression_laws.proofs.Layers.{two_same}
use Rattle.php_parse_expression_laws.proofs.Unview.{spot_at, word_at}
use Rattle.php_parse_expression_laws.proofs.Parts.{word_back}
use Rattle.php_parse_expression_laws.proofs.Unique.{expression_back}
use Rattle.php_parse_script_laws.proofs.Unview.{expr_of, elements, name_of, variable_of, statement_of, statements_of}
use Rattle.php_parse_script_laws.proofs.Parts.{three_same, four_same, rows_back, sequence_back, each_back, optional_back, all_map, names_back, value_back, variables_back}
use Rattle.php_parse_script_laws.proofs.Nodes.{statement_back}

-- ---- back to the program's trees

abbrev base_of : Base Note → BaseType
base_of (of_name n) = base_type.Name (name_of n)
base_of of_array = base_type.Array
base_of of_callable = base_type.Callable

abbrev type_of : Type_of Note → rust_type.Type
type_of t = record { is_nullable = t.is_nullable; base = base_of t.base }

abbrev param_of : Param Note → rust_param.Param
param_of p = record {
  declared = optional type_of p.declared;
  is_reference = p.is_reference;
  is_variadic = p.is_variadic;
  name = name_of p.name;
  default = optional expr_of p.default;
}

abbrev pub signature_of : Signature Note → rust_signature.Signature
signature_of s = record { params = elements param_of s.params; result = optional type_of s.result }

abbrev function_of : Function Note → FunctionDecl
function_of f = record {
  spot = spot_at f.note;
  is_reference = f.is_reference;
  name = name_of f.name;
  signature = signature_of f.signature;
  body = statements_of f.body;
}

abbrev modifier_of : Modifier Note → rust_modifier.Modifier
modifier_of m = record { spot = spot_at m.note; word = m.word }

abbrev class_word_of : ClassWord Note → Spot × ClassModifier
class_word_of m = (spot_at m.note, m.word)

abbrev class_constant_of : ClassConstant Note → rust_constant.ClassConstant
class_constant_of c = record { name = word_at c.name; value = expr_of c.value }

abbrev method_of : Method Note → rust_method.Method
method_of m = record {
  modifiers = elements modifier_of m.modifiers;
  spot = spot_at m.note;
  is_reference = m.is_reference;
  name = word_at m.name;
  signature = signature_of m.signature;
  body = optional statements_of m.body;
}

abbrev rule_of : Rule Note → rust_rule.Rule
rule_of (renames n origin w seen alias) = rule_form.As (spot_at n) (optional name_of origin) (word_at w) seen (optional word_at alias)
rule_of (prefers n origin w others) = rule_form.InsteadOf (spot_at n) (name_of origin) (word_at w) (elements name_of others)

abbrev member_of : Member Note → ClassMember
member_of (uses n names) = member_form.Use (spot_at n) (elements name_of names) None
member_of (uses_by n names rules) = member_form.Use (spot_at n) (elements name_of names) (Some (elements rule_of rules))
member_of (class_constants modifiers items) = member_form.Const (elements modifier_of modifiers) (elements class_constant_of items)
member_of (method m) = member_form.Method (method_of m)
member_of (properties modifiers items) = member_form.Properties (elements modifier_of modifiers) (elements variable_of items)

abbrev class_of : Class Note → ClassDecl
class_of c = record {
  modifiers = elements class_word_of c.modifiers;
  spot = spot_at c.note;
  name = name_of c.name;
  parent = optional name_of c.parent;
  interfaces = elements name_of c.interfaces;
  members = elements member_of c.members;
}

abbrev interface_of : Interface Note → InterfaceDecl
interface_of i = record { spot = spot_at i.note; name = name_of i.name; parents = elements name_of i.parents; members = elements member_of i.members }

abbrev trait_of : Trait Note → TraitDecl
trait_of t = record { spot = spot_at t.note; name = name_of t.name; members = elements member_of t.members }

abbrev item_of : Item Note → ScriptItem
item_of (of_statement s) = script_item.Statement (statement_of s)
item_of (of_function f) = script_item.Function (function_of f)
item_of (of_class c) = script_item.Class (class_of c)
item_of (of_interface i) = script_item.Interface (interface_of i)
item_of (of_trait t) = script_item.Trait (trait_of t)

abbrev pub script_of : Script Note → rust_script.Script
script_of items = record { items = elements item_of items }

-- ---- signatures and functions

list_back : (ss : List Stmt) → are_flat_statements ss ≡ true → statements_of (statements_view ss) ≡ ss
list_back ss h =
    rows_back is_flat_statement statement_view statements_of and_statement statements_from (λ t. refl) (λ t x xs. refl) (λ t s p. ap (λ x. statements_of t ++ x ∷ []) (statement_back s p)) no_statement ss
    (sym (all_map (λ b. b) is_flat_statement ss) ∙ h)

body_back : (o : Option (List Stmt)) → is_flat_list o ≡ true → optional statements_of (optional statements_view o) ≡ o
body_back None h = refl
body_back (Some ss) h = ap Some (list_back ss h)

base_back : (b : BaseType) → base_of (base_view b) ≡ b
base_back (base_type.Name n) = refl
base_back base_type.Array = refl
base_back base_type.Callable = refl

type_back : (t : rust_type.Type) → type_of (type_view t) ≡ t
type_back t = ap (λ (b : BaseType). record { is_nullable = t.is_nullable; base = b }) (base_back t.base)

param_back : (p : rust_param.Param) → is_flat_param p ≡ true → param_of (param_view p) ≡ p
param_back p h =
    two_same (λ (d : Option rust_type.Type) (v : Option Expr). record { declared = d; is_reference = p.is_reference; is_variadic = p.is_variadic; name = p.name; default = v }) (optional_back type_of type_view type_back p.declared)
    (value_back p.default h)

pub signature_back : (s : rust_signature.Signature) → is_flat_signature s ≡ true → signature_of (signature_view s) ≡ s
signature_back s h =
    two_same (λ (ps : List rust_param.Param) (r : Option rust_type.Type). record { params = ps; result = r }) (sequence_back is_flat_param param_of param_view param_back s.params h)
    (optional_back type_of type_view type_back s.result)

function_back : (f : FunctionDecl) → is_flat_function f ≡ true → function_of (function_view f) ≡ f
function_back f h =
    let a = is_flat_signature f.signature in
    let b = are_flat_statements f.body in
    two_same (λ (s : rust_signature.Signature) (ss : List Stmt). record { spot = f.spot; is_reference = f.is_reference; name = f.name; signature = s; body = ss }) (signature_back f.signature (first_of a b h))
    (list_back f.body (second_of a b h))

-- ---- members

modifiers_back : (modifiers : List rust_modifier.Modifier) → elements modifier_of (sequence modifier_view modifiers) ≡ modifiers
modifiers_back = each_back modifier_of modifier_view (λ m. refl)

class_constant_back : (c : rust_constant.ClassConstant) → is_flat_class_constant c ≡ true → class_constant_of (class_constant_view c) ≡ c
class_constant_back c h = two_same (λ (w : Word) (e : Expr). record { name = w; value = e }) (word_back c.name) (expression_back c.value h)

method_back : (m : rust_method.Method) → is_flat_method m ≡ true → method_of (method_view m) ≡ m
method_back m h =
    let a = is_flat_signature m.signature in
    let b = is_flat_list m.body in
    four_same
    (λ (ms : List rust_modifier.Modifier) (w : Word) (s : rust_signature.Signature) (o : Option (List Stmt)). record { modifiers = ms; spot = m.spot; is_reference = m.is_reference; name = w; signature = s; body = o })
    (modifiers_back m.modifiers) (word_back m.name) (signature_back m.signature (first_of a b h)) (body_back m.body (second_of a b h))

rule_back : (r : rust_rule.Rule) → rule_of (rule_view r) ≡ r
rule_back (rule_form.As spot origin w seen alias) =
    three_same (λ x y z. rule_form.As spot x y seen z) (optional_back name_of name_view (λ n. refl) origin) (word_back w) (optional_back word_at word_view word_back alias)
rule_back (rule_form.InsteadOf spot origin w others) = two_same (λ x y. rule_form.InsteadOf spot origin x y) (word_back w) (names_back others)

uses_back : (spot : Spot) (names : List rust_name.Name) (rules : Option (List rust_rule.Rule)) → member_of (uses_view (spot_view spot) (names_view names) rules) ≡ member_form.Use spot names rules
uses_back spot names None = ap (λ x. member_form.Use spot x None) (names_back names)
uses_back spot names (Some rules) = two_same (λ x y. member_form.Use spot x (Some y)) (names_back names) (each_back rule_of rule_view rule_back rules)

member_back : (m : ClassMember) → is_flat_member m ≡ true → member_of (member_view m) ≡ m
member_back (member_form.Use spot names rules) h = uses_back spot names rules
member_back (member_form.Const modifiers items) h =
    two_same (λ x y. member_form.Const x y) (modifiers_back modifiers) (sequence_back is_flat_class_constant class_constant_of class_constant_view class_constant_back items h)
member_back (member_form.Method m) h = ap member_form.Method (method_back m h)
member_back (member_form.Properties modifiers items) h = two_same (λ x y. member_form.Properties x y) (modifiers_back modifiers) (variables_back items h)

members_back : (members : List ClassMember) → are_flat_members members ≡ true → elements member_of (sequence member_view members) ≡ members
members_back = sequence_back is_flat_member member_of member_view member_back

-- ---- scripts

class_back : (c : ClassDecl) → are_flat_members c.members ≡ true → class_of (class_view c) ≡ c
class_back c h =
    four_same
    (λ (ws : List (Spot × ClassModifier)) (p : Option rust_name.Name) (is : List rust_name.Name) (ms : List ClassMember). record {
      modifiers = ws;
      spot = c.spot;
      name = c.name;
      parent = p;
      interfaces = is;
      members = ms;
    })
    (each_back class_word_of class_word_view (λ w. refl) c.modifiers) (optional_back name_of name_view (λ n. refl) c.parent) (names_back c.interfaces) (members_back c.members h)

interface_back : (i : InterfaceDecl) → are_flat_members i.members ≡ true → interface_of (interface_view i) ≡ i
interface_back i h =
    two_same (λ (ps : List rust_name.Name) (ms : List ClassMember). record { spot = i.spot; name = i.name; parents = ps; members = ms }) (names_back i.parents) (members_back i.members h)

trait_back : (t : TraitDecl) → are_flat_members t.members ≡ true → trait_of (trait_view t) ≡ t
trait_back t h = ap (λ (ms : List ClassMember). record { spot = t.spot; name = t.name; members = ms }) (members_back t.members h)

item_back : (x : ScriptItem) → is_flat_script_item x ≡ true → item_of (item_view x) ≡ x
item_back (script_item.Statement s) h = ap script_item.Statement (statement_back s h)
item_back (script_item.Function f) h = ap script_item.Function (function_back f h)
item_back (script_item.Class c) h = ap script_item.Class (class_back c h)
item_back (script_item.Interface i) h = ap script_item.Interface (interface_back i h)
item_back (script_item.Trait t) h = ap script_item.Trait (trait_back t h)

pub script_back : (s : rust_script.Script) → is_flat_script s ≡ true → script_of (script_view s) ≡ s
script_back s h = ap (λ (items : List ScriptItem). record { items = items }) (sequence_back is_flat_script_item item_of item_view item_back s.items h)
