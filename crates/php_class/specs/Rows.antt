-- What the table keeps of each class, interface and trait: the built-in ones first, then those of the flat script in source
-- order. A class is known by its number, its place in this list.
use Rattle.std.specs.Prelude.{◌≡◌, ℕ, suc, zero, Bool, true, false, Option, Some, None, List, [], ◌∷◌, ◌++◌, cond, map, not, length, codes}
use Rattle.std.specs.Str.{bytes_eq}
use Rattle.php_ast.specs.declared.spot.Spot.{Spot}
use Rattle.php_ast.specs.declared.declaration.ClassModifier.{ClassModifier}
use Rattle.php_ast.specs.declared.declaration.ClassModifier.TheVariants as class_word
use Rattle.php_ast.specs.declared.declaration.ModifierWord.{ModifierWord}
use Rattle.php_ast.specs.declared.declaration.ModifierWord.TheVariants as word
use Rattle.php_ast.specs.declared.declaration.Visibility.{Visibility}
use Rattle.php_ast.specs.declared.declaration.Visibility.TheVariants.{Public, Protected, Private}
use Rattle.php_ast.specs.expression.Tree.{Tree}
use Rattle.php_ast.specs.expression.View.{Note}
use Rattle.php_ast.specs.statement.Tree.{Name, Statements}
use Rattle.php_ast.specs.declaration.Tree.{Base, of_name, of_array, of_callable, Type_of, Param, Signature, Modifier, Method}
use Rattle.php_trait.specs.Declared.{Text, elements, joined, kept, any, first_that, one_or_none, same_name, member_text, member_spot, name_spot, Kind, of_a_class, of_an_interface, of_a_trait, Declared, declarations}
use Rattle.php_trait.specs.Members.{Held, Property, Fixed, Flat, flat}

-- ---- types and parameters, as far as overriding compares them

-- Names of types count in any letter case; `self` is a name as any other here.
pub data TypeName : Type 0 where
  a_name : Text → TypeName
  an_array : TypeName
  a_callable : TypeName

pub record TypeMark : Type 0 where
  pub is_nullable : Bool
  pub base : TypeName

pub record ParamMark : Type 0 where
  pub declared : Option TypeMark
  pub is_reference : Bool
  -- a parameter with a default, and a variadic one, may be left out
  pub is_required : Bool

pub record SignatureMark : Type 0 where
  pub is_reference : Bool
  pub params : List ParamMark
  pub result : Option TypeMark

-- ---- members

pub record MethodRow : Type 0 where
  pub name : Text
  -- of its name in the script; none of a built-in one
  pub spot : Option Spot
  pub seen : Visibility
  pub is_static : Bool
  pub is_abstract : Bool
  pub is_final : Bool
  pub signature : SignatureMark

pub record PropertyRow : Type 0 where
  pub name : Text
  pub spot : Option Spot
  pub seen : Visibility
  pub is_static : Bool

pub record ConstantRow : Type 0 where
  pub name : Text
  pub spot : Spot
  pub seen : Visibility

-- a name behind `extends` or `implements`; of a built-in class it stands nowhere
pub record Above : Type 0 where
  pub name : Text
  pub spot : Option Spot

pub record Row : Type 0 where
  pub kind : Kind
  pub name : Text
  pub spot : Option Spot
  pub is_abstract : Bool
  pub is_final : Bool
  -- of a class at most one; of an interface those that it extends
  pub parents : List Above
  pub interfaces : List Above
  pub methods : List MethodRow
  pub properties : List PropertyRow
  pub constants : List ConstantRow

-- ---- rows of the script

abbrev pub type_name : Base Note → TypeName
type_name (of_name n) = a_name n.text
type_name of_array = an_array
type_name of_callable = a_callable

abbrev pub type_mark : Option (Type_of Note) → Option TypeMark
type_mark None = None
type_mark (Some t) = Some (record { is_nullable = t.is_nullable; base = type_name t.base })

abbrev pub has_none : {A : Type 0} → Option A → Bool
has_none None = true
has_none (Some x) = false

abbrev pub param_mark : Param Note → ParamMark
param_mark p = record {
  declared = type_mark p.declared;
  is_reference = p.is_reference;
  is_required = cond p.is_variadic false (has_none p.default);
}

abbrev pub signature_mark : Method Note → SignatureMark
signature_mark m = record {
  is_reference = m.is_reference;
  params = map param_mark (elements m.signature.params);
  result = type_mark m.signature.result;
}

abbrev pub is_word : ModifierWord → ModifierWord → Bool
is_word word.Static word.Static = true
is_word word.Abstract word.Abstract = true
is_word word.Final word.Final = true
is_word _ _ = false

abbrev pub has_word : ModifierWord → Method Note → Bool
has_word w m = any (λ x. is_word w x.word) (elements m.modifiers)

abbrev pub is_interface : Kind → Bool
is_interface of_a_class = false
is_interface of_an_interface = true
is_interface of_a_trait = false

-- A method without a body is abstract, and so is each of an interface, also one that comes to it through a trait. What an
-- interface has is public, whatever word stands before it.
abbrev pub method_row : Kind → Held → MethodRow
method_row kind h = record {
  name = h.name;
  spot = Some h.spot;
  seen = cond (is_interface kind) Public h.seen;
  is_static = has_word word.Static h.method;
  is_abstract = cond (is_interface kind) true (has_none h.method.body);
  is_final = has_word word.Final h.method;
  signature = signature_mark h.method;
}

abbrev pub property_row : Property → PropertyRow
property_row p = record { name = p.variable.name.text; spot = Some (name_spot p.variable.name); seen = p.seen; is_static = p.is_static }

abbrev pub constant_row : Fixed → ConstantRow
constant_row c = record { name = member_text c.constant.name; spot = member_spot c.constant.name; seen = c.seen }

abbrev pub is_class_word : ClassModifier → ClassModifier → Bool
is_class_word class_word.Abstract class_word.Abstract = true
is_class_word class_word.Final class_word.Final = true
is_class_word _ _ = false

abbrev pub above : Name Note → Above
above n = record { name = n.text; spot = Some (name_spot n) }

abbrev pub row : Flat → Row
row f = record {
  kind = f.declared.kind;
  name = f.declared.name.text;
  spot = Some (name_spot f.declared.name);
  is_abstract = any (λ w. is_class_word class_word.Abstract w.word) f.declared.words;
  is_final = any (λ w. is_class_word class_word.Final w.word) f.declared.words;
  parents = map above f.declared.parents;
  interfaces = map above f.declared.interfaces;
  methods = map (method_row f.declared.kind) f.methods;
  properties = map property_row f.properties;
  constants = map constant_row f.constants;
}

-- ---- built-in rows

abbrev pub plain_param : Bool → ParamMark
plain_param required = record { declared = None; is_reference = false; is_required = required }

abbrev pub built_in_method : Text → Bool → List ParamMark → MethodRow
built_in_method name is_final params = record {
  name = name;
  spot = None;
  seen = Public;
  is_static = false;
  is_abstract = false;
  is_final = is_final;
  signature = record { is_reference = false; params = params; result = None };
}

abbrev pub built_in_property : Text → Visibility → PropertyRow
built_in_property name seen = record { name = name; spot = None; seen = seen; is_static = false }

abbrev pub extends_built_in : Text → List Above
extends_built_in name = record { name = name; spot = None } ∷ []

abbrev pub built_in_interface : Text → Row
built_in_interface name = record {
  kind = of_an_interface;
  name = name;
  spot = None;
  is_abstract = false;
  is_final = false;
  parents = [];
  interfaces = [];
  methods = [];
  properties = [];
  constants = [];
}

abbrev pub built_in_class : Text → Bool → List Above → List Above → List MethodRow → List PropertyRow → Row
built_in_class name is_final parents interfaces methods properties = record {
  kind = of_a_class;
  name = name;
  spot = None;
  is_abstract = false;
  is_final = is_final;
  parents = parents;
  interfaces = interfaces;
  methods = methods;
  properties = properties;
  constants = [];
}

-- What Exception and Error have: the constructor may be called with no argument, the questions are final.
abbrev pub throwable_methods : List MethodRow
throwable_methods =
    built_in_method (codes "__construct") false (plain_param false ∷ plain_param false ∷ plain_param false ∷ [])
    ∷ built_in_method (codes "getMessage") true []
    ∷ built_in_method (codes "getCode") true []
    ∷ built_in_method (codes "getPrevious") true []
    ∷ built_in_method (codes "getLine") true []
    ∷ built_in_method (codes "__toString") false []
    ∷ []

abbrev pub throwable_properties : List PropertyRow
throwable_properties =
    built_in_property (codes "message") Protected ∷ built_in_property (codes "code") Protected
    ∷ built_in_property (codes "line") Protected ∷ built_in_property (codes "previous") Private ∷ []

-- what a Generator is asked and told
abbrev pub generator_methods : List MethodRow
generator_methods =
    built_in_method (codes "current") false []
    ∷ built_in_method (codes "key") false []
    ∷ built_in_method (codes "next") false []
    ∷ built_in_method (codes "send") false (plain_param true ∷ [])
    ∷ built_in_method (codes "throw") false (plain_param true ∷ [])
    ∷ built_in_method (codes "valid") false []
    ∷ built_in_method (codes "rewind") false []
    ∷ built_in_method (codes "getReturn") false []
    ∷ []

abbrev pub built_in : List Row
built_in =
    built_in_interface (codes "Traversable")
    ∷ built_in_interface (codes "Throwable")
    ∷ built_in_class (codes "Exception") false [] (extends_built_in (codes "Throwable")) throwable_methods throwable_properties
    ∷ built_in_class (codes "Error") false [] (extends_built_in (codes "Throwable")) throwable_methods throwable_properties
    ∷ built_in_class (codes "ArithmeticError") false (extends_built_in (codes "Error")) [] [] []
    ∷ built_in_class (codes "TypeError") false (extends_built_in (codes "Error")) [] [] []
    ∷ built_in_class (codes "DivisionByZeroError") false (extends_built_in (codes "ArithmeticError")) [] [] []
    ∷ built_in_class (codes "ArgumentCountError") false (extends_built_in (codes "TypeError")) [] [] []
    ∷ built_in_class (codes "Generator") true [] (extends_built_in (codes "Traversable")) generator_methods []
    ∷ []

-- the table of a flat script
abbrev pub table : List Flat → List Row
table fs = built_in ++ map row fs
