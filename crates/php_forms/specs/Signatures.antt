-- The first fault of a signature, behind those met so far.
use Rattle.std.specs.Prelude.{Bool, false, ◌&&◌, ◌||◌, Option, Some, None}
use Rattle.php_ast.specs.expression.View.{Note}
use Rattle.php_ast.specs.declaration.Tree.{Base, of_name, of_array, of_callable, Type_of, Param, Signature}
use Rattle.php_legality.specs.declared.kind.Kind.TheVariants as kind
use Rattle.php_legality.specs.declared.fault.Fault.{Fault}
use Rattle.php_legality.specs.declared.scope.Scope.{Scope}
use Rattle.php_legality.specs.Lists.{elements}
use Rattle.php_legality.specs.Declarations.{signature_scope}
use Rattle.php_legality.specs.Rows.{has}
use Rattle.php_places.specs.Over.{over}
use Rattle.php_places.specs.Met.{where_bad}
use Rattle.php_bodies.specs.Own.{met_optional, met_optional_constant, met_name}
use Rattle.php_forms.specs.declared.signature.Passed.{Passed}

abbrev pub met_default : Scope → Param Note → Option Fault → Option Fault
met_default scope p met = met_optional scope p.default met

abbrev pub met_constant_default : Param Note → Option Fault → Option Fault
met_constant_default p met = met_optional_constant p.default met

abbrev pub met_base : Bool → Base Note → Option Fault → Option Fault
met_base in_class (of_name n) met = met_name in_class n met
met_base in_class of_array met = met
met_base in_class of_callable met = met

abbrev pub met_type : Bool → Type_of Note → Option Fault → Option Fault
met_type in_class t met = met_base in_class t.base met

abbrev pub met_optional_type : Bool → Option (Type_of Note) → Option Fault → Option Fault
met_optional_type in_class None met = met
met_optional_type in_class (Some t) met = met_type in_class t met

abbrev pub met_declared : Bool → Param Note → Option Fault → Option Fault
met_declared in_class p met = met_optional_type in_class p.declared met

-- ---- parameters

abbrev pub has_default : Param Note → Bool
has_default p = has p.default

abbrev pub is_bad_param : Bool → Param Note → Bool
is_bad_param has_variadic p = has_variadic || p.is_variadic && has p.default

abbrev pub before_params : Option Fault → Passed
before_params met = record { first = met; has_variadic = false }

abbrev pub met_param : Param Note → Passed → Passed
met_param p passed = record {
  first = where_bad (is_bad_param passed.has_variadic p) kind.BadUse p.name.note passed.first;
  has_variadic = passed.has_variadic || p.is_variadic;
}

-- ---- all of it

unfoldable pub met_signature : Bool → Signature Note → Option Fault → Option Fault
met_signature in_class s met =
    (over met_param (elements s.params)
    (before_params
    (met_optional_type in_class s.result
    (over (met_declared in_class) (elements s.params) (over met_constant_default (elements s.params) (over (met_default (signature_scope in_class)) (elements s.params) met)))))).first
