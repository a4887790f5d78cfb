-- The first fault of a statement itself, behind those met so far.
use Rattle.std.specs.Prelude.{Bool, true, false, not, Option, Some, None, List, [], ◌∷◌}
use Rattle.php_ast.specs.expression.Tree.{Tree, Items}
use Rattle.php_ast.specs.expression.View.{Note}
use Rattle.php_ast.specs.statement.Tree.{Name, Variable, Constant, Target, Statement, jump, try_catch, try_finally, declares, returning, Catches, no_catch, and_catch}
use Rattle.php_legality.specs.declared.kind.Kind.TheVariants as kind
use Rattle.php_legality.specs.declared.fault.Fault.{Fault}
use Rattle.php_legality.specs.declared.scope.Scope.{Scope}
use Rattle.php_legality.specs.Lists.{elements}
use Rattle.php_legality.specs.Places.{first_note}
use Rattle.php_legality.specs.Constants.{is_constant}
use Rattle.php_legality.specs.Expressions.{Used, used, valued}
use Rattle.php_legality.specs.Statements.{values, target_used, own, own_constants}
use Rattle.php_legality.specs.Rows.{is_inner_name}
use Rattle.php_places.specs.Over.{over}
use Rattle.php_places.specs.Met.{where_bad, met_used}

-- ---- expressions

abbrev pub met_any : Scope → Used Note → Option Fault → Option Fault
met_any scope x met = met_used scope x.use_of x.tree met

abbrev pub met_optional : Scope → Option (Tree Note) → Option Fault → Option Fault
met_optional scope None met = met
met_optional scope (Some e) met = met_any scope (used valued e) met

abbrev pub met_variable : Scope → Variable Note → Option Fault → Option Fault
met_variable scope x met = met_optional scope x.value met

abbrev pub met_constant_item : Scope → Constant Note → Option Fault → Option Fault
met_constant_item scope x met = met_any scope (used valued x.value) met

abbrev pub met_key : Scope → Option (Target Note) → Option Fault → Option Fault
met_key scope None met = met
met_key scope (Some t) met = met_any scope (target_used t) met

abbrev pub met_for : Scope → Items Note → Items Note → Items Note → Option Fault → Option Fault
met_for scope starts tests steps met =
    over (met_any scope) (values valued steps) (over (met_any scope) (values valued tests) (over (met_any scope) (values valued starts) met))

abbrev pub met_foreach : Scope → Tree Note → Option (Target Note) → Target Note → Option Fault → Option Fault
met_foreach scope walked key value met = met_any scope (target_used value) (met_key scope key (met_any scope (used valued walked) met))

-- ---- values that must be constant

unfoldable pub met_constant : Tree Note → Option Fault → Option Fault
met_constant e met = where_bad (not (is_constant e)) kind.NoConstant (first_note e) met

abbrev pub met_optional_constant : Option (Tree Note) → Option Fault → Option Fault
met_optional_constant None met = met
met_optional_constant (Some e) met = met_constant e met

abbrev pub met_first_value : Variable Note → Option Fault → Option Fault
met_first_value x met = met_optional_constant x.value met

abbrev pub met_constant_value : Constant Note → Option Fault → Option Fault
met_constant_value x met = met_constant x.value met

-- ---- words

-- the name of a class, in one or not
unfoldable pub met_name : Bool → Name Note → Option Fault → Option Fault
met_name true n met = met
met_name false n met = where_bad (is_inner_name n.text) kind.BadUse n.note met

abbrev pub met_catches : Bool → Catches Note → Option Fault → Option Fault
met_catches in_class no_catch met = met
met_catches in_class (and_catch catches classes variable body) met = over (met_name in_class) (elements classes) (met_catches in_class catches met)

abbrev pub met_words : Scope → Statement Note → Option Fault → Option Fault
met_words scope (jump at returning (Some e)) met = where_bad scope.is_void kind.BadUse at met
met_words scope (try_catch at body catches) met = met_catches scope.in_class catches met
met_words scope (try_finally at body catches last) met = met_catches scope.in_class catches met
met_words scope (declares at name n) met = where_bad true kind.BadUse at met
met_words scope _ met = met

-- all of it
unfoldable pub met_own : Scope → Statement Note → Option Fault → Option Fault
met_own scope s met = met_words scope s (over met_constant (own_constants s) (over (met_any scope) (own s) met))
