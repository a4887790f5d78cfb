-- The faults of a statement itself.
use Rattle.std.specs.Prelude.{Bool, not, List, ◌++◌, map, flat_map}
use Rattle.php_ast.specs.expression.Tree.{Tree}
use Rattle.php_ast.specs.expression.View.{Note}
use Rattle.php_ast.specs.statement.Tree.{Statement}
use Rattle.php_legality.specs.declared.kind.Kind.TheVariants as kind
use Rattle.php_legality.specs.declared.fault.Fault.{Fault}
use Rattle.php_legality.specs.declared.scope.Scope.{Scope}
use Rattle.php_legality.specs.Lists.{where_true}
use Rattle.php_legality.specs.First.{fault_at}
use Rattle.php_legality.specs.Places.{first_note}
use Rattle.php_legality.specs.Constants.{is_constant}
use Rattle.php_legality.specs.Expressions.{Used, all_used}
use Rattle.php_legality.specs.Statements.{Inside, own, own_constants, caught}
use Rattle.php_legality.specs.Rows.{inner_name, void_return, declaration_at}
use Rattle.php_places.specs.Faults.{outside, faults_at}

-- of expressions that stand in no others, and of those inside them
abbrev pub expression_faults : Scope → List (Used Note) → List Fault
expression_faults scope es = flat_map (faults_at scope) (flat_map all_used es)

-- of a value that must be constant
abbrev pub constant_faults : Tree Note → List Fault
constant_faults e = where_true (not (is_constant e)) (fault_at kind.NoConstant (first_note e))

abbrev pub caught_faults : Bool → Statement Note → List Fault
caught_faults in_class s = outside in_class (flat_map inner_name (caught s))

abbrev pub void_faults : Scope → Statement Note → List Fault
void_faults scope s = outside (not scope.is_void) (void_return s)

abbrev pub declared_faults : Statement Note → List Fault
declared_faults s = map (fault_at kind.BadUse) (declaration_at s)

abbrev pub word_faults : Scope → Statement Note → List Fault
word_faults scope s = caught_faults scope.in_class s ++ (void_faults scope s ++ declared_faults s)

abbrev pub site_faults : Scope → Statement Note → List Fault
site_faults scope s = expression_faults scope (own s) ++ (flat_map constant_faults (own_constants s) ++ word_faults scope s)

-- those of statements of one body
abbrev pub faults_in : Scope → List (Inside Note) → List Fault
faults_in scope xs = flat_map (λ x. site_faults scope x.statement) xs
