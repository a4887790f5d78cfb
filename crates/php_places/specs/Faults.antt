-- The faults of one expression, with what is done with it.
use Rattle.std.specs.Prelude.{Bool, not, List, ◌++◌, map, cond, []}
use Rattle.php_ast.specs.expression.Tree.{Tree}
use Rattle.php_ast.specs.expression.View.{Note}
use Rattle.php_legality.specs.declared.kind.Kind.TheVariants as kind
use Rattle.php_legality.specs.declared.fault.Fault.{Fault}
use Rattle.php_legality.specs.declared.scope.Scope.{Scope}
use Rattle.php_legality.specs.Lists.{where_true}
use Rattle.php_legality.specs.First.{fault_at}
use Rattle.php_legality.specs.Places.{first_note}
use Rattle.php_legality.specs.Expressions.{Use, Used}
use Rattle.php_legality.specs.Rows.{fits, is_bad_list, yields, inner_words}

abbrev pub use_faults : Use → Tree Note → List Fault
use_faults u e = where_true (not (fits u e)) (fault_at kind.NoPlace (first_note e)) ++ where_true (is_bad_list u e) (fault_at kind.BadList (first_note e))

abbrev pub outside : Bool → List Note → List Fault
outside may_stand words = map (fault_at kind.BadUse) (cond may_stand [] words)

abbrev pub word_faults : Scope → Tree Note → List Fault
word_faults scope e = outside scope.in_function (yields e) ++ outside scope.in_class (inner_words e)

abbrev pub faults_at : Scope → Used Note → List Fault
faults_at scope x = use_faults x.use_of x.tree ++ word_faults scope x.tree
