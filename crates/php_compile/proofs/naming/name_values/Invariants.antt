use Rattle.std.proofs.Common.{◌≡◌, map, take}
use Rattle.php_ast.specs.expression.Tree.{none}
use Rattle.php_ast.specs.expression.View.{values_from, view}
use Rattle.php_meaning.specs.Slots.{names_of_items}
use Rattle.php_compile.proofs.naming.name_values.Given as goal

abbrev pub invariant-loop-value : goal.invariant-loop-value
invariant-loop-value l = l.names.keys ≡ names_of_items l.fn.names.keys (values_from none (map view (take l.value-index l.values)))
