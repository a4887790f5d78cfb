use Rattle.std.proofs.Common.{◌≡◌, map, take}
use Rattle.php_ast.specs.statement.Tree.{empty}
use Rattle.php_ast.specs.statement.View.{sequence_from, variable_view}
use Rattle.php_many_names.specs.Met.{over, met_variable}
use Rattle.php_many_names.proofs.statement.meet_variables.Given as goal

abbrev pub invariant-loop-variable : goal.invariant-loop-variable
invariant-loop-variable l = l.names ≡ over met_variable l.fn.names (sequence_from empty (map variable_view (take l.variable-index l.those)))
