use Rattle.std.proofs.Common.{◌≡◌, map, take}
use Rattle.php_ast.specs.statement.Tree.{empty}
use Rattle.php_ast.specs.statement.View.{sequence_from}
use Rattle.php_ast.specs.declaration.View.{param_view}
use Rattle.php_many_names.specs.Met.{over, met_param}
use Rattle.php_many_names.proofs.declaration.meet_params.Given as goal

abbrev pub invariant-loop-param : goal.invariant-loop-param
invariant-loop-param l = l.names ≡ over met_param l.fn.names (sequence_from empty (map param_view (take l.param-index l.params)))
