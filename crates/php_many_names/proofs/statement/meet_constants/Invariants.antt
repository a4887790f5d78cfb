use Rattle.std.proofs.Common.{◌≡◌, map, take}
use Rattle.php_ast.specs.statement.Tree.{empty}
use Rattle.php_ast.specs.statement.View.{sequence_from, constant_view}
use Rattle.php_many_names.specs.Met.{over, met_constant}
use Rattle.php_many_names.proofs.statement.meet_constants.Given as goal

abbrev pub invariant-loop-constant : goal.invariant-loop-constant
invariant-loop-constant l = l.names ≡ over met_constant l.fn.names (sequence_from empty (map constant_view (take l.constant-index l.those)))
