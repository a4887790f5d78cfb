use Rattle.std.proofs.Common.{◌≡◌, map, take}
use Rattle.php_ast.specs.statement.Tree.{empty}
use Rattle.php_ast.specs.statement.View.{sequence_from}
use Rattle.php_ast.specs.declaration.View.{rule_view}
use Rattle.php_many_names.specs.Met.{over, met_rule}
use Rattle.php_many_names.proofs.declaration.meet_rules.Given as goal

abbrev pub invariant-loop-rule : goal.invariant-loop-rule
invariant-loop-rule l = l.names ≡ over met_rule l.fn.names (sequence_from empty (map rule_view (take l.rule-index l.rules)))
