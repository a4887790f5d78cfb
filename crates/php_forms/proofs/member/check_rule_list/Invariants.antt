use Rattle.std.proofs.Common.{◌≡◌, map, drop}
use Rattle.php_ast.specs.declaration.View.{rule_view}
use Rattle.php_forms.specs.MemberFaults as spec
use Rattle.php_ast.specs.statement.View.{sequence}
use Rattle.php_legality.specs.Lists.{elements}
use Rattle.php_places.specs.Over.{over}
use Rattle.php_forms.proofs.member.check_rule_list.Given as goal

abbrev pub invariant-loop-rule : goal.invariant-loop-rule
invariant-loop-rule l = over (spec.met_rule) (map rule_view (drop l.rule-index l.rules)) l.first ≡ over (spec.met_rule) (elements (sequence rule_view l.rules)) (l.fn.met)
