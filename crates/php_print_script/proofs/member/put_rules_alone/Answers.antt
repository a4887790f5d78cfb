use Rattle.std.proofs.Common.{◌++◌, map, length, ◌≤◌, sym, ap, arith}
use Rattle.php_ast.specs.statement.Tree.{empty}
use Rattle.php_ast.specs.declaration.Spelling.{spell_rule}
use Rattle.php_ast.specs.declaration.View.{rule_view}
use Rattle.php_print.proofs.Lists.{step_all, end_all}
use Rattle.php_print_script.proofs.Lists.{joined_spelled}
use Rattle.php_print_script.proofs.member.put_rules_alone.Goals as goal

pub loop-rule-init : goal.loop-rule-init
loop-rule-init c = λ w. ap (λ v. c.args.printer.now ++ v) (sym (joined_spelled spell_rule empty (map rule_view c.args.rules.now) w))

pub loop-rule-preserved : goal.loop-rule-preserved
loop-rule-preserved c =
    step_all spell_rule rule_view c.args.rules.now c.loop-rule.rule-index c.rule-item.result _ _ _ c.loop-rule-test.true c.rule-item.is c.loop-rule.invariant c.in_ok-put_rule.ensures

pub returns : goal.returns
returns c =
    let over : length c.args.rules.now ≤ c.loop-rule.rule-index = omega arith in
    end_all spell_rule rule_view c.args.rules.now c.loop-rule.rule-index _ _ over c.loop-rule.invariant
