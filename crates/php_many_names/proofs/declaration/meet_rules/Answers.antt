use Rattle.std.proofs.Common.{length, ◌≤◌, arith}
use Rattle.php_ast.specs.declaration.View.{rule_view}
use Rattle.php_many_names.specs.Met.{met_rule}
use Rattle.php_many_names.proofs.Lists.{sequence_kept, sequence_whole}
use Rattle.php_many_names.proofs.declaration.meet_rules.Goals as goal

pub loop-rule-preserved : goal.loop-rule-preserved
loop-rule-preserved c =
    sequence_kept met_rule rule_view _ _ _ c.args.rules.now c.loop-rule.rule-index c.rule-item.result c.loop-rule-test.true c.rule-item.is c.loop-rule.invariant c.in_ok-meet_rule.ensures

pub returns : goal.returns
returns c =
    let past : length c.args.rules.now ≤ c.loop-rule.rule-index = omega arith in
    sequence_whole met_rule rule_view _ _ c.args.rules.now c.loop-rule.rule-index past c.loop-rule.invariant
