use Rattle.std.proofs.Common.{map, length, ◌≤◌, arith, ap, sym, ◌∙◌}
use Rattle.php_ast.specs.declaration.View.{rule_view}
use Rattle.php_forms.specs.MemberFaults as spec
use Rattle.php_legality.proofs.SequenceLemmas.{elements_are}
use Rattle.php_places.specs.Over.{over}
use Rattle.php_places.proofs.Lists.{step_over, end_over}
use Rattle.php_forms.proofs.member.check_rule_list.Goals as goal

pub loop-rule-init : goal.loop-rule-init
loop-rule-init c = ap (λ ys. over (spec.met_rule) ys (c.args.met)) (sym (elements_are rule_view c.args.rules.now))

pub loop-rule-preserved : goal.loop-rule-preserved
loop-rule-preserved c =
    step_over (spec.met_rule) rule_view c.args.rules.now c.loop-rule.rule-index c.rule-item.result _ _ _ c.loop-rule-test.true c.rule-item.is c.loop-rule.invariant c.check_rule-first.ensures

pub returns : goal.returns
returns c =
    let past : length c.args.rules.now ≤ c.loop-rule.rule-index = omega arith in
    end_over (spec.met_rule) rule_view c.args.rules.now c.loop-rule.rule-index _ _ past c.loop-rule.invariant
