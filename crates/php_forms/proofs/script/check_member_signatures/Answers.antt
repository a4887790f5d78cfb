use Rattle.std.proofs.Common.{map, length, ◌≤◌, arith, ap, sym, ◌∙◌}
use Rattle.php_ast.specs.declaration.View.{member_view}
use Rattle.php_forms.specs.Items as spec
use Rattle.php_legality.proofs.SequenceLemmas.{elements_are}
use Rattle.php_places.specs.Over.{over}
use Rattle.php_places.proofs.Lists.{step_over, end_over}
use Rattle.php_forms.proofs.script.check_member_signatures.Goals as goal

pub loop-member-init : goal.loop-member-init
loop-member-init c = ap (λ ys. over (spec.met_member_signature) ys (c.args.met)) (sym (elements_are member_view c.args.members.now))

pub loop-member-preserved : goal.loop-member-preserved
loop-member-preserved c =
    step_over (spec.met_member_signature) member_view c.args.members.now c.loop-member.member-index c.member-item.result _ _ _ c.loop-member-test.true c.member-item.is c.loop-member.invariant c.check_member_signature-first.ensures

pub returns : goal.returns
returns c =
    let past : length c.args.members.now ≤ c.loop-member.member-index = omega arith in
    end_over (spec.met_member_signature) member_view c.args.members.now c.loop-member.member-index _ _ past c.loop-member.invariant
