use Rattle.std.proofs.Common.{length, ◌≤◌, ◌∙◌, ap, arith, map}
use Rattle.php_ast.specs.declaration.View.{member_view}
use Rattle.php_duplicates.specs.Over.{over}
use Rattle.php_duplicates.specs.Met.{see_property}
use Rattle.php_duplicates.specs.Saw.{Saw}
use Rattle.php_duplicates.proofs.Lists.{step_over, end_over}
use Rattle.php_duplicates.proofs.member.repeated_properties.Goals as goal

pub loop-member-init : goal.loop-member-init
loop-member-init c = ap (over see_property (map member_view c.args.members.now)) c.new-seen.ensures

pub loop-member-preserved : goal.loop-member-preserved
loop-member-preserved c =
    step_over see_property member_view c.args.members.now c.loop-member.member-index c.member-item.result _ _ _ c.loop-member-test.true c.member-item.is c.loop-member.invariant c.in_ok-see_property.ensures

pub returns : goal.returns
returns c =
    let past : length c.args.members.now ≤ c.loop-member.member-index = omega arith in
    c.first.ensures ∙ ap (λ (s : Saw). s.first) (end_over see_property member_view c.args.members.now c.loop-member.member-index _ _ past c.loop-member.invariant)
