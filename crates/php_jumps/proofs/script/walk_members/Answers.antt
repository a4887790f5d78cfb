use Rattle.std.proofs.Common.{length, ◌≤◌, arith}
use Rattle.php_ast.specs.declaration.View.{member_view}
use Rattle.php_jumps.specs.Met.{met_member}
use Rattle.php_jumps.proofs.Lists.{step_over, end_over}
use Rattle.php_jumps.proofs.script.walk_members.Goals as goal

pub loop-member-preserved : goal.loop-member-preserved
loop-member-preserved c =
    step_over met_member member_view c.args.members.now c.loop-member.member-index c.member-item.result _ _ _ c.loop-member-test.true c.member-item.is c.loop-member.invariant c.walk_member-first.ensures

pub returns : goal.returns
returns c =
    let past : length c.args.members.now ≤ c.loop-member.member-index = omega arith in
    end_over met_member member_view c.args.members.now c.loop-member.member-index _ _ past c.loop-member.invariant
