use Rattle.std.proofs.Common.{length, ◌≤◌, arith}
use Rattle.php_ast.specs.declaration.View.{member_view}
use Rattle.php_many_names.specs.Met.{met_class_member}
use Rattle.php_many_names.proofs.Lists.{sequence_kept, sequence_whole}
use Rattle.php_many_names.proofs.declaration.meet_members.Goals as goal

pub loop-member-preserved : goal.loop-member-preserved
loop-member-preserved c =
    sequence_kept met_class_member member_view _ _ _ c.args.members.now c.loop-member.member-index c.member-item.result c.loop-member-test.true c.member-item.is c.loop-member.invariant c.in_ok-meet_member.ensures

pub returns : goal.returns
returns c =
    let past : length c.args.members.now ≤ c.loop-member.member-index = omega arith in
    sequence_whole met_class_member member_view _ _ c.args.members.now c.loop-member.member-index past c.loop-member.invariant
