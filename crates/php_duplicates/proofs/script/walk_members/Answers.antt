use Rattle.std.proofs.Common.{length, ◌≤◌, ◌∙◌, ap, sym, arith}
use Rattle.php_ast.specs.declaration.View.{member_view}
use Rattle.php_legality.proofs.SequenceLemmas.{elements_are}
use Rattle.php_duplicates.specs.Over.{over}
use Rattle.php_duplicates.specs.Met.{met_member_body}
use Rattle.php_duplicates.proofs.Lists.{step_over, end_over}
use Rattle.php_duplicates.proofs.script.walk_members.Goals as goal

pub loop-member-preserved : goal.loop-member-preserved
loop-member-preserved c =
    step_over met_member_body member_view c.args.members.now c.loop-member.member-index c.member-item.result _ _ _ c.loop-member-test.true c.member-item.is c.loop-member.invariant
    c.walk_member-first.ensures

pub returns : goal.returns
returns c =
    let past : length c.args.members.now ≤ c.loop-member.member-index = omega arith in
    end_over met_member_body member_view c.args.members.now c.loop-member.member-index _ _ past c.loop-member.invariant
    ∙ ap (λ ys. over met_member_body ys c.args.met) (sym (elements_are member_view c.args.members.now))
