use Rattle.std.proofs.Common.{◌++◌, map, length, ◌≤◌, sym, ap, arith}
use Rattle.php_ast.specs.statement.Tree.{empty}
use Rattle.php_ast.specs.declaration.Spelling.{spell_member}
use Rattle.php_ast.specs.declaration.View.{member_view}
use Rattle.php_print.proofs.Lists.{step_all, end_all}
use Rattle.php_print_script.proofs.Lists.{joined_spelled}
use Rattle.php_print_script.proofs.member.put_members_alone.Goals as goal

pub loop-member-init : goal.loop-member-init
loop-member-init c = λ w. ap (λ v. c.args.printer.now ++ v) (sym (joined_spelled spell_member empty (map member_view c.args.members.now) w))

pub loop-member-preserved : goal.loop-member-preserved
loop-member-preserved c =
    step_all spell_member member_view c.args.members.now c.loop-member.member-index c.member-item.result _ _ _ c.loop-member-test.true c.member-item.is c.loop-member.invariant c.in_ok-put_class_member.ensures

pub returns : goal.returns
returns c =
    let over : length c.args.members.now ≤ c.loop-member.member-index = omega arith in
    end_all spell_member member_view c.args.members.now c.loop-member.member-index _ _ over c.loop-member.invariant
