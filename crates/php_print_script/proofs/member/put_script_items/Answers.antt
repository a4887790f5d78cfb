use Rattle.std.proofs.Common.{◌++◌, map, length, ◌≤◌, sym, ap, arith}
use Rattle.php_ast.specs.statement.Tree.{empty}
use Rattle.php_ast.specs.declaration.Spelling.{spell_item}
use Rattle.php_ast.specs.declaration.View.{item_view}
use Rattle.php_print.proofs.Lists.{step_all, end_all}
use Rattle.php_print_script.proofs.Lists.{joined_spelled}
use Rattle.php_print_script.proofs.member.put_script_items.Goals as goal

pub loop-item-init : goal.loop-item-init
loop-item-init c = λ w. ap (λ v. c.args.printer.now ++ v) (sym (joined_spelled spell_item empty (map item_view c.args.items.now) w))

pub loop-item-preserved : goal.loop-item-preserved
loop-item-preserved c =
    step_all spell_item item_view c.args.items.now c.loop-item.item-index c.item-item.result _ _ _ c.loop-item-test.true c.item-item.is c.loop-item.invariant c.in_ok-put_script_item.ensures

pub returns : goal.returns
returns c =
    let over : length c.args.items.now ≤ c.loop-item.item-index = omega arith in
    end_all spell_item item_view c.args.items.now c.loop-item.item-index _ _ over c.loop-item.invariant
