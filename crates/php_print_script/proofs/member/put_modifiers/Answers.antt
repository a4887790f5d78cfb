use Rattle.std.proofs.Common.{◌++◌, map, length, ◌≤◌, sym, ap, arith}
use Rattle.php_ast.specs.statement.Tree.{empty}
use Rattle.php_ast.specs.declaration.Spelling.{spell_modifier}
use Rattle.php_ast.specs.declaration.View.{modifier_view}
use Rattle.php_print.proofs.Lists.{step_copied, end_all}
use Rattle.php_print_script.proofs.Lists.{joined_spelled}
use Rattle.php_print_script.proofs.member.put_modifiers.Goals as goal

pub loop-modifier-init : goal.loop-modifier-init
loop-modifier-init c = λ w. ap (λ v. c.args.printer.now ++ v) (sym (joined_spelled spell_modifier empty (map modifier_view c.args.modifiers.now) w))

pub loop-modifier-preserved : goal.loop-modifier-preserved
loop-modifier-preserved c =
    step_copied spell_modifier modifier_view c.args.modifiers.now c.loop-modifier.modifier-index _ _ _ _ c.loop-modifier-test.true c.loop-modifier.invariant c.in_ok-put_modifier.ensures

pub returns : goal.returns
returns c =
    let over : length c.args.modifiers.now ≤ c.loop-modifier.modifier-index = omega arith in
    end_all spell_modifier modifier_view c.args.modifiers.now c.loop-modifier.modifier-index _ _ over c.loop-modifier.invariant
