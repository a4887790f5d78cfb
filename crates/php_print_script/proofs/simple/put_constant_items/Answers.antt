use Rattle.std.proofs.Common.{◌++◌, map, length, ◌≤◌, sym, ap, arith}
use Rattle.php_token.specs.declared.kind.Punct.TheVariants as mark
use Rattle.php_ast.specs.Symbol as symbol
use Rattle.php_ast.specs.statement.Tree.{empty}
use Rattle.php_ast.specs.statement.Spelling.{spell_constant}
use Rattle.php_ast.specs.statement.View.{constant_view}
use Rattle.php_print.proofs.Lists.{step_rest, end_rest}
use Rattle.php_print_script.proofs.Lists.{sequence_spelled}
use Rattle.php_print_script.proofs.simple.put_constant_items.Goals as goal

pub loop-item-init : goal.loop-item-init
loop-item-init c = λ w. ap (λ v. c.args.printer.now ++ v) (sym (sequence_spelled (symbol.punct mark.Comma) spell_constant empty (map constant_view c.args.items.now) w))

pub loop-item-preserved : goal.loop-item-preserved
loop-item-preserved c =
    step_rest (symbol.punct mark.Comma) spell_constant constant_view c.args.items.now c.loop-item.item-index c.item-item.result c.loop-item.is_later _ _ _ _ c.loop-item-test.true c.item-item.is c.loop-item.invariant c.in_ok-put_punct_if.ensures c.in_ok-put_constant_item.ensures

pub returns : goal.returns
returns c =
    let over : length c.args.items.now ≤ c.loop-item.item-index = omega arith in
    end_rest (symbol.punct mark.Comma) spell_constant constant_view c.args.items.now c.loop-item.item-index c.loop-item.is_later _ _ over c.loop-item.invariant
