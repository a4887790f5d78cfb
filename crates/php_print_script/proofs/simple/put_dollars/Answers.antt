use Rattle.std.proofs.Common.{◌++◌, map, length, ◌≤◌, sym, ap, arith}
use Rattle.php_token.specs.declared.kind.Punct.TheVariants as mark
use Rattle.php_ast.specs.Symbol as symbol
use Rattle.php_ast.specs.statement.Tree.{empty}
use Rattle.php_ast.specs.statement.Spelling.{spell_dollar}
use Rattle.php_ast.specs.statement.View.{name_view}
use Rattle.php_print.proofs.Lists.{step_rest, end_rest}
use Rattle.php_print_script.proofs.Lists.{sequence_spelled}
use Rattle.php_print_script.proofs.simple.put_dollars.Goals as goal

pub loop-name-init : goal.loop-name-init
loop-name-init c = λ w. ap (λ v. c.args.printer.now ++ v) (sym (sequence_spelled (symbol.punct mark.Comma) spell_dollar empty (map name_view c.args.names.now) w))

pub loop-name-preserved : goal.loop-name-preserved
loop-name-preserved c =
    step_rest (symbol.punct mark.Comma) spell_dollar name_view c.args.names.now c.loop-name.name-index c.name-item.result c.loop-name.is_later _ _ _ _ c.loop-name-test.true c.name-item.is c.loop-name.invariant c.in_ok-put_punct_if.ensures c.in_ok-put_variable.ensures

pub returns : goal.returns
returns c =
    let over : length c.args.names.now ≤ c.loop-name.name-index = omega arith in
    end_rest (symbol.punct mark.Comma) spell_dollar name_view c.args.names.now c.loop-name.name-index c.loop-name.is_later _ _ over c.loop-name.invariant
