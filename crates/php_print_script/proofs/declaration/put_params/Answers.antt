use Rattle.std.proofs.Common.{◌++◌, map, length, ◌≤◌, sym, ap, arith}
use Rattle.php_token.specs.declared.kind.Punct.TheVariants as mark
use Rattle.php_ast.specs.Symbol as symbol
use Rattle.php_ast.specs.statement.Tree.{empty}
use Rattle.php_ast.specs.declaration.Spelling.{spell_param}
use Rattle.php_ast.specs.declaration.View.{param_view}
use Rattle.php_print.proofs.Lists.{step_rest, end_rest}
use Rattle.php_print_script.proofs.Lists.{sequence_spelled}
use Rattle.php_print_script.proofs.declaration.put_params.Goals as goal

pub loop-param-init : goal.loop-param-init
loop-param-init c = λ w. ap (λ v. c.args.printer.now ++ v) (sym (sequence_spelled (symbol.punct mark.Comma) spell_param empty (map param_view c.args.params.now) w))

pub loop-param-preserved : goal.loop-param-preserved
loop-param-preserved c =
    step_rest (symbol.punct mark.Comma) spell_param param_view c.args.params.now c.loop-param.param-index c.param-item.result c.loop-param.is_later _ _ _ _ c.loop-param-test.true c.param-item.is c.loop-param.invariant c.in_ok-put_punct_if.ensures c.in_ok-put_param.ensures

pub returns : goal.returns
returns c =
    let over : length c.args.params.now ≤ c.loop-param.param-index = omega arith in
    end_rest (symbol.punct mark.Comma) spell_param param_view c.args.params.now c.loop-param.param-index c.loop-param.is_later _ _ over c.loop-param.invariant
