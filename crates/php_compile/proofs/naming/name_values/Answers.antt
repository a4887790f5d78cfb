use Rattle.std.proofs.Common.{length, ◌≤◌, arith}
use Rattle.php_compile.proofs.NameLoops.{values_kept, values_whole}
use Rattle.php_compile.proofs.naming.name_values.Goals as goal

pub loop-value-preserved : goal.loop-value-preserved
loop-value-preserved c =
    values_kept _ _ _ c.args.values.now c.loop-value.value-index c.value-item.result c.loop-value-test.true c.value-item.is c.loop-value.invariant c.in_ok-name_expr.ensures

pub returns : goal.returns
returns c =
    let over : length c.args.values.now ≤ c.loop-value.value-index = omega arith in
    values_whole _ _ c.args.values.now c.loop-value.value-index over c.loop-value.invariant
