use Rattle.std.proofs.Common.{length, ◌≤◌, arith}
use Rattle.php_compile.proofs.CodeLoops.{values_code_kept, values_code_whole, values_peak_kept, values_peak_whole}
use Rattle.php_compile.proofs.emitter.Emitter.put_values.Goals as goal

pub loop-value-preserved : goal.loop-value-preserved
loop-value-preserved c = (
  values_code_kept c.args.names.now.keys _ _ _ c.args.values.now c.loop-value.value-index c.value-item.result c.loop-value-test.true c.value-item.is c.loop-value.invariant.0 c.in_ok-put_value.ensures.code,
  values_peak_kept c.args.names.now.keys c.args.standing _ _ _ c.args.values.now c.loop-value.value-index c.value-item.result c.loop-value-test.true c.value-item.is c.loop-value.invariant.1 c.in_ok-put_value.ensures.peak,
)

pub returns-clause-code : goal.returns-clause-code
returns-clause-code c =
    let over : length c.args.values.now ≤ c.loop-value.value-index = omega arith in
    values_code_whole c.args.names.now.keys _ _ c.args.values.now c.loop-value.value-index over c.loop-value.invariant.0

pub returns-clause-peak : goal.returns-clause-peak
returns-clause-peak c =
    let over : length c.args.values.now ≤ c.loop-value.value-index = omega arith in
    values_peak_whole c.args.names.now.keys c.args.standing _ _ c.args.values.now c.loop-value.value-index over c.loop-value.invariant.1
