use Rattle.std.proofs.Common.{length, ◌≤◌, arith}
use Rattle.php_ast.specs.declaration.View.{param_view}
use Rattle.php_many_names.specs.Met.{met_param}
use Rattle.php_many_names.proofs.Lists.{sequence_kept, sequence_whole}
use Rattle.php_many_names.proofs.declaration.meet_params.Goals as goal

pub loop-param-preserved : goal.loop-param-preserved
loop-param-preserved c =
    sequence_kept met_param param_view _ _ _ c.args.params.now c.loop-param.param-index c.param-item.result c.loop-param-test.true c.param-item.is c.loop-param.invariant c.in_ok-meet_param.ensures

pub returns : goal.returns
returns c =
    let past : length c.args.params.now ≤ c.loop-param.param-index = omega arith in
    sequence_whole met_param param_view _ _ c.args.params.now c.loop-param.param-index past c.loop-param.invariant
