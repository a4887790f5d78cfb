use Rattle.std.proofs.Common.{length, ◌≤◌, arith}
use Rattle.php_ast.specs.statement.View.{constant_view}
use Rattle.php_many_names.specs.Met.{met_constant}
use Rattle.php_many_names.proofs.Lists.{sequence_kept, sequence_whole}
use Rattle.php_many_names.proofs.statement.meet_constants.Goals as goal

pub loop-constant-preserved : goal.loop-constant-preserved
loop-constant-preserved c =
    sequence_kept met_constant constant_view _ _ _ c.args.those.now c.loop-constant.constant-index c.constant-item.result c.loop-constant-test.true c.constant-item.is c.loop-constant.invariant c.in_ok-meet_constant.ensures

pub returns : goal.returns
returns c =
    let past : length c.args.those.now ≤ c.loop-constant.constant-index = omega arith in
    sequence_whole met_constant constant_view _ _ c.args.those.now c.loop-constant.constant-index past c.loop-constant.invariant
