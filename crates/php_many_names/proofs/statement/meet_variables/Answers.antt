use Rattle.std.proofs.Common.{length, ◌≤◌, arith}
use Rattle.php_ast.specs.statement.View.{variable_view}
use Rattle.php_many_names.specs.Met.{met_variable}
use Rattle.php_many_names.proofs.Lists.{sequence_kept, sequence_whole}
use Rattle.php_many_names.proofs.statement.meet_variables.Goals as goal

pub loop-variable-preserved : goal.loop-variable-preserved
loop-variable-preserved c =
    sequence_kept met_variable variable_view _ _ _ c.args.those.now c.loop-variable.variable-index c.variable-item.result c.loop-variable-test.true c.variable-item.is c.loop-variable.invariant c.in_ok-meet_variable.ensures

pub returns : goal.returns
returns c =
    let past : length c.args.those.now ≤ c.loop-variable.variable-index = omega arith in
    sequence_whole met_variable variable_view _ _ c.args.those.now c.loop-variable.variable-index past c.loop-variable.invariant
