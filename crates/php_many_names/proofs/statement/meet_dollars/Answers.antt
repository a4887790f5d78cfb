use Rattle.std.proofs.Common.{length, ◌≤◌, arith}
use Rattle.php_ast.specs.statement.View.{name_view}
use Rattle.php_many_names.specs.Met.{met_dollar}
use Rattle.php_many_names.proofs.Lists.{sequence_kept, sequence_whole}
use Rattle.php_many_names.proofs.statement.meet_dollars.Goals as goal

pub loop-name-preserved : goal.loop-name-preserved
loop-name-preserved c =
    sequence_kept met_dollar name_view _ _ _ c.args.those.now c.loop-name.name-index c.name-item.result c.loop-name-test.true c.name-item.is c.loop-name.invariant c.in_ok-meet_dollar.ensures

pub returns : goal.returns
returns c =
    let past : length c.args.those.now ≤ c.loop-name.name-index = omega arith in
    sequence_whole met_dollar name_view _ _ c.args.those.now c.loop-name.name-index past c.loop-name.invariant
