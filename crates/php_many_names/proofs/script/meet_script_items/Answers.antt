use Rattle.std.proofs.Common.{length, ◌≤◌, arith}
use Rattle.php_ast.specs.declaration.View.{item_view}
use Rattle.php_many_names.specs.Met.{met_script_item}
use Rattle.php_many_names.proofs.Lists.{sequence_kept, sequence_whole}
use Rattle.php_many_names.proofs.script.meet_script_items.Goals as goal

pub loop-item-preserved : goal.loop-item-preserved
loop-item-preserved c =
    sequence_kept met_script_item item_view _ _ _ c.args.items.now c.loop-item.item-index c.item-item.result c.loop-item-test.true c.item-item.is c.loop-item.invariant c.in_ok-meet_script_item.ensures

pub returns : goal.returns
returns c =
    let past : length c.args.items.now ≤ c.loop-item.item-index = omega arith in
    sequence_whole met_script_item item_view _ _ c.args.items.now c.loop-item.item-index past c.loop-item.invariant
