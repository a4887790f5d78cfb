use Rattle.std.proofs.Common.{length, ◌≤◌, arith}
use Rattle.php_places.specs.Shapes as spec
use Rattle.php_places.proofs.Lists.{step_plain, end_plain}
use Rattle.php_places.proofs.list.find.Goals as goal

pub loop-item-preserved : goal.loop-item-preserved
loop-item-preserved c =
    step_plain spec.look c.args.items.now c.loop-item.item-index c.item-item.result _ _ _ c.loop-item-test.true c.item-item.is c.loop-item.invariant c.look-found.ensures

pub returns : goal.returns
returns c =
    let past : length c.args.items.now ≤ c.loop-item.item-index = omega arith in
    end_plain spec.look c.args.items.now c.loop-item.item-index _ _ past c.loop-item.invariant
