use Rattle.std.proofs.Common.{length, ◌≤◌, arith}
use Rattle.php_compile.proofs.NameLoops.{items_kept, items_whole}
use Rattle.php_compile.proofs.naming.name_items.Goals as goal

pub loop-item-preserved : goal.loop-item-preserved
loop-item-preserved c =
    items_kept _ _ _ c.args.items.now c.loop-item.item-index c.item-item.result c.loop-item-test.true c.item-item.is c.loop-item.invariant c.in_ok-name_item.ensures

pub returns : goal.returns
returns c =
    let over : length c.args.items.now ≤ c.loop-item.item-index = omega arith in
    items_whole _ _ c.args.items.now c.loop-item.item-index over c.loop-item.invariant
