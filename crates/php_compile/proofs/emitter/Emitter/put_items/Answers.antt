use Rattle.std.proofs.Common.{length, ◌≤◌, arith}
use Rattle.php_compile.proofs.CodeLoops.{items_code_kept, items_code_whole, items_peak_kept, items_peak_whole}
use Rattle.php_compile.proofs.emitter.Emitter.put_items.Goals as goal

pub loop-item-preserved : goal.loop-item-preserved
loop-item-preserved c = (
  items_code_kept c.args.names.now.keys _ _ _ c.args.items.now c.loop-item.item-index c.item-item.result c.loop-item-test.true c.item-item.is c.loop-item.invariant.0 c.in_ok-put_item.ensures.code,
  items_peak_kept c.args.names.now.keys _ _ _ c.args.items.now c.loop-item.item-index c.item-item.result c.loop-item-test.true c.item-item.is c.loop-item.invariant.1 c.in_ok-put_item.ensures.peak,
)

pub returns-clause-code : goal.returns-clause-code
returns-clause-code c =
    let over : length c.args.items.now ≤ c.loop-item.item-index = omega arith in
    items_code_whole c.args.names.now.keys _ _ c.args.items.now c.loop-item.item-index over c.loop-item.invariant.0

pub returns-clause-peak : goal.returns-clause-peak
returns-clause-peak c =
    let over : length c.args.items.now ≤ c.loop-item.item-index = omega arith in
    items_peak_whole c.args.names.now.keys _ _ c.args.items.now c.loop-item.item-index over c.loop-item.invariant.1
