use Rattle.std.proofs.Common.{length, ◌≤◌, ◌∙◌, ap, arith, map}
use Rattle.php_ast.specs.declaration.View.{item_view}
use Rattle.php_duplicates.specs.Over.{over}
use Rattle.php_duplicates.specs.Met.{see_function}
use Rattle.php_duplicates.specs.Saw.{Saw}
use Rattle.php_duplicates.proofs.Lists.{step_over, end_over}
use Rattle.php_duplicates.proofs.declaration.repeated_functions.Goals as goal

pub loop-item-init : goal.loop-item-init
loop-item-init c = ap (over see_function (map item_view c.args.items.now)) c.new-seen.ensures

pub loop-item-preserved : goal.loop-item-preserved
loop-item-preserved c =
    step_over see_function item_view c.args.items.now c.loop-item.item-index c.item-item.result _ _ _ c.loop-item-test.true c.item-item.is c.loop-item.invariant c.in_ok-see_function.ensures

pub returns : goal.returns
returns c =
    let past : length c.args.items.now ≤ c.loop-item.item-index = omega arith in
    c.first.ensures ∙ ap (λ (s : Saw). s.first) (end_over see_function item_view c.args.items.now c.loop-item.item-index _ _ past c.loop-item.invariant)
