use Rattle.std.proofs.Common.{◌≤◌, map, length, arith, ◌∙◌, ap}
use Rattle.php_ast.specs.declaration.View.{item_view}
use Rattle.php_places.specs.Over.{over}
use Rattle.php_places.proofs.Lists.{step_over, end_over}
use Rattle.php_first_forms.specs.Forms.{or_else}
use Rattle.php_first_forms.specs.Links.{with_item}
use Rattle.php_first_forms.specs.Noted.{noted}
use Rattle.php_first_forms.proofs.script.left_in_items.Goals as goal

pub loop-item-preserved : goal.loop-item-preserved
loop-item-preserved c =
    let one = c.or_else-first.ensures ∙ ap (λ x. or_else (noted c.loop-item.first) x) c.left_in_item.ensures in
    step_over with_item item_view c.args.items.now c.loop-item.item-index c.item-item.result _ _ _ c.loop-item-test.true c.item-item.is c.loop-item.invariant one

pub returns : goal.returns
returns c =
    let past : length c.args.items.now ≤ c.loop-item.item-index = omega arith in
    end_over with_item item_view c.args.items.now c.loop-item.item-index _ _ past c.loop-item.invariant
