use Rattle.std.proofs.Common.{length, ◌≤◌, ◌∙◌, ap, arith}
use Rattle.php_ast.specs.declaration.View.{item_view}
use Rattle.php_duplicates.specs.Met.{met_properties}
use Rattle.php_duplicates.specs.Saw.{first_among}
use Rattle.php_duplicates.specs.Met.{see_property}
use Rattle.php_duplicates.proofs.Lists.{step_over, end_over}
use Rattle.php_duplicates.proofs.declaration.properties_of_items.Goals as goal

pub loop-item-preserved : goal.loop-item-preserved
loop-item-preserved c =
    step_over met_properties item_view c.args.items.now c.loop-item.item-index c.item-item.result _ _ _ c.loop-item-test.true c.item-item.is c.loop-item.invariant
    (c.in_ok-first.ensures ∙ ap (λ ms. first_among see_property ms c.loop-item.first) c.members_in.ensures)

pub returns : goal.returns
returns c =
    let past : length c.args.items.now ≤ c.loop-item.item-index = omega arith in
    end_over met_properties item_view c.args.items.now c.loop-item.item-index _ _ past c.loop-item.invariant
