use Rattle.std.proofs.Common.{◌≡◌, ◌+◌, ◌*◌, map, drop}
use Rattle.php_ast.specs.expression.View.{view}
use Rattle.php_ast.specs.expression.Parts.{item_with, link_with}
use Rattle.php_constants.specs.Elements.{all_constant, is_constant_item, is_constant_link}
use Rattle.php_weights.proofs.Expressions.{total, item_weight, link_weight, weight}
use Rattle.php_constants.proofs.constant.+constants.Given as goal

abbrev pub decreases-is_constant : goal.decreases-is_constant
decreases-is_constant l = 4 * weight l.e.now

abbrev pub decreases-is_constant_array : goal.decreases-is_constant_array
decreases-is_constant_array l = 4 * total item_weight (map (item_with weight) l.items.now) + 3

abbrev pub decreases-are_constant_items : goal.decreases-are_constant_items
decreases-are_constant_items l = 4 * total item_weight (map (item_with weight) l.items.now) + 2

abbrev pub decreases-is_constant_item : goal.decreases-is_constant_item
decreases-is_constant_item l = 4 * item_weight (item_with weight l.item.now) + 1

abbrev pub decreases-are_constant_links : goal.decreases-are_constant_links
decreases-are_constant_links l = 4 * total link_weight (map (link_with weight) l.links.now) + 2

abbrev pub decreases-is_constant_link : goal.decreases-is_constant_link
decreases-is_constant_link l = 4 * link_weight (link_with weight l.link.now) + 1

abbrev pub invariant-are_constant_items-loop-item : goal.invariant-are_constant_items-loop-item
invariant-are_constant_items-loop-item l =
    all_constant is_constant_item (map (item_with view) (drop l.item-index l.items)) ≡ all_constant is_constant_item (map (item_with view) l.items)

abbrev pub invariant-are_constant_links-loop-link : goal.invariant-are_constant_links-loop-link
invariant-are_constant_links-loop-link l =
    all_constant is_constant_link (map (link_with view) (drop l.link-index l.links)) ≡ all_constant is_constant_link (map (link_with view) l.links)
