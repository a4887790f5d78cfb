use Rattle.std.proofs.Common.{◌≡◌, ◌+◌, ◌*◌, map, drop}
use Rattle.php_ast.specs.expression.View.{spot_view, view}
use Rattle.php_ast.specs.expression.Parts.{link_with}
use Rattle.php_weights.proofs.Expressions.{total, link_weight, weight}
use Rattle.php_places.specs.Over.{over}
use Rattle.php_first_forms.specs.Links.{with_operand}
use Rattle.php_first_forms.specs.Noted.{noted}
use Rattle.php_first_forms.proofs.sum.+sums.Given as goal

abbrev pub decreases-left_in_sum : goal.decreases-left_in_sum
decreases-left_in_sum l = 4 * weight l.e.now

abbrev pub decreases-left_in_binary : goal.decreases-left_in_binary
decreases-left_in_binary l = 4 * (weight l.l.now + weight l.r.now) + 1

abbrev pub decreases-left_in_links : goal.decreases-left_in_links
decreases-left_in_links l = 4 * total link_weight (map (link_with weight) l.links.now) + 2

abbrev pub decreases-left_in_link : goal.decreases-left_in_link
decreases-left_in_link l = 4 * link_weight (link_with weight l.link.now) + 1

abbrev pub invariant-left_in_links-loop-link : goal.invariant-left_in_links-loop-link
invariant-left_in_links-loop-link l =
    over (with_operand (spot_view l.spot)) (map (link_with view) (drop l.link-index l.links)) (noted l.first) ≡ over (with_operand (spot_view l.spot)) (map (link_with view) l.links) (noted l.fn.met)
