use Rattle.std.proofs.Common.{◌≡◌, ◌+◌, ◌*◌, map, drop}
use Rattle.php_ast.specs.expression.View.{view}
use Rattle.php_ast.specs.expression.Parts as part
use Rattle.php_weights.proofs.Expressions.{total, piece_weight, item_weight, argument_weight, suffix_weight, class_weight, step_weight, link_weight, weight}
use Rattle.php_weights.proofs.Statements.{same}
use Rattle.php_places.specs.Met as spec
use Rattle.php_places.specs.Elements as element
use Rattle.php_places.specs.Over.{over}
use Rattle.php_places.specs.Uses.{use_view}
use Rattle.php_places.proofs.walk.+expressions.Given as goal

abbrev pub decreases-walk_used : goal.decreases-walk_used
decreases-walk_used l = 8 * weight l.e.now + 1

abbrev pub decreases-walk_inside : goal.decreases-walk_inside
decreases-walk_inside l = 8 * weight l.e.now

abbrev pub decreases-walk_chain : goal.decreases-walk_chain
decreases-walk_chain l = 8 * (weight l.e.now + total suffix_weight (map (part.suffix_with weight) l.suffixes.now)) + 4

abbrev pub decreases-walk_values : goal.decreases-walk_values
decreases-walk_values l = 8 * total same (map weight l.es.now) + 3

abbrev pub decreases-walk_pieces : goal.decreases-walk_pieces
decreases-walk_pieces l = 8 * total piece_weight (map (part.piece_with weight) l.pieces.now) + 3

abbrev pub decreases-walk_items : goal.decreases-walk_items
decreases-walk_items l = 8 * total item_weight (map (part.item_with weight) l.items.now) + 3

abbrev pub decreases-walk_arguments : goal.decreases-walk_arguments
decreases-walk_arguments l = 8 * total argument_weight (map (part.argument_with weight) l.arguments.now) + 3

abbrev pub decreases-walk_suffixes : goal.decreases-walk_suffixes
decreases-walk_suffixes l = 8 * total suffix_weight (map (part.suffix_with weight) l.suffixes.now) + 3

abbrev pub decreases-walk_steps : goal.decreases-walk_steps
decreases-walk_steps l = 8 * total step_weight (map (part.step_with weight) l.steps.now) + 3

abbrev pub decreases-walk_links : goal.decreases-walk_links
decreases-walk_links l = 8 * total link_weight (map (part.link_with weight) l.links.now) + 3

abbrev pub decreases-walk_piece : goal.decreases-walk_piece
decreases-walk_piece l = 8 * piece_weight (part.piece_with weight l.piece.now) + 2

abbrev pub decreases-walk_item : goal.decreases-walk_item
decreases-walk_item l = 8 * item_weight (part.item_with weight l.item.now) + 2

abbrev pub decreases-walk_argument : goal.decreases-walk_argument
decreases-walk_argument l = 8 * argument_weight (part.argument_with weight l.argument.now) + 2

abbrev pub decreases-walk_suffix : goal.decreases-walk_suffix
decreases-walk_suffix l = 8 * suffix_weight (part.suffix_with weight l.suffix.now) + 2

abbrev pub decreases-walk_step : goal.decreases-walk_step
decreases-walk_step l = 8 * step_weight (part.step_with weight l.step.now) + 2

abbrev pub decreases-walk_link : goal.decreases-walk_link
decreases-walk_link l = 8 * link_weight (part.link_with weight l.link.now) + 2

abbrev pub decreases-walk_class : goal.decreases-walk_class
decreases-walk_class l = 8 * class_weight (part.class_with weight l.class.now) + 5

abbrev pub decreases-walk_class_steps : goal.decreases-walk_class_steps
decreases-walk_class_steps l = 8 * class_weight (part.class_with weight l.class.now) + 4

abbrev pub invariant-walk_values-loop-e : goal.invariant-walk_values-loop-e
invariant-walk_values-loop-e l =
    over (spec.met_used l.scope (use_view l.usage)) (map view (drop l.e-index l.es)) l.first ≡ over (spec.met_used l.scope (use_view l.usage)) (map view l.es) l.fn.met

abbrev pub invariant-walk_pieces-loop-piece : goal.invariant-walk_pieces-loop-piece
invariant-walk_pieces-loop-piece l =
    over (element.met_piece l.scope) (map (part.piece_with view) (drop l.piece-index l.pieces)) l.first ≡ over (element.met_piece l.scope) (map (part.piece_with view) l.pieces) l.fn.met

abbrev pub invariant-walk_items-loop-item : goal.invariant-walk_items-loop-item
invariant-walk_items-loop-item l =
    over (element.met_item l.scope (use_view l.usage)) (map (part.item_with view) (drop l.item-index l.items)) l.first ≡ over (element.met_item l.scope (use_view l.usage)) (map (part.item_with view) l.items) l.fn.met

abbrev pub invariant-walk_arguments-loop-argument : goal.invariant-walk_arguments-loop-argument
invariant-walk_arguments-loop-argument l =
    over (element.met_argument l.scope) (map (part.argument_with view) (drop l.argument-index l.arguments)) l.first ≡ over (element.met_argument l.scope) (map (part.argument_with view) l.arguments) l.fn.met

abbrev pub invariant-walk_suffixes-loop-suffix : goal.invariant-walk_suffixes-loop-suffix
invariant-walk_suffixes-loop-suffix l =
    over (element.met_suffix l.scope) (map (part.suffix_with view) (drop l.suffix-index l.suffixes)) l.first ≡ over (element.met_suffix l.scope) (map (part.suffix_with view) l.suffixes) l.fn.met

abbrev pub invariant-walk_steps-loop-step : goal.invariant-walk_steps-loop-step
invariant-walk_steps-loop-step l =
    over (element.met_step l.scope) (map (part.step_with view) (drop l.step-index l.steps)) l.first ≡ over (element.met_step l.scope) (map (part.step_with view) l.steps) l.fn.met

abbrev pub invariant-walk_links-loop-link : goal.invariant-walk_links-loop-link
invariant-walk_links-loop-link l =
    over (element.met_link l.scope) (map (part.link_with view) (drop l.link-index l.links)) l.first ≡ over (element.met_link l.scope) (map (part.link_with view) l.links) l.fn.met
