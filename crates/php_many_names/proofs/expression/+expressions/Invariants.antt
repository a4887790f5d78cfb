use Rattle.std.proofs.Common.{◌≡◌, ◌+◌, ◌*◌, map, take}
use Rattle.php_ast.specs.expression.Tree.{none, no_piece, from}
use Rattle.php_ast.specs.expression.View.{view, spot_view, items_from, arguments_from, values_from, pieces_from, steps_from, with_suffixes, with_links}
use Rattle.php_ast.specs.expression.Parts.{piece_with, item_with, argument_with, suffix_with, step_with, class_with, link_with}
use Rattle.php_weights.proofs.Expressions.{total, piece_weight, item_weight, argument_weight, suffix_weight, step_weight, class_weight, link_weight, weight}
use Rattle.php_many_names.specs.Met.{met_tree, met_items, met_pieces, met_steps}
use Rattle.php_many_names.proofs.expression.+expressions.Given as goal

abbrev pub decreases-meet_expr : goal.decreases-meet_expr
decreases-meet_expr l = 6 * weight l.e.now

abbrev pub decreases-meet_pair : goal.decreases-meet_pair
decreases-meet_pair l = 6 * (weight l.left.now + weight l.right.now) + 1

abbrev pub decreases-meet_pieces : goal.decreases-meet_pieces
decreases-meet_pieces l = 6 * total piece_weight (map (piece_with weight) l.pieces.now) + 3

abbrev pub decreases-meet_piece : goal.decreases-meet_piece
decreases-meet_piece l = 6 * piece_weight (piece_with weight l.piece.now) + 2

abbrev pub decreases-meet_items : goal.decreases-meet_items
decreases-meet_items l = 6 * total item_weight (map (item_with weight) l.items.now) + 3

abbrev pub decreases-meet_item : goal.decreases-meet_item
decreases-meet_item l = 6 * item_weight (item_with weight l.item.now) + 2

abbrev pub decreases-meet_values : goal.decreases-meet_values
decreases-meet_values l = 6 * total (λ n. n) (map weight l.values.now) + 2

abbrev pub decreases-meet_arguments : goal.decreases-meet_arguments
decreases-meet_arguments l = 6 * total argument_weight (map (argument_with weight) l.arguments.now) + 3

abbrev pub decreases-meet_argument : goal.decreases-meet_argument
decreases-meet_argument l = 6 * argument_weight (argument_with weight l.argument.now) + 2

abbrev pub decreases-meet_chain : goal.decreases-meet_chain
decreases-meet_chain l = 6 * (weight l.first.now + total suffix_weight (map (suffix_with weight) l.suffixes.now)) + 3

abbrev pub decreases-meet_suffix : goal.decreases-meet_suffix
decreases-meet_suffix l = 6 * suffix_weight (suffix_with weight l.suffix.now) + 2

abbrev pub decreases-meet_run : goal.decreases-meet_run
decreases-meet_run l = 6 * (weight l.first.now + total link_weight (map (link_with weight) l.links.now)) + 3

abbrev pub decreases-meet_link : goal.decreases-meet_link
decreases-meet_link l = 6 * link_weight (link_with weight l.link.now) + 2

abbrev pub decreases-meet_class : goal.decreases-meet_class
decreases-meet_class l = 6 * class_weight (class_with weight l.class.now) + 4

abbrev pub decreases-meet_new_with : goal.decreases-meet_new_with
decreases-meet_new_with l = 6 * (class_weight (class_with weight l.class.now) + total argument_weight (map (argument_with weight) l.arguments.now)) + 5

abbrev pub decreases-meet_steps : goal.decreases-meet_steps
decreases-meet_steps l = 6 * total step_weight (map (step_with weight) l.steps.now) + 3

abbrev pub decreases-meet_step : goal.decreases-meet_step
decreases-meet_step l = 6 * step_weight (step_with weight l.step.now) + 2

abbrev pub invariant-meet_pieces-loop-piece : goal.invariant-meet_pieces-loop-piece
invariant-meet_pieces-loop-piece l = l.names ≡ met_pieces l.fn.names (pieces_from no_piece (map (piece_with view) (take l.piece-index l.pieces)))

abbrev pub invariant-meet_items-loop-item : goal.invariant-meet_items-loop-item
invariant-meet_items-loop-item l = l.names ≡ met_items l.fn.names (items_from none (map (item_with view) (take l.item-index l.items)))

abbrev pub invariant-meet_values-loop-value : goal.invariant-meet_values-loop-value
invariant-meet_values-loop-value l = l.names ≡ met_items l.fn.names (values_from none (map view (take l.value-index l.values)))

abbrev pub invariant-meet_arguments-loop-argument : goal.invariant-meet_arguments-loop-argument
invariant-meet_arguments-loop-argument l = l.names ≡ met_items l.fn.names (arguments_from none (map (argument_with view) (take l.argument-index l.arguments)))

abbrev pub invariant-meet_chain-loop-suffix : goal.invariant-meet_chain-loop-suffix
invariant-meet_chain-loop-suffix l = l.names ≡ met_tree l.fn.names (with_suffixes (view l.first) (map (suffix_with view) (take l.suffix-index l.suffixes)))

abbrev pub invariant-meet_run-loop-link : goal.invariant-meet_run-loop-link
invariant-meet_run-loop-link l = l.names ≡ met_tree l.fn.names (with_links (view l.first) (map (link_with view) (take l.link-index l.links)))

abbrev pub invariant-meet_steps-loop-step : goal.invariant-meet_steps-loop-step
invariant-meet_steps-loop-step l = l.names ≡ met_steps l.fn.names (steps_from (from (spot_view l.name.spot) l.name.text) (map (step_with view) (take l.step-index l.steps)))
