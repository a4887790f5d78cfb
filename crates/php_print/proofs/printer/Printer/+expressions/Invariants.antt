use Rattle.std.proofs.Common.{◌≡◌, ◌+◌, ◌*◌, List, ◌∷◌, ◌++◌, map, drop}
use Rattle.php_token.specs.declared.kind.Punct.TheVariants as mark
use Rattle.php_ast.specs.Symbol.{Symbol, quote, punct}
use Rattle.php_ast.specs.expression.Tree.{array, none, no_piece, from}
use Rattle.php_ast.specs.expression.Spelling.{list_opening, spell, spell_items, spell_pieces, spell_steps}
use Rattle.php_ast.specs.expression.View.{view, spot_view, items_from, arguments_from, values_from, pieces_from, steps_from, with_suffixes, with_links}
use Rattle.php_ast.specs.expression.Parts.{piece_with, item_with, argument_with, suffix_with, step_with, class_with, link_with}
use Rattle.php_print.specs.expression.Elements.{spell_piece, spell_item, spell_argument, spell_suffix, spell_link, spell_step}
use Rattle.php_print.proofs.Lists.{rest, all}
use Rattle.php_weights.proofs.Expressions.{total, piece_weight, item_weight, argument_weight, suffix_weight, step_weight, class_weight, link_weight, weight}
use Rattle.php_print.proofs.printer.Printer.+expressions.Given as goal

abbrev pub decreases-put_expr : goal.decreases-put_expr
decreases-put_expr l = 6 * weight l.e.now

abbrev pub decreases-put_around : goal.decreases-put_around
decreases-put_around l = 6 * weight l.e.now + 1

abbrev pub decreases-put_pair : goal.decreases-put_pair
decreases-put_pair l = 6 * (weight l.left.now + weight l.right.now) + 1

abbrev pub decreases-put_template : goal.decreases-put_template
decreases-put_template l = 6 * total piece_weight (map (piece_with weight) l.pieces.now) + 3

abbrev pub decreases-put_array : goal.decreases-put_array
decreases-put_array l = 6 * total item_weight (map (item_with weight) l.items.now) + 3

abbrev pub decreases-put_item : goal.decreases-put_item
decreases-put_item l = 6 * item_weight (item_with weight l.item.now) + 2

abbrev pub decreases-put_values : goal.decreases-put_values
decreases-put_values l = 6 * total (λ n. n) (map weight l.values.now) + 2

abbrev pub decreases-put_is_set : goal.decreases-put_is_set
decreases-put_is_set l = 6 * total (λ n. n) (map weight l.values.now) + 3

abbrev pub decreases-put_arguments : goal.decreases-put_arguments
decreases-put_arguments l = 6 * total argument_weight (map (argument_with weight) l.arguments.now) + 3

abbrev pub decreases-put_chain : goal.decreases-put_chain
decreases-put_chain l = 6 * (weight l.first.now + total suffix_weight (map (suffix_with weight) l.suffixes.now)) + 3

abbrev pub decreases-put_suffix : goal.decreases-put_suffix
decreases-put_suffix l = 6 * suffix_weight (suffix_with weight l.suffix.now) + 2

abbrev pub decreases-put_run : goal.decreases-put_run
decreases-put_run l = 6 * (weight l.first.now + total link_weight (map (link_with weight) l.links.now)) + 3

abbrev pub decreases-put_link : goal.decreases-put_link
decreases-put_link l = 6 * link_weight (link_with weight l.link.now) + 2

abbrev pub decreases-put_new : goal.decreases-put_new
decreases-put_new l = 6 * class_weight (class_with weight l.class.now) + 4

abbrev pub decreases-put_steps : goal.decreases-put_steps
decreases-put_steps l = 6 * total step_weight (map (step_with weight) l.steps.now) + 3

abbrev pub decreases-put_piece : goal.decreases-put_piece
decreases-put_piece l = 6 * piece_weight (piece_with weight l.piece.now) + 2

abbrev pub decreases-put_argument : goal.decreases-put_argument
decreases-put_argument l = 6 * argument_weight (argument_with weight l.argument.now) + 2

abbrev pub decreases-put_step : goal.decreases-put_step
decreases-put_step l = 6 * step_weight (step_with weight l.step.now) + 2

abbrev pub decreases-put_new_with : goal.decreases-put_new_with
decreases-put_new_with l =
    6 * (class_weight (class_with weight l.class.now) + total argument_weight (map (argument_with weight) l.arguments.now)) + 5

abbrev pub invariant-put_template-loop-piece : goal.invariant-put_template-loop-piece
invariant-put_template-loop-piece l =
    (w : List Symbol) → l.self ++ all spell_piece (map (piece_with view) (drop l.piece-index l.pieces)) w ≡ l.fn.self ++ quote ∷ spell_pieces (pieces_from no_piece (map (piece_with view) l.pieces)) w

abbrev pub invariant-put_array-loop-item : goal.invariant-put_array-loop-item
invariant-put_array-loop-item l =
    (w : List Symbol) → l.self ++ rest (punct mark.Comma) spell_item l.has_before (map (item_with view) (drop l.item-index l.items)) w
    ≡ l.fn.self ++ list_opening (array l.form) (spell_items (items_from none (map (item_with view) l.items)) w)

abbrev pub invariant-put_values-loop-value : goal.invariant-put_values-loop-value
invariant-put_values-loop-value l =
    (w : List Symbol) → l.self ++ rest (punct mark.Comma) spell l.is_later (map view (drop l.value-index l.values)) w ≡ l.fn.self ++ spell_items (values_from none (map view l.values)) w

abbrev pub invariant-put_arguments-loop-argument : goal.invariant-put_arguments-loop-argument
invariant-put_arguments-loop-argument l =
    (w : List Symbol) → l.self ++ rest (punct mark.Comma) spell_argument l.is_later (map (argument_with view) (drop l.argument-index l.arguments)) w
    ≡ l.fn.self ++ punct mark.LeftParen ∷ spell_items (arguments_from none (map (argument_with view) l.arguments)) w

abbrev pub invariant-put_chain-loop-suffix : goal.invariant-put_chain-loop-suffix
invariant-put_chain-loop-suffix l =
    (w : List Symbol) → l.self ++ all spell_suffix (map (suffix_with view) (drop l.suffix-index l.suffixes)) w ≡ l.fn.self ++ spell (with_suffixes (view l.first) (map (suffix_with view) l.suffixes)) w

abbrev pub invariant-put_run-loop-link : goal.invariant-put_run-loop-link
invariant-put_run-loop-link l =
    (w : List Symbol) → l.self ++ all spell_link (map (link_with view) (drop l.link-index l.links)) w ≡ l.fn.self ++ spell (with_links (view l.first) (map (link_with view) l.links)) w

abbrev pub invariant-put_steps-loop-step : goal.invariant-put_steps-loop-step
invariant-put_steps-loop-step l =
    (w : List Symbol) → l.self ++ all spell_step (map (step_with view) (drop l.step-index l.steps)) w
    ≡ l.fn.self ++ spell_steps (steps_from (from (spot_view l.name.spot) l.name.text) (map (step_with view) l.steps)) w
