use Rattle.std.proofs.Common.{length, ◌≤◌, arith}
use Rattle.php_ast.proofs.Views.{view_chain, view_run}
use Rattle.php_ast.specs.expression.Tree.{none, no_piece, from}
use Rattle.php_ast.specs.expression.View.{view, spot_view}
use Rattle.php_ast.specs.expression.Parts.{piece_with, item_with, argument_with, suffix_with, step_with, link_with}
use Rattle.php_weights.proofs.Expressions.{weight, part_weight, piece_weight, item_weight, argument_weight, suffix_weight, step_weight, link_weight}
use Rattle.php_many_names.proofs.Lists.{pieces_kept, pieces_whole, items_kept, items_whole, arguments_kept, arguments_whole, values_kept, values_whole, suffixes_kept, suffixes_whole, links_kept, links_whole, steps_kept, steps_whole}
use Rattle.php_many_names.proofs.expression.+expressions.Goals as goal

-- ---- parts of a list are no heavier than the list

pub meet_pieces-meet_piece-requires : goal.meet_pieces-meet_piece-requires
meet_pieces-meet_piece-requires t c =
    let h = part_weight piece_weight (piece_with weight) c.args.pieces.now c.loop-piece.piece-index c.piece-item.result c.loop-piece-test.true c.piece-item.is in
    (omega (arith, h), tt)

pub meet_items-meet_item-requires : goal.meet_items-meet_item-requires
meet_items-meet_item-requires t c =
    let h = part_weight item_weight (item_with weight) c.args.items.now c.loop-item.item-index c.item-item.result c.loop-item-test.true c.item-item.is in
    (omega (arith, h), tt)

pub meet_values-meet_expr-requires : goal.meet_values-meet_expr-requires
meet_values-meet_expr-requires t c =
    let h = part_weight (λ n. n) weight c.args.values.now c.loop-value.value-index c.value-item.result c.loop-value-test.true c.value-item.is in
    (omega (arith, h), tt)

pub meet_arguments-meet_argument-requires : goal.meet_arguments-meet_argument-requires
meet_arguments-meet_argument-requires t c =
    let h = part_weight argument_weight (argument_with weight) c.args.arguments.now c.loop-argument.argument-index c.argument-item.result c.loop-argument-test.true c.argument-item.is in
    (omega (arith, h), tt)

pub meet_chain-meet_suffix-requires : goal.meet_chain-meet_suffix-requires
meet_chain-meet_suffix-requires t c =
    let h = part_weight suffix_weight (suffix_with weight) c.args.suffixes.now c.loop-suffix.suffix-index c.suffix-item.result c.loop-suffix-test.true c.suffix-item.is in
    (omega (arith, h), tt)

pub meet_run-meet_link-requires : goal.meet_run-meet_link-requires
meet_run-meet_link-requires t c =
    let h = part_weight link_weight (link_with weight) c.args.links.now c.loop-link.link-index c.link-item.result c.loop-link-test.true c.link-item.is in
    (omega (arith, h), tt)

pub meet_steps-meet_step-requires : goal.meet_steps-meet_step-requires
meet_steps-meet_step-requires t c =
    let h = part_weight step_weight (step_with weight) c.args.steps.now c.loop-step.step-index c.step-item.result c.loop-step-test.true c.step-item.is in
    (omega (arith, h), tt)

-- ---- one more part, and the end

pub meet_pieces-loop-piece-preserved : goal.meet_pieces-loop-piece-preserved
meet_pieces-loop-piece-preserved t c =
    pieces_kept (piece_with view) no_piece _ _ _ c.args.pieces.now c.loop-piece.piece-index c.piece-item.result c.loop-piece-test.true c.piece-item.is c.loop-piece.invariant c.in_ok-meet_piece.ensures

pub meet_pieces-returns : goal.meet_pieces-returns
meet_pieces-returns t c =
    let past : length c.args.pieces.now ≤ c.loop-piece.piece-index = omega arith in
    pieces_whole (piece_with view) no_piece _ _ c.args.pieces.now c.loop-piece.piece-index past c.loop-piece.invariant

pub meet_items-loop-item-preserved : goal.meet_items-loop-item-preserved
meet_items-loop-item-preserved t c =
    items_kept (item_with view) none _ _ _ c.args.items.now c.loop-item.item-index c.item-item.result c.loop-item-test.true c.item-item.is c.loop-item.invariant c.in_ok-meet_item.ensures

pub meet_items-returns : goal.meet_items-returns
meet_items-returns t c =
    let past : length c.args.items.now ≤ c.loop-item.item-index = omega arith in
    items_whole (item_with view) none _ _ c.args.items.now c.loop-item.item-index past c.loop-item.invariant

pub meet_values-loop-value-preserved : goal.meet_values-loop-value-preserved
meet_values-loop-value-preserved t c =
    values_kept view none _ _ _ c.args.values.now c.loop-value.value-index c.value-item.result c.loop-value-test.true c.value-item.is c.loop-value.invariant c.in_ok-meet_expr.ensures

pub meet_values-returns : goal.meet_values-returns
meet_values-returns t c =
    let past : length c.args.values.now ≤ c.loop-value.value-index = omega arith in
    values_whole view none _ _ c.args.values.now c.loop-value.value-index past c.loop-value.invariant

pub meet_arguments-loop-argument-preserved : goal.meet_arguments-loop-argument-preserved
meet_arguments-loop-argument-preserved t c =
    arguments_kept (argument_with view) none _ _ _ c.args.arguments.now c.loop-argument.argument-index c.argument-item.result c.loop-argument-test.true c.argument-item.is c.loop-argument.invariant c.in_ok-meet_argument.ensures

pub meet_arguments-returns : goal.meet_arguments-returns
meet_arguments-returns t c =
    let past : length c.args.arguments.now ≤ c.loop-argument.argument-index = omega arith in
    arguments_whole (argument_with view) none _ _ c.args.arguments.now c.loop-argument.argument-index past c.loop-argument.invariant

pub meet_chain-loop-suffix-preserved : goal.meet_chain-loop-suffix-preserved
meet_chain-loop-suffix-preserved t c =
    suffixes_kept (suffix_with view) (view c.args.first.now) _ _ _ c.args.suffixes.now c.loop-suffix.suffix-index c.suffix-item.result c.loop-suffix-test.true c.suffix-item.is c.loop-suffix.invariant c.in_ok-meet_suffix.ensures

pub meet_chain-returns : goal.meet_chain-returns
meet_chain-returns t c =
    let past : length c.args.suffixes.now ≤ c.loop-suffix.suffix-index = omega arith in
    suffixes_whole (suffix_with view) (view c.args.first.now) _ _ c.args.suffixes.now c.loop-suffix.suffix-index past c.loop-suffix.invariant

pub meet_run-loop-link-preserved : goal.meet_run-loop-link-preserved
meet_run-loop-link-preserved t c =
    links_kept (link_with view) (view c.args.first.now) _ _ _ c.args.links.now c.loop-link.link-index c.link-item.result c.loop-link-test.true c.link-item.is c.loop-link.invariant c.in_ok-meet_link.ensures

pub meet_run-returns : goal.meet_run-returns
meet_run-returns t c =
    let past : length c.args.links.now ≤ c.loop-link.link-index = omega arith in
    links_whole (link_with view) (view c.args.first.now) _ _ c.args.links.now c.loop-link.link-index past c.loop-link.invariant

pub meet_steps-loop-step-preserved : goal.meet_steps-loop-step-preserved
meet_steps-loop-step-preserved t c =
    steps_kept (step_with view) (from (spot_view c.args.name.now.spot) c.args.name.now.text) _ _ _ c.args.steps.now c.loop-step.step-index c.step-item.result c.loop-step-test.true c.step-item.is c.loop-step.invariant c.in_ok-meet_step.ensures

pub meet_steps-returns : goal.meet_steps-returns
meet_steps-returns t c =
    let past : length c.args.steps.now ≤ c.loop-step.step-index = omega arith in
    steps_whole (step_with view) (from (spot_view c.args.name.now.spot) c.args.name.now.text) _ _ c.args.steps.now c.loop-step.step-index past c.loop-step.invariant

-- ---- forms

pub meet_expr-returns-in-Chain : goal.meet_expr-returns-in-Chain
meet_expr-returns-in-Chain t c = rw (c.in-Chain.is, view_chain) (rw (c.get-in-Chain.ensures, c.as_slice-in-Chain.ensures) at c.meet_chain.ensures)

pub meet_expr-returns-in-Run : goal.meet_expr-returns-in-Run
meet_expr-returns-in-Run t c = rw (c.in-Run.is, view_run) (rw (c.get-in-Run.ensures, c.as_slice-in-Run.ensures) at c.meet_run.ensures)
