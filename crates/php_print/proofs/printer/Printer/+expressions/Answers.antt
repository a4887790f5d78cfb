use Rattle.std.proofs.Common.{◌∷◌, ◌++◌, map, length, ◌≤◌, sym, ◌∙◌, ap, arith, refl}
use Rattle.php_token.specs.declared.kind.Keyword.TheVariants as word
use Rattle.php_token.specs.declared.kind.Punct.TheVariants as mark
use Rattle.php_ast.specs.Symbol as symbol
use Rattle.php_ast.specs.expression.Tree.{array, none, no_piece, from}
use Rattle.php_ast.specs.expression.Spelling.{spell, spell_steps, list_opening, list_closing}
use Rattle.php_ast.specs.expression.View.{view, spot_view, steps_from}
use Rattle.php_ast.specs.expression.Parts.{piece_with, item_with, argument_with, suffix_with, step_with, link_with}
use Rattle.php_print.specs.expression.Elements.{spell_piece, spell_item, spell_argument, spell_suffix, spell_link, spell_step}
use Rattle.php_weights.proofs.Expressions.{weight, heavier, piece_weight, item_weight, argument_weight, suffix_weight, step_weight, link_weight}
use Rattle.php_print.proofs.Lists.{behind, closed, step_all, end_all, step_rest, end_rest, pieces_spelled, items_spelled, arguments_spelled, values_spelled, steps_spelled, suffixes_spelled, links_spelled}
use Rattle.php_ast.proofs.Views.{view_chain, view_run}
use Rattle.php_print.proofs.printer.Printer.+expressions.Goals as goal

-- ---- parts of a list are no heavier than the list

pub put_template-put_piece-requires : goal.put_template-put_piece-requires
put_template-put_piece-requires t c =
    let h = heavier piece_weight (piece_with weight) c.args.pieces.now c.args.pieces.now c.loop-piece.piece-index c.piece-item.result refl c.loop-piece-test.true c.piece-item.is in
    (omega (arith, h), tt)

pub put_array-put_item-requires : goal.put_array-put_item-requires
put_array-put_item-requires t c =
    let h = heavier item_weight (item_with weight) c.args.items.now c.args.items.now c.loop-item.item-index c.item-item.result refl c.loop-item-test.true c.item-item.is in
    (omega (arith, h), tt)

pub put_values-put_expr-requires : goal.put_values-put_expr-requires
put_values-put_expr-requires t c =
    let h = heavier (λ n. n) weight c.args.values.now c.args.values.now c.loop-value.value-index c.value-item.result refl c.loop-value-test.true c.value-item.is in
    (omega (arith, h), tt)

pub put_arguments-put_argument-requires : goal.put_arguments-put_argument-requires
put_arguments-put_argument-requires t c =
    let h = heavier argument_weight (argument_with weight) c.args.arguments.now c.args.arguments.now c.loop-argument.argument-index c.argument-item.result refl c.loop-argument-test.true c.argument-item.is in
    (omega (arith, h), tt)

pub put_chain-put_suffix-requires : goal.put_chain-put_suffix-requires
put_chain-put_suffix-requires t c =
    let h = heavier suffix_weight (suffix_with weight) c.args.suffixes.now c.args.suffixes.now c.loop-suffix.suffix-index c.suffix-item.result refl c.loop-suffix-test.true c.suffix-item.is in
    (omega (arith, h), tt)

pub put_run-put_link-requires : goal.put_run-put_link-requires
put_run-put_link-requires t c =
    let h = heavier link_weight (link_with weight) c.args.links.now c.args.links.now c.loop-link.link-index c.link-item.result refl c.loop-link-test.true c.link-item.is in
    (omega (arith, h), tt)

pub put_steps-put_step-requires : goal.put_steps-put_step-requires
put_steps-put_step-requires t c =
    let h = heavier step_weight (step_with weight) c.args.steps.now c.args.steps.now c.loop-step.step-index c.step-item.result refl c.loop-step-test.true c.step-item.is in
    (omega (arith, h), tt)

-- ---- one more part of a list

pub put_template-loop-piece-preserved : goal.put_template-loop-piece-preserved
put_template-loop-piece-preserved t c =
    step_all spell_piece (piece_with view) c.args.pieces.now c.loop-piece.piece-index c.piece-item.result _ _ _ c.loop-piece-test.true c.piece-item.is c.loop-piece.invariant c.in_ok-put_piece.ensures

pub put_array-loop-item-preserved : goal.put_array-loop-item-preserved
put_array-loop-item-preserved t c =
    step_rest (symbol.punct mark.Comma) spell_item (item_with view) c.args.items.now c.loop-item.item-index c.item-item.result c.loop-item.has_before _ _ _ _ c.loop-item-test.true c.item-item.is c.loop-item.invariant c.in_ok-put_punct_if.ensures c.in_ok-put_item.ensures

pub put_values-loop-value-preserved : goal.put_values-loop-value-preserved
put_values-loop-value-preserved t c =
    step_rest (symbol.punct mark.Comma) spell view c.args.values.now c.loop-value.value-index c.value-item.result c.loop-value.is_later _ _ _ _ c.loop-value-test.true c.value-item.is c.loop-value.invariant c.in_ok-put_punct_if.ensures c.in_ok-put_expr.ensures

pub put_arguments-loop-argument-preserved : goal.put_arguments-loop-argument-preserved
put_arguments-loop-argument-preserved t c =
    step_rest (symbol.punct mark.Comma) spell_argument (argument_with view) c.args.arguments.now c.loop-argument.argument-index c.argument-item.result c.loop-argument.is_later _ _ _ _ c.loop-argument-test.true c.argument-item.is c.loop-argument.invariant c.in_ok-put_punct_if.ensures c.in_ok-put_argument.ensures

pub put_chain-loop-suffix-preserved : goal.put_chain-loop-suffix-preserved
put_chain-loop-suffix-preserved t c =
    step_all spell_suffix (suffix_with view) c.args.suffixes.now c.loop-suffix.suffix-index c.suffix-item.result _ _ _ c.loop-suffix-test.true c.suffix-item.is c.loop-suffix.invariant c.in_ok-put_suffix.ensures

pub put_run-loop-link-preserved : goal.put_run-loop-link-preserved
put_run-loop-link-preserved t c =
    step_all spell_link (link_with view) c.args.links.now c.loop-link.link-index c.link-item.result _ _ _ c.loop-link-test.true c.link-item.is c.loop-link.invariant c.in_ok-put_link.ensures

pub put_steps-loop-step-preserved : goal.put_steps-loop-step-preserved
put_steps-loop-step-preserved t c =
    step_all spell_step (step_with view) c.args.steps.now c.loop-step.step-index c.step-item.result _ _ _ c.loop-step-test.true c.step-item.is c.loop-step.invariant c.in_ok-put_step.ensures

-- ---- before the first part

pub put_template-loop-piece-init : goal.put_template-loop-piece-init
put_template-loop-piece-init t c = λ w. c.in_ok-put.ensures _ ∙ ap (λ v. c.args.self.now ++ symbol.quote ∷ v) (sym (pieces_spelled no_piece (map (piece_with view) c.args.pieces.now) w))

pub put_array-loop-item-init : goal.put_array-loop-item-init
put_array-loop-item-init t c = λ w. c.in_ok-put_array_opening.ensures _ ∙ ap (λ v. c.args.self.now ++ list_opening (array c.args.form) v) (sym (items_spelled none (map (item_with view) c.args.items.now) w))

pub put_values-loop-value-init : goal.put_values-loop-value-init
put_values-loop-value-init t c = λ w. ap (λ v. c.args.self.now ++ v) (sym (values_spelled none (map view c.args.values.now) w))

pub put_arguments-loop-argument-init : goal.put_arguments-loop-argument-init
put_arguments-loop-argument-init t c = λ w. c.in_ok-put_fixed.ensures _ ∙ ap (λ v. c.args.self.now ++ symbol.punct mark.LeftParen ∷ v) (sym (arguments_spelled none (map (argument_with view) c.args.arguments.now) w))

pub put_chain-loop-suffix-init : goal.put_chain-loop-suffix-init
put_chain-loop-suffix-init t c = λ w. c.in_ok-put_expr.ensures _ ∙ ap (λ v. c.args.self.now ++ v) (sym (suffixes_spelled (view c.args.first.now) (map (suffix_with view) c.args.suffixes.now) w))

pub put_run-loop-link-init : goal.put_run-loop-link-init
put_run-loop-link-init t c = λ w. c.in_ok-put_expr.ensures _ ∙ ap (λ v. c.args.self.now ++ v) (sym (links_spelled (view c.args.first.now) (map (link_with view) c.args.links.now) w))

pub put_steps-loop-step-init : goal.put_steps-loop-step-init
put_steps-loop-step-init t c = λ w. c.in_ok-put_variable.ensures _ ∙ ap (λ v. c.args.self.now ++ v) (sym (steps_spelled (from (spot_view c.args.name.now.spot) c.args.name.now.text) (map (step_with view) c.args.steps.now) w))

-- ---- behind the last part

pub put_template-returns : goal.put_template-returns
put_template-returns t c =
    let over : length c.args.pieces.now ≤ c.loop-piece.piece-index = omega arith in
    let before = end_all spell_piece (piece_with view) c.args.pieces.now c.loop-piece.piece-index _ _ over c.loop-piece.invariant in
    closed _ _ _ symbol.unquote _ before c.put-2.ensures

pub put_array-returns : goal.put_array-returns
put_array-returns t c =
    let over : length c.args.items.now ≤ c.loop-item.item-index = omega arith in
    let before = end_rest (symbol.punct mark.Comma) spell_item (item_with view) c.args.items.now c.loop-item.item-index c.loop-item.has_before _ _ over c.loop-item.invariant in
    closed _ _ _ (list_closing (array c.args.form)) _ before c.put_array_closing.ensures

pub put_arguments-returns : goal.put_arguments-returns
put_arguments-returns t c =
    let over : length c.args.arguments.now ≤ c.loop-argument.argument-index = omega arith in
    let before = end_rest (symbol.punct mark.Comma) spell_argument (argument_with view) c.args.arguments.now c.loop-argument.argument-index c.loop-argument.is_later _ _ over c.loop-argument.invariant in
    closed _ _ _ (symbol.punct mark.RightParen) _ before c.put_fixed-2.ensures

pub put_chain-returns : goal.put_chain-returns
put_chain-returns t c =
    let over : length c.args.suffixes.now ≤ c.loop-suffix.suffix-index = omega arith in
    end_all spell_suffix (suffix_with view) c.args.suffixes.now c.loop-suffix.suffix-index _ _ over c.loop-suffix.invariant

pub put_run-returns : goal.put_run-returns
put_run-returns t c =
    let over : length c.args.links.now ≤ c.loop-link.link-index = omega arith in
    end_all spell_link (link_with view) c.args.links.now c.loop-link.link-index _ _ over c.loop-link.invariant

pub put_steps-returns : goal.put_steps-returns
put_steps-returns t c =
    let over : length c.args.steps.now ≤ c.loop-step.step-index = omega arith in
    end_all spell_step (step_with view) c.args.steps.now c.loop-step.step-index _ _ over c.loop-step.invariant

-- ---- forms

pub put_expr-returns-in-Chain : goal.put_expr-returns-in-Chain
put_expr-returns-in-Chain t c = rw (c.in-Chain.is, view_chain) (rw (c.get-in-Chain.ensures, c.as_slice-in-Chain.ensures) at c.put_chain.ensures)

pub put_expr-returns-in-Run : goal.put_expr-returns-in-Run
put_expr-returns-in-Run t c = rw (c.in-Run.is, view_run) (rw (c.get-in-Run.ensures, c.as_slice-in-Run.ensures) at c.put_run.ensures)

pub put_new-returns-in-Variable : goal.put_new-returns-in-Variable
put_new-returns-in-Variable t c =
    let steps = rw c.as_slice.ensures at c.put_steps.ensures in
    let n = c.in-Variable.name in
    rw c.in-Variable.is
    (behind _ c.args.self.now c.put_fixed.new.self c.put_steps.new.self (λ w. symbol.keyword word.New ∷ w)
    (spell_steps (steps_from (from (spot_view n.spot) n.text) (map (step_with view) c.in-Variable.steps))) c.in_ok-put_fixed.ensures steps)

pub put_suffix-returns-in-Call : goal.put_suffix-returns-in-Call
put_suffix-returns-in-Call t c = rw c.in-Call.is (rw c.as_slice.ensures at c.put_arguments.ensures)
