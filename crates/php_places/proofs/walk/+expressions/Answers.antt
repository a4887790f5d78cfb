use Rattle.std.specs.Prelude.{◌==◌}
use Rattle.std.proofs.Common.{map, length, ◌≤◌, arith, refl, ap, sym, ◌∙◌}
use Rattle.php_ast.specs.expression.Tree.{array, from}
use Rattle.php_ast.specs.expression.View.{spot_view, view, class_view}
use Rattle.php_ast.specs.expression.Parts as part
use Rattle.php_legality.specs.Expressions.{valued, asked}
use Rattle.php_weights.proofs.Expressions.{heavier, total, piece_weight, item_weight, argument_weight, suffix_weight, class_weight, step_weight, link_weight, weight}
use Rattle.php_weights.proofs.Statements.{same}
use Rattle.php_places.specs.Met as spec
use Rattle.php_places.specs.Elements as element
use Rattle.php_places.specs.Over.{over}
use Rattle.php_places.specs.Uses.{use_view}
use Rattle.php_places.proofs.Lists.{step_over, end_over}
use Rattle.php_places.proofs.ShapeLemmas.{empty_run, empty_chain}
use Rattle.php_places.proofs.WalkLemmas.{steps_over, walked_template, walked_array, walked_is_set, walked_new_with, walked_chain, walked_run}
use Rattle.php_places.proofs.walk.+expressions.Goals as goal

-- ---- walk_values

pub walk_values-walk_used-first-requires : goal.walk_values-walk_used-first-requires
walk_values-walk_used-first-requires t c =
    let h = heavier same weight c.args.es.now c.args.es.now c.loop-e.e-index c.e-item.result refl c.loop-e-test.true c.e-item.is in
    (omega (arith, h), tt)

pub walk_values-loop-e-preserved : goal.walk_values-loop-e-preserved
walk_values-loop-e-preserved t c =
    step_over (spec.met_used c.args.scope (use_view c.args.usage)) view c.args.es.now c.loop-e.e-index c.e-item.result _ _ _ c.loop-e-test.true c.e-item.is c.loop-e.invariant c.walk_used-first.ensures

pub walk_values-returns : goal.walk_values-returns
walk_values-returns t c =
    let past : length c.args.es.now ≤ c.loop-e.e-index = omega arith in
    end_over (spec.met_used c.args.scope (use_view c.args.usage)) view c.args.es.now c.loop-e.e-index _ _ past c.loop-e.invariant

-- ---- walk_pieces

pub walk_pieces-walk_piece-first-requires : goal.walk_pieces-walk_piece-first-requires
walk_pieces-walk_piece-first-requires t c =
    let h = heavier piece_weight (part.piece_with weight) c.args.pieces.now c.args.pieces.now c.loop-piece.piece-index c.piece-item.result refl c.loop-piece-test.true c.piece-item.is in
    (omega (arith, h), tt)

pub walk_pieces-loop-piece-preserved : goal.walk_pieces-loop-piece-preserved
walk_pieces-loop-piece-preserved t c =
    step_over (element.met_piece c.args.scope) (part.piece_with view) c.args.pieces.now c.loop-piece.piece-index c.piece-item.result _ _ _ c.loop-piece-test.true c.piece-item.is c.loop-piece.invariant c.walk_piece-first.ensures

pub walk_pieces-returns : goal.walk_pieces-returns
walk_pieces-returns t c =
    let past : length c.args.pieces.now ≤ c.loop-piece.piece-index = omega arith in
    end_over (element.met_piece c.args.scope) (part.piece_with view) c.args.pieces.now c.loop-piece.piece-index _ _ past c.loop-piece.invariant

-- ---- walk_items

pub walk_items-walk_item-first-requires : goal.walk_items-walk_item-first-requires
walk_items-walk_item-first-requires t c =
    let h = heavier item_weight (part.item_with weight) c.args.items.now c.args.items.now c.loop-item.item-index c.item-item.result refl c.loop-item-test.true c.item-item.is in
    (omega (arith, h), tt)

pub walk_items-loop-item-preserved : goal.walk_items-loop-item-preserved
walk_items-loop-item-preserved t c =
    step_over (element.met_item c.args.scope (use_view c.args.usage)) (part.item_with view) c.args.items.now c.loop-item.item-index c.item-item.result _ _ _ c.loop-item-test.true c.item-item.is c.loop-item.invariant c.walk_item-first.ensures

pub walk_items-returns : goal.walk_items-returns
walk_items-returns t c =
    let past : length c.args.items.now ≤ c.loop-item.item-index = omega arith in
    end_over (element.met_item c.args.scope (use_view c.args.usage)) (part.item_with view) c.args.items.now c.loop-item.item-index _ _ past c.loop-item.invariant

-- ---- walk_arguments

pub walk_arguments-walk_argument-first-requires : goal.walk_arguments-walk_argument-first-requires
walk_arguments-walk_argument-first-requires t c =
    let h = heavier argument_weight (part.argument_with weight) c.args.arguments.now c.args.arguments.now c.loop-argument.argument-index c.argument-item.result refl c.loop-argument-test.true c.argument-item.is in
    (omega (arith, h), tt)

pub walk_arguments-loop-argument-preserved : goal.walk_arguments-loop-argument-preserved
walk_arguments-loop-argument-preserved t c =
    step_over (element.met_argument c.args.scope) (part.argument_with view) c.args.arguments.now c.loop-argument.argument-index c.argument-item.result _ _ _ c.loop-argument-test.true c.argument-item.is c.loop-argument.invariant c.walk_argument-first.ensures

pub walk_arguments-returns : goal.walk_arguments-returns
walk_arguments-returns t c =
    let past : length c.args.arguments.now ≤ c.loop-argument.argument-index = omega arith in
    end_over (element.met_argument c.args.scope) (part.argument_with view) c.args.arguments.now c.loop-argument.argument-index _ _ past c.loop-argument.invariant

-- ---- walk_suffixes

pub walk_suffixes-walk_suffix-first-requires : goal.walk_suffixes-walk_suffix-first-requires
walk_suffixes-walk_suffix-first-requires t c =
    let h = heavier suffix_weight (part.suffix_with weight) c.args.suffixes.now c.args.suffixes.now c.loop-suffix.suffix-index c.suffix-item.result refl c.loop-suffix-test.true c.suffix-item.is in
    (omega (arith, h), tt)

pub walk_suffixes-loop-suffix-preserved : goal.walk_suffixes-loop-suffix-preserved
walk_suffixes-loop-suffix-preserved t c =
    step_over (element.met_suffix c.args.scope) (part.suffix_with view) c.args.suffixes.now c.loop-suffix.suffix-index c.suffix-item.result _ _ _ c.loop-suffix-test.true c.suffix-item.is c.loop-suffix.invariant c.walk_suffix-first.ensures

pub walk_suffixes-returns : goal.walk_suffixes-returns
walk_suffixes-returns t c =
    let past : length c.args.suffixes.now ≤ c.loop-suffix.suffix-index = omega arith in
    end_over (element.met_suffix c.args.scope) (part.suffix_with view) c.args.suffixes.now c.loop-suffix.suffix-index _ _ past c.loop-suffix.invariant

-- ---- walk_steps

pub walk_steps-walk_step-first-requires : goal.walk_steps-walk_step-first-requires
walk_steps-walk_step-first-requires t c =
    let h = heavier step_weight (part.step_with weight) c.args.steps.now c.args.steps.now c.loop-step.step-index c.step-item.result refl c.loop-step-test.true c.step-item.is in
    (omega (arith, h), tt)

pub walk_steps-loop-step-preserved : goal.walk_steps-loop-step-preserved
walk_steps-loop-step-preserved t c =
    step_over (element.met_step c.args.scope) (part.step_with view) c.args.steps.now c.loop-step.step-index c.step-item.result _ _ _ c.loop-step-test.true c.step-item.is c.loop-step.invariant c.walk_step-first.ensures

pub walk_steps-returns : goal.walk_steps-returns
walk_steps-returns t c =
    let past : length c.args.steps.now ≤ c.loop-step.step-index = omega arith in
    end_over (element.met_step c.args.scope) (part.step_with view) c.args.steps.now c.loop-step.step-index _ _ past c.loop-step.invariant

-- ---- walk_links

pub walk_links-walk_link-first-requires : goal.walk_links-walk_link-first-requires
walk_links-walk_link-first-requires t c =
    let h = heavier link_weight (part.link_with weight) c.args.links.now c.args.links.now c.loop-link.link-index c.link-item.result refl c.loop-link-test.true c.link-item.is in
    (omega (arith, h), tt)

pub walk_links-loop-link-preserved : goal.walk_links-loop-link-preserved
walk_links-loop-link-preserved t c =
    step_over (element.met_link c.args.scope) (part.link_with view) c.args.links.now c.loop-link.link-index c.link-item.result _ _ _ c.loop-link-test.true c.link-item.is c.loop-link.invariant c.walk_link-first.ensures

pub walk_links-returns : goal.walk_links-returns
walk_links-returns t c =
    let past : length c.args.links.now ≤ c.loop-link.link-index = omega arith in
    end_over (element.met_link c.args.scope) (part.link_with view) c.args.links.now c.loop-link.link-index _ _ past c.loop-link.invariant

-- ---- forms with lists

pub walk_class_steps-returns-in-Variable : goal.walk_class_steps-returns-in-Variable
walk_class_steps-returns-in-Variable t c =
    rw c.in-Variable.is
    (c.walk_steps.ensures ∙ ap (λ xs. over (element.met_step c.args.scope) (map (part.step_with view) xs) c.args.met) c.as_slice.ensures
    ∙ steps_over c.args.scope (from (spot_view c.in-Variable.field-0.spot) c.in-Variable.field-0.text) (map (part.step_with view) c.in-Variable.steps) c.args.met)

pub walk_inside-returns-in-Template : goal.walk_inside-returns-in-Template
walk_inside-returns-in-Template t c =
    rw c.in-Template.is
    (c.walk_pieces.ensures ∙ ap (λ xs. over (element.met_piece c.args.scope) (map (part.piece_with view) xs) c.args.met) c.as_slice.ensures
    ∙ walked_template c.args.scope (use_view c.args.usage) c.in-Template.field-0 c.in-Template.pieces c.args.met)

pub walk_inside-returns-in-Array : goal.walk_inside-returns-in-Array
walk_inside-returns-in-Array t c =
    rw c.in-Array.is
    (c.walk_items.ensures ∙ ap (λ xs. over (element.met_item c.args.scope (use_view c.item_use.result)) (map (part.item_with view) xs) c.args.met) c.as_slice-in-Array.ensures
    ∙ ap (λ u. over (element.met_item c.args.scope u) (map (part.item_with view) c.in-Array.items) c.args.met) c.item_use.ensures
    ∙ walked_array c.args.scope (use_view c.args.usage) c.in-Array.field-0 c.in-Array.form c.in-Array.items c.args.met)

pub walk_inside-returns-in-IsSet : goal.walk_inside-returns-in-IsSet
walk_inside-returns-in-IsSet t c =
    rw c.in-IsSet.is
    (c.walk_values.ensures ∙ ap (λ xs. over (spec.met_used c.args.scope asked) (map view xs) c.args.met) c.as_slice-in-IsSet.ensures
    ∙ walked_is_set c.args.scope (use_view c.args.usage) c.in-IsSet.field-0 c.in-IsSet.es c.args.met)

pub walk_inside-returns-then-is_empty : goal.walk_inside-returns-then-is_empty
walk_inside-returns-then-is_empty t c =
    let empty = sym c.if-is_empty.true ∙ c.is_empty.ensures ∙ ap (λ xs. length xs == 0) c.as_slice-in-Chain.ensures in
    rw c.in-Chain.is
    (c.walk_inside.ensures ∙ ap (λ e. spec.met_inside c.args.scope (use_view c.args.usage) (view e) c.args.met) c.get-then-is_empty.ensures
    ∙ ap (λ e. spec.met_inside c.args.scope (use_view c.args.usage) e c.args.met) (empty_chain c.in-Chain.e c.in-Chain.suffixes empty))

pub walk_inside-returns-else-is_empty : goal.walk_inside-returns-else-is_empty
walk_inside-returns-else-is_empty t c =
    rw c.in-Chain.is
    (c.walk_chain.ensures ∙ ap (λ e. element.met_chain c.args.scope (view e) (map (part.suffix_with view) c.as_slice-else-is_empty.result.now) c.args.met) c.get-else-is_empty.ensures
    ∙ ap (λ xs. element.met_chain c.args.scope (view c.in-Chain.e) (map (part.suffix_with view) xs) c.args.met) c.as_slice-else-is_empty.ensures
    ∙ walked_chain c.args.scope (use_view c.args.usage) c.in-Chain.e c.in-Chain.suffixes c.args.met
    (sym c.if-is_empty.false ∙ c.is_empty.ensures ∙ ap (λ xs. length xs == 0) c.as_slice-in-Chain.ensures))

pub walk_inside-returns-in-NewWith : goal.walk_inside-returns-in-NewWith
walk_inside-returns-in-NewWith t c =
    rw c.in-NewWith.is
    (c.walk_arguments.ensures ∙ ap (λ xs. over (element.met_argument c.args.scope) (map (part.argument_with view) xs) c.walk_class-met.result) c.as_slice-in-NewWith.ensures
    ∙ ap (over (element.met_argument c.args.scope) (map (part.argument_with view) c.in-NewWith.arguments))
    (c.walk_class-met.ensures ∙ ap (λ x. element.met_new c.args.scope (class_view (part.class_with view x)) c.args.met) c.get-in-NewWith.ensures)
    ∙ walked_new_with c.args.scope (use_view c.args.usage) c.in-NewWith.field-0 c.in-NewWith.class c.in-NewWith.arguments c.args.met)

pub walk_inside-returns-then-is_empty-2 : goal.walk_inside-returns-then-is_empty-2
walk_inside-returns-then-is_empty-2 t c =
    let empty = sym c.if-is_empty-2.true ∙ c.is_empty-in-Run.ensures ∙ ap (λ xs. length xs == 0) c.as_slice-in-Run.ensures in
    rw c.in-Run.is
    (c.walk_inside-then-is_empty-2.ensures ∙ ap (λ e. spec.met_inside c.args.scope (use_view c.args.usage) (view e) c.args.met) c.get-then-is_empty-2.ensures
    ∙ ap (λ e. spec.met_inside c.args.scope (use_view c.args.usage) e c.args.met) (empty_run c.in-Run.e c.in-Run.links empty))

pub walk_inside-returns-else-is_empty-2 : goal.walk_inside-returns-else-is_empty-2
walk_inside-returns-else-is_empty-2 t c =
    rw c.in-Run.is
    (c.walk_links.ensures ∙ ap (λ xs. over (element.met_link c.args.scope) (map (part.link_with view) xs) c.walk_used-met.result) c.as_slice-else-is_empty-2.ensures
    ∙ ap (over (element.met_link c.args.scope) (map (part.link_with view) c.in-Run.links))
    (c.walk_used-met.ensures ∙ ap (λ e. spec.met_used c.args.scope valued (view e) c.args.met) c.get-else-is_empty-2.ensures)
    ∙ walked_run c.args.scope (use_view c.args.usage) c.in-Run.e c.in-Run.links c.args.met
    (sym c.if-is_empty-2.false ∙ c.is_empty-in-Run.ensures ∙ ap (λ xs. length xs == 0) c.as_slice-in-Run.ensures))
