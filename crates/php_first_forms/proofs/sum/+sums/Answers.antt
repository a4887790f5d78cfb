use Rattle.std.specs.Prelude.{◌==◌}
use Rattle.std.proofs.Common.{◌≤◌, Some, map, length, arith, refl, ap, sym, ◌∙◌}
use Rattle.php_ast.specs.expression.View.{Note, spot_view, view}
use Rattle.php_ast.specs.expression.Parts.{link_with}
use Rattle.php_weights.proofs.Expressions.{heavier, link_weight, weight}
use Rattle.php_legality.specs.Places.{first_note}
use Rattle.php_places.specs.Over.{over}
use Rattle.php_places.proofs.Lists.{step_over, end_over}
use Rattle.php_first_forms.specs.Forms.{left_in_sum}
use Rattle.php_first_forms.specs.Links.{with_operand}
use Rattle.php_first_forms.specs.Noted.{noted}
use Rattle.php_first_forms.proofs.Nodes.{chain_sum, run_sum}
use Rattle.php_first_forms.proofs.sum.+sums.Goals as goal

pub left_in_links-left_in_link-first-requires : goal.left_in_links-left_in_link-first-requires
left_in_links-left_in_link-first-requires t c =
    let h = heavier link_weight (link_with weight) c.args.links.now c.args.links.now c.loop-link.link-index c.link-item.result refl c.loop-link-test.true c.link-item.is in
    (omega (arith, h), tt)

pub left_in_links-loop-link-preserved : goal.left_in_links-loop-link-preserved
left_in_links-loop-link-preserved t c =
    step_over (with_operand (spot_view c.args.spot)) (link_with view) c.args.links.now c.loop-link.link-index c.link-item.result _ _ _ c.loop-link-test.true c.link-item.is c.loop-link.invariant c.left_in_link-first.ensures

pub left_in_links-returns : goal.left_in_links-returns
left_in_links-returns t c =
    let past : length c.args.links.now ≤ c.loop-link.link-index = omega arith in
    end_over (with_operand (spot_view c.args.spot)) (link_with view) c.args.links.now c.loop-link.link-index _ _ past c.loop-link.invariant

pub left_in_sum-returns-else-is_empty : goal.left_in_sum-returns-else-is_empty
left_in_sum-returns-else-is_empty t c =
    let some = sym c.if-is_empty.false ∙ c.is_empty.ensures ∙ ap (λ xs. length xs == 0) c.as_slice.ensures in
    ap Some (c.first_spot.ensures ∙ ap (λ e. first_note (view e)) c.in-Chain.is) ∙ rw c.in-Chain.is (chain_sum c.in-Chain.inner c.in-Chain.suffixes some)

pub left_in_sum-returns-in-Run : goal.left_in_sum-returns-in-Run
left_in_sum-returns-in-Run t c =
    rw c.in-Run.is
    (c.left_in_links.ensures ∙ ap (λ xs. over (with_operand (spot_view c.first_spot-in-Run.result)) (map (link_with view) xs) (noted c.left_in_sum-met.result)) c.as_slice-in-Run.ensures
    ∙ ap (λ met. over (with_operand (spot_view c.first_spot-in-Run.result)) (map (link_with view) c.in-Run.links) met) (c.left_in_sum-met.ensures ∙ ap (λ e. left_in_sum (view e)) c.get-in-Run.ensures)
    ∙ ap (λ at. over (with_operand at) (map (link_with view) c.in-Run.links) (left_in_sum (view c.in-Run.first))) (c.first_spot-in-Run.ensures ∙ ap (λ e. first_note (view e)) c.in-Run.is)
    ∙ run_sum c.in-Run.first c.in-Run.links)
