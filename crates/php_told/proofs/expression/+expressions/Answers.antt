use Rattle.std.specs.Prelude.{◌==◌}
use Rattle.std.specs.List.{list_all}
use Rattle.std.specs.Option.{option_or}
use Rattle.std.proofs.Common.{Some, cond, map, length, arith, refl, ap, sym, ◌∙◌}
use Rattle.php_ast.specs.expression.View.{spot_view, view, with_links}
use Rattle.php_ast.specs.expression.Parts.{link_with, piece_with}
use Rattle.php_weights.proofs.Expressions.{heavier, link_weight, piece_weight, weight}
use Rattle.php_legality.specs.Places.{first_note}
use Rattle.php_told.specs.First.{first_in}
use Rattle.php_told.specs.Parts.{first_of, is_short_piece, first_in_piece, first_in_link}
use Rattle.php_told.proofs.Nodes.{empty_chain, chain_first, links_first, run_first, template_first}
use Rattle.php_told.proofs.expression.+expressions.Goals as goal

pub first_in_links-first_in_link-requires : goal.first_in_links-first_in_link-requires
first_in_links-first_in_link-requires t c =
    let h = heavier link_weight (link_with weight) c.args.links.now c.args.links.now c.loop-link.link-index c.link-item.result refl c.loop-link-test.true c.link-item.is in
    (omega (arith, h), tt)

pub first_in_pieces-first_in_piece-requires : goal.first_in_pieces-first_in_piece-requires
first_in_pieces-first_in_piece-requires t c =
    let h = heavier piece_weight (piece_with weight) c.args.pieces.now c.args.pieces.now c.loop-piece.piece-index c.piece-item.result refl c.loop-piece-test.true c.piece-item.is in
    (omega (arith, h), tt)

pub first_in-returns-then-are_short_pieces : goal.first_in-returns-then-are_short_pieces
first_in-returns-then-are_short_pieces t c =
    let short = sym c.if-are_short_pieces.true ∙ c.are_short_pieces.ensures ∙ ap (λ xs. list_all is_short_piece (map (piece_with view) xs)) c.as_slice.ensures in
    rw c.in-Template.is
    (c.first_in_pieces.ensures ∙ ap (λ xs. first_of first_in_piece (map (piece_with view) xs)) c.as_slice-then-are_short_pieces.ensures
    ∙ ap (λ b. cond b (first_of first_in_piece (map (piece_with view) c.in-Template.pieces)) (Some (spot_view c.in-Template.spot))) short
    ∙ sym (template_first c.in-Template.spot c.in-Template.pieces))

pub first_in-returns-else-are_short_pieces : goal.first_in-returns-else-are_short_pieces
first_in-returns-else-are_short_pieces t c =
    let long = sym c.if-are_short_pieces.false ∙ c.are_short_pieces.ensures ∙ ap (λ xs. list_all is_short_piece (map (piece_with view) xs)) c.as_slice.ensures in
    rw c.in-Template.is
    (ap (λ b. cond b (first_of first_in_piece (map (piece_with view) c.in-Template.pieces)) (Some (spot_view c.in-Template.spot))) long
    ∙ sym (template_first c.in-Template.spot c.in-Template.pieces))

pub first_in-returns-then-is_empty : goal.first_in-returns-then-is_empty
first_in-returns-then-is_empty t c =
    let plain = sym c.if-is_empty.true ∙ c.is_empty.ensures ∙ ap (λ xs. length xs == 0) c.as_slice-in-Chain.ensures in
    rw c.in-Chain.is
    (c.first_in-then-is_empty.ensures ∙ ap (λ e. first_in (view e)) c.get-then-is_empty.ensures ∙ ap (λ e. first_in e) (empty_chain c.in-Chain.inner c.in-Chain.suffixes plain))

pub first_in-returns-else-is_empty : goal.first_in-returns-else-is_empty
first_in-returns-else-is_empty t c =
    let some = sym c.if-is_empty.false ∙ c.is_empty.ensures ∙ ap (λ xs. length xs == 0) c.as_slice-in-Chain.ensures in
    ap Some (c.first_spot.ensures ∙ ap (λ e. first_note (view e)) c.in-Chain.is) ∙ rw c.in-Chain.is (chain_first c.in-Chain.inner c.in-Chain.suffixes some)

pub first_in-returns-in-Run : goal.first_in-returns-in-Run
first_in-returns-in-Run t c =
    rw c.in-Run.is
    (c.first_in_run.ensures ∙ ap (λ e. first_in (with_links (view e) (map (link_with view) c.as_slice-in-Run.result.now))) c.get-in-Run.ensures
    ∙ ap (λ xs. first_in (with_links (view c.in-Run.first) (map (link_with view) xs))) c.as_slice-in-Run.ensures ∙ run_first c.in-Run.first c.in-Run.links)

pub first_in_run-returns-in-None : goal.first_in_run-returns-in-None
first_in_run-returns-in-None t c =
    let links = map (link_with view) c.args.links.now in
    let told = sym c.if-are_told_links.true ∙ c.are_told_links.ensures in
    c.first_in_links.ensures ∙ ap (λ o. option_or o (first_of first_in_link links)) c.in-None.ensures
    ∙ ap (λ b. cond b (option_or (first_in (view c.args.first.now)) (first_of first_in_link links)) (Some (first_note (view c.args.first.now)))) told
    ∙ sym (links_first (view c.args.first.now) links)

pub first_in_run-returns-in-Some : goal.first_in_run-returns-in-Some
first_in_run-returns-in-Some t c =
    let links = map (link_with view) c.args.links.now in
    let told = sym c.if-are_told_links.true ∙ c.are_told_links.ensures in
    ap (λ o. option_or o (first_of first_in_link links)) c.in-Some.ensures
    ∙ ap (λ b. cond b (option_or (first_in (view c.args.first.now)) (first_of first_in_link links)) (Some (first_note (view c.args.first.now)))) told
    ∙ sym (links_first (view c.args.first.now) links)

pub first_in_run-returns-else-are_told_links : goal.first_in_run-returns-else-are_told_links
first_in_run-returns-else-are_told_links t c =
    let links = map (link_with view) c.args.links.now in
    let not_told = sym c.if-are_told_links.false ∙ c.are_told_links.ensures in
    ap Some c.first_spot.ensures
    ∙ ap (λ b. cond b (option_or (first_in (view c.args.first.now)) (first_of first_in_link links)) (Some (first_note (view c.args.first.now)))) not_told
    ∙ sym (links_first (view c.args.first.now) links)
