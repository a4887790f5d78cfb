use Rattle.std.proofs.Common.{length, ◌≤◌, arith}
use Rattle.php_ast.proofs.Views.{view_chain}
use Rattle.php_ast.specs.expression.Parts.{link_with, piece_with}
use Rattle.php_ast.specs.expression.View.{view}
use Rattle.php_weights.proofs.Expressions.{weight, part_weight, piece_weight, link_weight}
use Rattle.php_compile.proofs.CodeLoops.{suffixes_coded, suffixes_peaked, pieces_code_kept, pieces_code_whole, pieces_peak_kept, pieces_peak_whole, pieces_count_kept, pieces_count_whole, links_code_kept, links_code_whole, links_peak_kept, links_peak_whole}
use Rattle.php_compile.proofs.emitter.Emitter.+expressions.Goals as goal

-- ---- parts of a list are no heavier than the list

pub put_pieces-put_piece-requires : goal.put_pieces-put_piece-requires
put_pieces-put_piece-requires t c =
    let h = part_weight piece_weight (piece_with weight) c.args.pieces.now c.loop-piece.piece-index c.piece-item.result c.loop-piece-test.true c.piece-item.is in
    (omega (arith, h), tt)

pub put_run-put_link-requires : goal.put_run-put_link-requires
put_run-put_link-requires t c =
    let h = part_weight link_weight (link_with weight) c.args.links.now c.loop-link.link-index c.link-item.result c.loop-link-test.true c.link-item.is in
    (omega (arith, h), tt)

-- ---- one more part, and the end

pub put_pieces-loop-piece-preserved : goal.put_pieces-loop-piece-preserved
put_pieces-loop-piece-preserved t c = (
  pieces_code_kept c.args.names.now.keys _ _ _ c.args.pieces.now c.loop-piece.piece-index c.piece-item.result c.loop-piece-test.true c.piece-item.is c.loop-piece.invariant.0 c.in_ok-put_piece.ensures.code,
  pieces_peak_kept c.args.names.now.keys c.args.standing _ _ _ c.loop-piece.count _ c.args.pieces.now c.loop-piece.piece-index c.piece-item.result c.loop-piece-test.true c.piece-item.is c.loop-piece.invariant.1 c.loop-piece.invariant.2 c.in_ok-over.ensures c.in_ok-put_piece.ensures.peak,
  pieces_count_kept c.loop-piece.count _ c.args.pieces.now c.loop-piece.piece-index c.piece-item.result c.loop-piece-test.true c.piece-item.is c.loop-piece.invariant.2 c.in_ok-count.ensures,
)

pub put_run-loop-link-preserved : goal.put_run-loop-link-preserved
put_run-loop-link-preserved t c = (
  links_code_kept c.args.names.now.keys (view c.args.first.now) _ _ _ c.args.links.now c.loop-link.link-index c.link-item.result c.loop-link-test.true c.link-item.is c.loop-link.invariant.0 c.in_ok-put_link.ensures.code,
  links_peak_kept c.args.names.now.keys c.args.standing (view c.args.first.now) _ _ _ c.args.links.now c.loop-link.link-index c.link-item.result c.loop-link-test.true c.link-item.is c.loop-link.invariant.1 c.in_ok-put_link.ensures.peak,
)

pub put_pieces-returns-clause-code : goal.put_pieces-returns-clause-code
put_pieces-returns-clause-code t c =
    let over : length c.args.pieces.now ≤ c.loop-piece.piece-index = omega arith in
    pieces_code_whole c.args.names.now.keys _ _ c.args.pieces.now c.loop-piece.piece-index over c.loop-piece.invariant.0

pub put_pieces-returns-clause-peak : goal.put_pieces-returns-clause-peak
put_pieces-returns-clause-peak t c =
    let over : length c.args.pieces.now ≤ c.loop-piece.piece-index = omega arith in
    pieces_peak_whole c.args.names.now.keys c.args.standing _ _ c.args.pieces.now c.loop-piece.piece-index over c.loop-piece.invariant.1

pub put_pieces-returns-clause-count : goal.put_pieces-returns-clause-count
put_pieces-returns-clause-count t c =
    let over : length c.args.pieces.now ≤ c.loop-piece.piece-index = omega arith in
    pieces_count_whole _ c.args.pieces.now c.loop-piece.piece-index over c.loop-piece.invariant.2

pub put_run-returns-clause-code : goal.put_run-returns-clause-code
put_run-returns-clause-code t c =
    let over : length c.args.links.now ≤ c.loop-link.link-index = omega arith in
    links_code_whole c.args.names.now.keys (view c.args.first.now) _ _ c.args.links.now c.loop-link.link-index over c.loop-link.invariant.0

pub put_run-returns-clause-peak : goal.put_run-returns-clause-peak
put_run-returns-clause-peak t c =
    let over : length c.args.links.now ≤ c.loop-link.link-index = omega arith in
    links_peak_whole c.args.names.now.keys c.args.standing (view c.args.first.now) _ _ c.args.links.now c.loop-link.link-index over c.loop-link.invariant.1

-- ---- forms

pub put_expr-returns-in-Chain-clause-code : goal.put_expr-returns-in-Chain-clause-code
put_expr-returns-in-Chain-clause-code t c = rw (c.in-Chain.is, view_chain, suffixes_coded) (rw c.get-in-Chain.ensures at c.put_expr-in-Chain.ensures.code)

pub put_expr-returns-in-Chain-clause-peak : goal.put_expr-returns-in-Chain-clause-peak
put_expr-returns-in-Chain-clause-peak t c = rw (c.in-Chain.is, view_chain, suffixes_peaked) (rw c.get-in-Chain.ensures at c.put_expr-in-Chain.ensures.peak)
