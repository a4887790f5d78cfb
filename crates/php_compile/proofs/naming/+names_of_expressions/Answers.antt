use Rattle.std.proofs.Common.{length, ◌≤◌, arith}
use Rattle.php_ast.proofs.Views.{view_chain}
use Rattle.php_ast.specs.expression.Parts.{link_with, piece_with}
use Rattle.php_ast.specs.expression.View.{view}
use Rattle.php_weights.proofs.Expressions.{weight, part_weight, piece_weight, link_weight}
use Rattle.php_compile.proofs.NameLoops.{suffixes_named, pieces_kept, pieces_whole, links_kept, links_whole}
use Rattle.php_compile.proofs.naming.+names_of_expressions.Goals as goal

-- ---- parts of a list are no heavier than the list

pub name_pieces-name_piece-requires : goal.name_pieces-name_piece-requires
name_pieces-name_piece-requires t c =
    let h = part_weight piece_weight (piece_with weight) c.args.pieces.now c.loop-piece.piece-index c.piece-item.result c.loop-piece-test.true c.piece-item.is in
    (omega (arith, h), tt)

pub name_run-name_link-requires : goal.name_run-name_link-requires
name_run-name_link-requires t c =
    let h = part_weight link_weight (link_with weight) c.args.links.now c.loop-link.link-index c.link-item.result c.loop-link-test.true c.link-item.is in
    (omega (arith, h), tt)

-- ---- one more part, and the end

pub name_pieces-loop-piece-preserved : goal.name_pieces-loop-piece-preserved
name_pieces-loop-piece-preserved t c =
    pieces_kept _ _ _ c.args.pieces.now c.loop-piece.piece-index c.piece-item.result c.loop-piece-test.true c.piece-item.is c.loop-piece.invariant c.in_ok-name_piece.ensures

pub name_run-loop-link-preserved : goal.name_run-loop-link-preserved
name_run-loop-link-preserved t c =
    links_kept (view c.args.first.now) _ _ _ c.args.links.now c.loop-link.link-index c.link-item.result c.loop-link-test.true c.link-item.is c.loop-link.invariant c.in_ok-name_link.ensures

pub name_pieces-returns : goal.name_pieces-returns
name_pieces-returns t c =
    let over : length c.args.pieces.now ≤ c.loop-piece.piece-index = omega arith in
    pieces_whole _ _ c.args.pieces.now c.loop-piece.piece-index over c.loop-piece.invariant

pub name_run-returns : goal.name_run-returns
name_run-returns t c =
    let over : length c.args.links.now ≤ c.loop-link.link-index = omega arith in
    links_whole (view c.args.first.now) _ _ c.args.links.now c.loop-link.link-index over c.loop-link.invariant

-- ---- forms

pub name_expr-returns-in-Chain : goal.name_expr-returns-in-Chain
name_expr-returns-in-Chain t c = rw (c.in-Chain.is, view_chain, suffixes_named) (rw c.get-in-Chain.ensures at c.name_expr-in-Chain.ensures)
