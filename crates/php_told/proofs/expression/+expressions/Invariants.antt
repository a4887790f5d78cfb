use Rattle.std.proofs.Common.{◌≡◌, ◌+◌, ◌*◌, map, drop}
use Rattle.php_ast.specs.expression.View.{view}
use Rattle.php_ast.specs.expression.Parts.{link_with, piece_with}
use Rattle.php_weights.proofs.Expressions.{total, piece_weight, link_weight, weight}
use Rattle.php_told.specs.Parts.{first_of, first_in_link, first_in_piece}
use Rattle.php_told.proofs.expression.+expressions.Given as goal

abbrev pub decreases-first_in : goal.decreases-first_in
decreases-first_in l = 4 * weight l.e.now

abbrev pub decreases-first_in_binary : goal.decreases-first_in_binary
decreases-first_in_binary l = 4 * (weight l.l.now + weight l.r.now) + 1

abbrev pub decreases-first_in_assignment : goal.decreases-first_in_assignment
decreases-first_in_assignment l = 4 * (weight l.target.now + weight l.e.now) + 1

abbrev pub decreases-first_in_run : goal.decreases-first_in_run
decreases-first_in_run l = 4 * (weight l.first.now + total link_weight (map (link_with weight) l.links.now)) + 3

abbrev pub decreases-first_in_links : goal.decreases-first_in_links
decreases-first_in_links l = 4 * total link_weight (map (link_with weight) l.links.now) + 2

abbrev pub decreases-first_in_link : goal.decreases-first_in_link
decreases-first_in_link l = 4 * link_weight (link_with weight l.link.now) + 1

abbrev pub decreases-first_in_pieces : goal.decreases-first_in_pieces
decreases-first_in_pieces l = 4 * total piece_weight (map (piece_with weight) l.pieces.now) + 2

abbrev pub decreases-first_in_piece : goal.decreases-first_in_piece
decreases-first_in_piece l = 4 * piece_weight (piece_with weight l.piece.now) + 1

abbrev pub invariant-first_in_links-loop-link : goal.invariant-first_in_links-loop-link
invariant-first_in_links-loop-link l =
    first_of first_in_link (map (link_with view) (drop l.link-index l.links)) ≡ first_of first_in_link (map (link_with view) l.links)

abbrev pub invariant-first_in_pieces-loop-piece : goal.invariant-first_in_pieces-loop-piece
invariant-first_in_pieces-loop-piece l =
    first_of first_in_piece (map (piece_with view) (drop l.piece-index l.pieces)) ≡ first_of first_in_piece (map (piece_with view) l.pieces)
