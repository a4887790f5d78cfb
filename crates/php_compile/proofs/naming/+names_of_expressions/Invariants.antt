use Rattle.std.proofs.Common.{◌≡◌, ◌+◌, ◌*◌, map, take}
use Rattle.php_ast.specs.expression.Parts.{link_with, piece_with}
use Rattle.php_ast.specs.expression.Tree.{no_piece}
use Rattle.php_ast.specs.expression.View.{pieces_from, view, with_links}
use Rattle.php_meaning.specs.Slots.{names_of, names_of_pieces}
use Rattle.php_weights.proofs.Expressions.{total, piece_weight, link_weight, weight}
use Rattle.php_compile.proofs.naming.+names_of_expressions.Given as goal

abbrev pub decreases-name_expr : goal.decreases-name_expr
decreases-name_expr l = 4 * weight l.e.now

abbrev pub decreases-name_pair : goal.decreases-name_pair
decreases-name_pair l = 4 * (weight l.left.now + weight l.right.now) + 1

abbrev pub decreases-name_pieces : goal.decreases-name_pieces
decreases-name_pieces l = 4 * total piece_weight (map (piece_with weight) l.pieces.now) + 2

abbrev pub decreases-name_piece : goal.decreases-name_piece
decreases-name_piece l = 4 * piece_weight (piece_with weight l.piece.now) + 1

abbrev pub decreases-name_run : goal.decreases-name_run
decreases-name_run l = 4 * (weight l.first.now + total link_weight (map (link_with weight) l.links.now)) + 2

abbrev pub decreases-name_link : goal.decreases-name_link
decreases-name_link l = 4 * link_weight (link_with weight l.link.now) + 1

abbrev pub invariant-name_pieces-loop-piece : goal.invariant-name_pieces-loop-piece
invariant-name_pieces-loop-piece l = l.names.keys ≡ names_of_pieces l.fn.names.keys (pieces_from no_piece (map (piece_with view) (take l.piece-index l.pieces)))

abbrev pub invariant-name_run-loop-link : goal.invariant-name_run-loop-link
invariant-name_run-loop-link l = l.names.keys ≡ names_of l.fn.names.keys (with_links (view l.first) (map (link_with view) (take l.link-index l.links)))
