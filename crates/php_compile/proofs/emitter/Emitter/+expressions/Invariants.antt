use Rattle.std.proofs.Common.{◌≡◌, ◌+◌, ◌*◌, ◌++◌, map}
use Rattle.php_ast.specs.expression.Parts.{link_with, piece_with}
use Rattle.php_ast.specs.expression.View.{view}
use Rattle.php_meaning.specs.Heights.{piece_count, peak_of, peak_of_pieces}
use Rattle.php_compile.specs.ExpressionCode.{expr_code, pieces_code}
use Rattle.php_weights.proofs.Expressions.{total, piece_weight, link_weight, weight}
use Rattle.php_compile.proofs.CodeLoops.{pieces_to, links_to}
use Rattle.php_compile.proofs.emitter.Emitter.+expressions.Given as goal

abbrev pub decreases-put_expr : goal.decreases-put_expr
decreases-put_expr l = 6 * weight l.e.now

abbrev pub decreases-put_prefix : goal.decreases-put_prefix
decreases-put_prefix l = 6 * weight l.operand.now + 1

abbrev pub decreases-put_binary : goal.decreases-put_binary
decreases-put_binary l = 6 * (weight l.left.now + weight l.right.now) + 3

abbrev pub decreases-put_right : goal.decreases-put_right
decreases-put_right l = 6 * weight l.right.now + 1

abbrev pub decreases-put_assign : goal.decreases-put_assign
decreases-put_assign l = 6 * (weight l.target.now + weight l.value.now) + 1

abbrev pub decreases-put_template : goal.decreases-put_template
decreases-put_template l = 6 * total piece_weight (map (piece_with weight) l.pieces.now) + 4

abbrev pub decreases-put_pieces : goal.decreases-put_pieces
decreases-put_pieces l = 6 * total piece_weight (map (piece_with weight) l.pieces.now) + 3

abbrev pub decreases-put_piece : goal.decreases-put_piece
decreases-put_piece l = 6 * piece_weight (piece_with weight l.piece.now) + 2

abbrev pub decreases-put_run : goal.decreases-put_run
decreases-put_run l = 6 * (weight l.first.now + total link_weight (map (link_with weight) l.links.now)) + 3

abbrev pub decreases-put_link : goal.decreases-put_link
decreases-put_link l = 6 * link_weight (link_with weight l.link.now) + 2

abbrev pub invariant-put_pieces-loop-piece : goal.invariant-put_pieces-loop-piece
invariant-put_pieces-loop-piece l =
    (l.self.code ≡ l.fn.self.code ++ pieces_code l.names.keys (pieces_to l.piece-index l.pieces))
    × (l.self.peak ≡ peak_of_pieces l.names.keys l.standing l.fn.self.peak (pieces_to l.piece-index l.pieces))
    × (l.count ≡ piece_count (pieces_to l.piece-index l.pieces))

abbrev pub invariant-put_run-loop-link : goal.invariant-put_run-loop-link
invariant-put_run-loop-link l =
    (l.self.code ≡ l.fn.self.code ++ expr_code l.names.keys (links_to (view l.first) l.link-index l.links))
    × (l.self.peak ≡ peak_of l.names.keys l.standing l.fn.self.peak (links_to (view l.first) l.link-index l.links))
