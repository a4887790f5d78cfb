use Rattle.std.specs.List.{list_all}
use Rattle.std.proofs.Common.{◌≡◌, map, drop}
use Rattle.php_ast.specs.expression.View.{view}
use Rattle.php_ast.specs.expression.Parts.{piece_with}
use Rattle.php_told.specs.Parts.{is_short_piece}
use Rattle.php_told.proofs.expression.are_short_pieces.Given as goal

abbrev pub invariant-loop-piece : goal.invariant-loop-piece
invariant-loop-piece l = list_all is_short_piece (map (piece_with view) (drop l.piece-index l.pieces)) ≡ list_all is_short_piece (map (piece_with view) l.pieces)
