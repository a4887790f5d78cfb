use Rattle.std.proofs.Common.{◌≡◌, length, map}
use Rattle.php_lex_pieces.specs.Words.{look_up}
use Rattle.php_lex_pieces.proofs.words.cast_in.Given as goal

abbrev pub invariant-loop-table : goal.invariant-loop-table
invariant-loop-table l = look_up (map (λ row. (row.0.now, row.1)) l.table) l.word ≡ look_up (map (λ row. (row.0.now, row.1)) l.initial.table) l.word

abbrev pub decreases-loop-table : goal.decreases-loop-table
decreases-loop-table l = length l.table
