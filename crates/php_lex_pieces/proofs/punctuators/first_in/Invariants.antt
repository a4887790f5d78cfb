use Rattle.std.proofs.Common.{◌≡◌, length, map}
use Rattle.php_lex_pieces.specs.Punctuators.{first_in}
use Rattle.php_lex_pieces.proofs.punctuators.first_in.Given as goal

abbrev pub invariant-loop-table : goal.invariant-loop-table
invariant-loop-table l = first_in (map (λ row. (row.0.now, row.1)) l.table) l.text ≡ first_in (map (λ row. (row.0.now, row.1)) l.initial.table) l.text

abbrev pub decreases-loop-table : goal.decreases-loop-table
decreases-loop-table l = length l.table
