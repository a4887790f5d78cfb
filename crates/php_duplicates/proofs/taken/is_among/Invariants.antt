use Rattle.std.proofs.Common.{◌≡◌, length, map}
use Rattle.php_legality.specs.Taken.{is_one_of}
use Rattle.php_duplicates.proofs.taken.is_among.Given as goal

abbrev pub invariant-loop-table : goal.invariant-loop-table
invariant-loop-table l = is_one_of (map (λ word. word.now) l.table) l.name ≡ is_one_of (map (λ word. word.now) l.initial.table) l.name

abbrev pub decreases-loop-table : goal.decreases-loop-table
decreases-loop-table l = length l.table
