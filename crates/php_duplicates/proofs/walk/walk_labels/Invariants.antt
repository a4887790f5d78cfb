use Rattle.std.proofs.Common.{◌≡◌, false, drop}
use Rattle.php_duplicates.specs.Met.{labels}
use Rattle.php_duplicates.proofs.walk.walk_labels.Given as goal

abbrev pub invariant-loop-case : goal.invariant-loop-case
invariant-loop-case l = labels l.has_default (drop l.case-index l.cases) l.first ≡ labels false l.cases l.fn.met
