use Rattle.std.proofs.Common.{◌≡◌, drop}
use Rattle.php_places.specs.Over.{over}
use Rattle.php_places.specs.Shapes as spec
use Rattle.php_places.proofs.shape.after_all.Given as goal

abbrev pub invariant-loop-suffix : goal.invariant-loop-suffix
invariant-loop-suffix l = over spec.after (drop l.suffix-index l.suffixes) l.shape ≡ over spec.after l.suffixes l.fn.before
