use Rattle.std.proofs.Common.{◌≡◌, map, drop}
use Rattle.php_ast.specs.expression.View.{view}
use Rattle.php_told.specs.First.{first_in}
use Rattle.php_told.specs.Parts.{first_of}
use Rattle.php_told.proofs.statement.first_in_values.Given as goal

abbrev pub invariant-loop-value : goal.invariant-loop-value
invariant-loop-value l = first_of first_in (map view (drop l.value-index l.values)) ≡ first_of first_in (map view l.values)
