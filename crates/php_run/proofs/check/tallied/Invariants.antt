use Rattle.std.proofs.Common.{◌≤◌, map, drop}
use Rattle.php_ast.specs.declaration.View.{item_view}
use Rattle.php_run.proofs.Counts.{GoesOn}
use Rattle.php_run.proofs.check.tallied.Given as goal

abbrev pub invariant-loop-item : goal.invariant-loop-item
invariant-loop-item l = record {
  goes_on : GoesOn (map item_view l.items) (map item_view (drop l.item-index l.items)) l.functions;
  few : l.functions ≤ l.item-index;
}
