use Rattle.std.proofs.Common.{◌≡◌, map, drop}
use Rattle.php_ast.specs.statement.View.{variable_view}
use Rattle.php_duplicates.specs.Over.{over}
use Rattle.php_duplicates.specs.Met.{see_variable}
use Rattle.php_duplicates.proofs.member.see_variables.Given as goal

abbrev pub invariant-loop-variable : goal.invariant-loop-variable
invariant-loop-variable l = over see_variable (map variable_view (drop l.variable-index l.variables)) l.seen ≡ over see_variable (map variable_view l.variables) l.fn.seen
