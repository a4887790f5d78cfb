use Rattle.std.proofs.Common.{◌≡◌, map, drop}
use Rattle.php_ast.specs.declaration.View.{param_view}
use Rattle.php_forms.specs.Signatures as spec
use Rattle.php_ast.specs.statement.View.{sequence}
use Rattle.php_legality.specs.Lists.{elements}
use Rattle.php_places.specs.Over.{over}
use Rattle.php_forms.proofs.signature.walk_defaults.Given as goal

abbrev pub invariant-loop-param : goal.invariant-loop-param
invariant-loop-param l = over (spec.met_default l.scope) (map param_view (drop l.param-index l.params)) l.first ≡ over (spec.met_default l.scope) (elements (sequence param_view l.params)) (l.fn.met)
