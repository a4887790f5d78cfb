use Rattle.std.proofs.Common.{◌≡◌, map, drop}
use Rattle.php_ast.specs.declaration.View.{param_view}
use Rattle.php_forms.specs.Signatures as spec
use Rattle.php_ast.specs.statement.View.{sequence}
use Rattle.php_legality.specs.Lists.{elements}
use Rattle.php_places.specs.Over.{over}
use Rattle.php_forms.proofs.signature.pass_params.Given as goal

abbrev pub invariant-loop-param : goal.invariant-loop-param
invariant-loop-param l = over (spec.met_param) (map param_view (drop l.param-index l.params)) l.passed ≡ over (spec.met_param) (elements (sequence param_view l.params)) (spec.before_params l.fn.met)
