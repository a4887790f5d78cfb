use Rattle.std.proofs.Common.{◌≡◌, [], map, drop}
use Rattle.php_ast.specs.declaration.View.{param_view}
use Rattle.php_duplicates.specs.Over.{over}
use Rattle.php_duplicates.specs.Met.{see_param}
use Rattle.php_duplicates.proofs.member.repeated_params.Given as goal

abbrev pub invariant-loop-param : goal.invariant-loop-param
invariant-loop-param l = over see_param (map param_view (drop l.param-index l.params)) l.seen ≡ over see_param (map param_view l.params) (record { texts = []; first = l.fn.met })
