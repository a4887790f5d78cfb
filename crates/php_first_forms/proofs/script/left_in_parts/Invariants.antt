use Rattle.std.proofs.Common.{◌≡◌, None, map, drop}
use Rattle.php_ast.specs.expression.View.{view}
use Rattle.php_places.specs.Over.{over}
use Rattle.php_first_forms.specs.Links.{with_part}
use Rattle.php_first_forms.specs.Noted.{noted}
use Rattle.php_first_forms.proofs.script.left_in_parts.Given as goal

abbrev pub invariant-loop-part : goal.invariant-loop-part
invariant-loop-part l = over with_part (map view (drop l.part-index l.parts)) (noted l.first) ≡ over with_part (map view l.parts) None
