use Rattle.std.proofs.Common.{◌≡◌, map, drop}
use Rattle.php_ast.specs.statement.View.{sequence, name_view}
use Rattle.php_legality.specs.Lists.{elements}
use Rattle.php_bodies.specs.Own as spec
use Rattle.php_places.specs.Over.{over}
use Rattle.php_bodies.proofs.words.check_names.Given as goal

abbrev pub invariant-loop-name : goal.invariant-loop-name
invariant-loop-name l = over (spec.met_name l.in_class) (map name_view (drop l.name-index l.names)) l.first ≡ over (spec.met_name l.in_class) (elements (sequence name_view l.names)) l.fn.met
