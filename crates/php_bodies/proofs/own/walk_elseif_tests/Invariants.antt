use Rattle.std.proofs.Common.{◌≡◌, map, drop}
use Rattle.php_ast.specs.statement.Tree.{no_elseif, no_elseif_list, no_case, no_catch}
use Rattle.php_ast.specs.statement.View.{statement_view, elseifs_from, elseif_lists_from, cases_from, catches_from, name_view}
use Rattle.php_legality.specs.Statements as meant
use Rattle.php_bodies.specs.Own as spec
use Rattle.php_ast.specs.statement.Parts as part
use Rattle.php_bodies.proofs.OwnLemmas.{at_test, at_label}
use Rattle.php_bodies.proofs.Lists.{names_of}
use Rattle.php_places.specs.Over.{over}
use Rattle.php_bodies.proofs.own.walk_elseif_tests.Given as goal

abbrev pub invariant-loop-part : goal.invariant-loop-part
invariant-loop-part l = over (at_test l.scope) (map (part.elseif_with statement_view) (drop l.part-index l.parts)) l.first ≡ over (spec.met_any l.scope) (meant.elseif_tests (elseifs_from no_elseif (map (part.elseif_with statement_view) l.parts))) l.fn.met
