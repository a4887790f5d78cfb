use Rattle.std.proofs.Common.{◌≡◌, map, drop}
use Rattle.php_ast.specs.statement.Tree.{no_elseif, no_elseif_list, no_case, no_catch}
use Rattle.php_ast.specs.statement.View.{statement_view, elseifs_from, elseif_lists_from, cases_from, catches_from, name_view}
use Rattle.php_legality.specs.Statements as meant
use Rattle.php_bodies.specs.Own as spec
use Rattle.php_ast.specs.statement.Parts as part
use Rattle.php_bodies.proofs.OwnLemmas.{at_test, at_label}
use Rattle.php_bodies.proofs.Lists.{names_of}
use Rattle.php_places.specs.Over.{over}
use Rattle.php_bodies.proofs.words.check_catches.Given as goal

abbrev pub invariant-loop-catch : goal.invariant-loop-catch
invariant-loop-catch l = over (names_of l.in_class) (map (part.catch_with statement_view) (drop l.catch-index l.catches)) l.first ≡ spec.met_catches l.in_class (catches_from no_catch (map (part.catch_with statement_view) l.catches)) l.fn.met
