use Rattle.std.proofs.Common.{map, length, ◌≤◌, arith, ap, ◌∙◌}
use Rattle.php_ast.specs.statement.Tree.{no_elseif, no_elseif_list, no_case, no_catch}
use Rattle.php_ast.specs.statement.View.{statement_view, elseifs_from, elseif_lists_from, cases_from, catches_from, name_view}
use Rattle.php_legality.specs.Statements as meant
use Rattle.php_bodies.specs.Own as spec
use Rattle.php_ast.specs.statement.Parts as part
use Rattle.php_bodies.proofs.OwnLemmas.{at_test, at_label, tests_over, list_tests_over, labels_over}
use Rattle.php_bodies.proofs.Lists.{names_of, names_over}
use Rattle.php_places.specs.Over.{over}
use Rattle.php_places.proofs.Lists.{step_over, end_over}
use Rattle.php_bodies.proofs.own.walk_elseif_tests.Goals as goal

pub loop-part-init : goal.loop-part-init
loop-part-init c = tests_over c.args.scope no_elseif (map (part.elseif_with statement_view) c.args.parts.now) c.args.met

pub loop-part-preserved : goal.loop-part-preserved
loop-part-preserved c =
    step_over (at_test c.args.scope) (part.elseif_with statement_view) c.args.parts.now c.loop-part.part-index c.part-item.result _ _ _ c.loop-part-test.true c.part-item.is c.loop-part.invariant (c.walk_value-first.ensures)

pub returns : goal.returns
returns c =
    let past : length c.args.parts.now ≤ c.loop-part.part-index = omega arith in
    end_over (at_test c.args.scope) (part.elseif_with statement_view) c.args.parts.now c.loop-part.part-index _ _ past c.loop-part.invariant
