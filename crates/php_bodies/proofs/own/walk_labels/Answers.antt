use Rattle.std.proofs.Common.{map, length, ◌≤◌, arith, ap, ◌∙◌}
use Rattle.php_ast.specs.statement.Tree.{no_elseif, no_elseif_list, no_case, no_catch}
use Rattle.php_ast.specs.statement.View.{statement_view, elseifs_from, elseif_lists_from, cases_from, catches_from, name_view}
use Rattle.php_legality.specs.Statements as meant
use Rattle.php_bodies.specs.Own as spec
use Rattle.php_ast.specs.statement.Parts as part
use Rattle.php_bodies.proofs.OwnLemmas.{at_test, at_label, tests_over, list_tests_over, labels_over}
use Rattle.php_bodies.proofs.Lists.{names_of, names_over}
use Rattle.php_places.specs.Over.{over}
use Rattle.php_places.proofs.Lists.{step_over, end_over}
use Rattle.php_bodies.proofs.own.walk_labels.Goals as goal

pub loop-case-init : goal.loop-case-init
loop-case-init c = labels_over c.args.scope no_case (map (part.case_with statement_view) c.args.cases.now) c.args.met

pub loop-case-preserved : goal.loop-case-preserved
loop-case-preserved c =
    step_over (at_label c.args.scope) (part.case_with statement_view) c.args.cases.now c.loop-case.case-index c.case-item.result _ _ _ c.loop-case-test.true c.case-item.is c.loop-case.invariant (c.walk_optional-first.ensures)

pub returns : goal.returns
returns c =
    let past : length c.args.cases.now ≤ c.loop-case.case-index = omega arith in
    end_over (at_label c.args.scope) (part.case_with statement_view) c.args.cases.now c.loop-case.case-index _ _ past c.loop-case.invariant
