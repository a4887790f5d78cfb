use Rattle.std.proofs.Common.{map, length, ◌≤◌, arith, ap, ◌∙◌}
use Rattle.php_ast.specs.statement.Tree.{no_elseif, no_elseif_list, no_case, no_catch}
use Rattle.php_ast.specs.statement.View.{statement_view, elseifs_from, elseif_lists_from, cases_from, catches_from, names_view}
use Rattle.php_legality.specs.Lists.{elements}
use Rattle.php_legality.specs.Statements as meant
use Rattle.php_bodies.specs.Own as spec
use Rattle.php_ast.specs.statement.Parts as part
use Rattle.php_bodies.proofs.OwnLemmas.{at_test, at_label, tests_over, list_tests_over, labels_over}
use Rattle.php_bodies.proofs.Lists.{names_of, names_over}
use Rattle.php_places.specs.Over.{over}
use Rattle.php_places.proofs.Lists.{step_over, end_over}
use Rattle.php_bodies.proofs.words.check_catches.Goals as goal

pub loop-catch-init : goal.loop-catch-init
loop-catch-init c = names_over c.args.in_class no_catch (map (part.catch_with statement_view) c.args.catches.now) c.args.met

pub loop-catch-preserved : goal.loop-catch-preserved
loop-catch-preserved c =
    step_over (names_of c.args.in_class) (part.catch_with statement_view) c.args.catches.now c.loop-catch.catch-index c.catch-item.result _ _ _ c.loop-catch-test.true c.catch-item.is c.loop-catch.invariant (c.check_names-first.ensures ∙ ap (λ ns. over (spec.met_name c.args.in_class) (elements (names_view ns)) c.loop-catch.first) c.as_slice.ensures)

pub returns : goal.returns
returns c =
    let past : length c.args.catches.now ≤ c.loop-catch.catch-index = omega arith in
    end_over (names_of c.args.in_class) (part.catch_with statement_view) c.args.catches.now c.loop-catch.catch-index _ _ past c.loop-catch.invariant
