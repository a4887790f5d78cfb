use Rattle.std.proofs.Common.{length, ◌≤◌, ◌∙◌, ◌&&◌, ◌||◌, ap, arith}
use Rattle.php_ast.specs.expression.View.{spot_view}
use Rattle.php_legality.specs.First.{first_from}
use Rattle.php_legality.specs.Lists.{where_true}
use Rattle.php_duplicates.specs.Saw.{duplicate_at}
use Rattle.php_duplicates.proofs.Labels.{step_labels, end_labels}
use Rattle.php_duplicates.proofs.walk.walk_labels.Goals as goal

pub loop-case-preserved : goal.loop-case-preserved
loop-case-preserved c =
    step_labels c.args.cases.now c.loop-case.case-index c.case-item.result c.loop-case.has_default _ _ _ _ c.loop-case-test.true c.case-item.is c.loop-case.invariant
    (c.either-has_default.ensures ∙ ap (λ b. c.loop-case.has_default || b) c.is_default-is_one.ensures)
    (c.met_if-first.ensures
    ∙ ap (λ b. first_from c.loop-case.first (where_true b (duplicate_at (spot_view c.case-item.result.spot)))) (c.both.ensures ∙ ap (λ b. c.loop-case.has_default && b) c.is_default-is_one.ensures))

pub returns : goal.returns
returns c =
    let past : length c.args.cases.now ≤ c.loop-case.case-index = omega arith in
    end_labels c.args.cases.now c.loop-case.case-index c.loop-case.has_default _ _ past c.loop-case.invariant
