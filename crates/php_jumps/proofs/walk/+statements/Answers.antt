use Rattle.std.proofs.Common.{map, length, ◌≤◌, arith, refl, ap, ◌∙◌, ◌∷◌}
use Rattle.php_ast.specs.statement.Tree.{no_statement, no_elseif, no_elseif_list, no_case, no_catch}
use Rattle.php_ast.specs.statement.View.{statement_view, list_view, catches_from}
use Rattle.php_jumps.specs.Met.{met_statement, met_list, met_catches}
use Rattle.php_ast.specs.statement.Parts.{elseif_with, elseif_list_with, case_with, catch_with}
use Rattle.php_jumps.proofs.Lists.{at_elseif, at_elseif_list, at_case, at_catch, list_over, elseifs_over, elseif_lists_over, cases_over, catches_over, step_over, end_over}
use Rattle.php_legality.specs.Statements.{finally_block}
use Rattle.php_jumps.proofs.Views.{walked_try}
use Rattle.php_weights.proofs.Expressions.{heavier, total}
use Rattle.php_weights.proofs.Statements.{same, elseif_weight, elseif_list_weight, case_weight, catch_weight, statement_weight}
use Rattle.php_jumps.proofs.walk.+statements.Goals as goal

-- ---- parts of a list are no heavier than the list

pub walk_list-walk_statement-first-requires : goal.walk_list-walk_statement-first-requires
walk_list-walk_statement-first-requires t c =
    let h = heavier same statement_weight c.args.body.now c.args.body.now c.loop-s.s-index c.s-item.result refl c.loop-s-test.true c.s-item.is in
    (omega (arith, h), tt)

pub walk_elseifs-walk_statement-first-requires : goal.walk_elseifs-walk_statement-first-requires
walk_elseifs-walk_statement-first-requires t c =
    let h = heavier elseif_weight (elseif_with statement_weight) c.args.parts.now c.args.parts.now c.loop-part.part-index c.part-item.result refl c.loop-part-test.true c.part-item.is in
    (omega (arith, h, ap statement_weight c.get.ensures), tt)

pub walk_elseif_lists-walk_list-first-requires : goal.walk_elseif_lists-walk_list-first-requires
walk_elseif_lists-walk_list-first-requires t c =
    let h = heavier elseif_list_weight (elseif_list_with statement_weight) c.args.parts.now c.args.parts.now c.loop-part.part-index c.part-item.result refl c.loop-part-test.true c.part-item.is in
    (omega (arith, h, ap (λ ss. total same (map statement_weight ss)) c.as_slice.ensures), tt)

pub walk_cases-walk_list-first-requires : goal.walk_cases-walk_list-first-requires
walk_cases-walk_list-first-requires t c =
    let h = heavier case_weight (case_with statement_weight) c.args.cases.now c.args.cases.now c.loop-case.case-index c.case-item.result refl c.loop-case-test.true c.case-item.is in
    (omega (arith, h, ap (λ ss. total same (map statement_weight ss)) c.as_slice.ensures), tt)

pub walk_catches-walk_list-first-requires : goal.walk_catches-walk_list-first-requires
walk_catches-walk_list-first-requires t c =
    let h = heavier catch_weight (catch_with statement_weight) c.args.catches.now c.args.catches.now c.loop-catch.catch-index c.catch-item.result refl c.loop-catch-test.true c.catch-item.is in
    (omega (arith, h, ap (λ ss. total same (map statement_weight ss)) c.as_slice.ensures), tt)

-- ---- before the first part, one more, and behind the last one

pub walk_list-loop-s-init : goal.walk_list-loop-s-init
walk_list-loop-s-init t c = λ around counts. list_over around no_statement (map (statement_view) c.args.body.now) c.args.met

pub walk_list-loop-s-preserved : goal.walk_list-loop-s-preserved
walk_list-loop-s-preserved t c = λ around counts.
    step_over (met_statement around) (statement_view) c.args.body.now c.loop-s.s-index c.s-item.result _ _ _ c.loop-s-test.true c.s-item.is (c.loop-s.invariant around counts)
    (c.walk_statement-first.ensures around counts)

pub walk_list-returns : goal.walk_list-returns
walk_list-returns t c = λ around counts.
    let past : length c.args.body.now ≤ c.loop-s.s-index = omega arith in
    end_over (met_statement around) (statement_view) c.args.body.now c.loop-s.s-index _ _ past (c.loop-s.invariant around counts)

pub walk_elseifs-loop-part-init : goal.walk_elseifs-loop-part-init
walk_elseifs-loop-part-init t c = λ around counts. elseifs_over around no_elseif (map (elseif_with statement_view) c.args.parts.now) c.args.met

pub walk_elseifs-loop-part-preserved : goal.walk_elseifs-loop-part-preserved
walk_elseifs-loop-part-preserved t c = λ around counts.
    step_over (at_elseif around) (elseif_with statement_view) c.args.parts.now c.loop-part.part-index c.part-item.result _ _ _ c.loop-part-test.true c.part-item.is (c.loop-part.invariant around counts)
    (c.walk_statement-first.ensures around counts ∙ ap (λ s. met_statement around (statement_view s) c.loop-part.first) c.get.ensures)

pub walk_elseifs-returns : goal.walk_elseifs-returns
walk_elseifs-returns t c = λ around counts.
    let past : length c.args.parts.now ≤ c.loop-part.part-index = omega arith in
    end_over (at_elseif around) (elseif_with statement_view) c.args.parts.now c.loop-part.part-index _ _ past (c.loop-part.invariant around counts)

pub walk_elseif_lists-loop-part-init : goal.walk_elseif_lists-loop-part-init
walk_elseif_lists-loop-part-init t c = λ around counts. elseif_lists_over around no_elseif_list (map (elseif_list_with statement_view) c.args.parts.now) c.args.met

pub walk_elseif_lists-loop-part-preserved : goal.walk_elseif_lists-loop-part-preserved
walk_elseif_lists-loop-part-preserved t c = λ around counts.
    step_over (at_elseif_list around) (elseif_list_with statement_view) c.args.parts.now c.loop-part.part-index c.part-item.result _ _ _ c.loop-part-test.true c.part-item.is (c.loop-part.invariant around counts)
    (c.walk_list-first.ensures around counts ∙ ap (λ ss. met_list around (list_view (map statement_view ss)) c.loop-part.first) c.as_slice.ensures)

pub walk_elseif_lists-returns : goal.walk_elseif_lists-returns
walk_elseif_lists-returns t c = λ around counts.
    let past : length c.args.parts.now ≤ c.loop-part.part-index = omega arith in
    end_over (at_elseif_list around) (elseif_list_with statement_view) c.args.parts.now c.loop-part.part-index _ _ past (c.loop-part.invariant around counts)

pub walk_cases-loop-case-init : goal.walk_cases-loop-case-init
walk_cases-loop-case-init t c = λ around counts. cases_over around no_case (map (case_with statement_view) c.args.cases.now) c.args.met

pub walk_cases-loop-case-preserved : goal.walk_cases-loop-case-preserved
walk_cases-loop-case-preserved t c = λ around counts.
    step_over (at_case around) (case_with statement_view) c.args.cases.now c.loop-case.case-index c.case-item.result _ _ _ c.loop-case-test.true c.case-item.is (c.loop-case.invariant around counts)
    (c.walk_list-first.ensures around counts ∙ ap (λ ss. met_list around (list_view (map statement_view ss)) c.loop-case.first) c.as_slice.ensures)

pub walk_cases-returns : goal.walk_cases-returns
walk_cases-returns t c = λ around counts.
    let past : length c.args.cases.now ≤ c.loop-case.case-index = omega arith in
    end_over (at_case around) (case_with statement_view) c.args.cases.now c.loop-case.case-index _ _ past (c.loop-case.invariant around counts)

pub walk_catches-loop-catch-init : goal.walk_catches-loop-catch-init
walk_catches-loop-catch-init t c = λ around counts. catches_over around no_catch (map (catch_with statement_view) c.args.catches.now) c.args.met

pub walk_catches-loop-catch-preserved : goal.walk_catches-loop-catch-preserved
walk_catches-loop-catch-preserved t c = λ around counts.
    step_over (at_catch around) (catch_with statement_view) c.args.catches.now c.loop-catch.catch-index c.catch-item.result _ _ _ c.loop-catch-test.true c.catch-item.is (c.loop-catch.invariant around counts)
    (c.walk_list-first.ensures around counts ∙ ap (λ ss. met_list around (list_view (map statement_view ss)) c.loop-catch.first) c.as_slice.ensures)

pub walk_catches-returns : goal.walk_catches-returns
walk_catches-returns t c = λ around counts.
    let past : length c.args.catches.now ≤ c.loop-catch.catch-index = omega arith in
    end_over (at_catch around) (catch_with statement_view) c.args.catches.now c.loop-catch.catch-index _ _ past (c.loop-catch.invariant around counts)

-- ---- a `finally` block

pub walk_statement-returns-in-Try : goal.walk_statement-returns-in-Try
walk_statement-returns-in-Try t c = λ around counts.
    rw c.in-Try.is
    (walked_try c.in-Try.field-0 c.in-Try.body c.in-Try.catches c.in-Try.last around c.args.met c.walk_list-met-in-Try.result c.walk_catches-met.result c.walk_last-in-Try.result
    (c.walk_list-met-in-Try.ensures around counts ∙ ap (λ ss. met_list around (list_view (map statement_view ss)) c.args.met) c.as_slice-in-Try.ensures)
    (c.walk_catches-met.ensures around counts
    ∙ ap (λ cs. met_catches around (catches_from no_catch (map (catch_with statement_view) cs)) c.walk_list-met-in-Try.result) c.as_slice-in-Try-2.ensures)
    (c.walk_last-in-Try.ensures (finally_block ∷ around) (c.in_finally.ensures around counts)))
