use Rattle.std.proofs.Common.{length, ◌≤◌, ◌∙◌, ap, arith}
use Rattle.php_ast.specs.statement.Tree.{no_statement, no_elseif, no_elseif_list, no_case, no_catch}
use Rattle.php_ast.specs.statement.View.{statement_view}
use Rattle.php_weights.proofs.Expressions.{part_weight}
use Rattle.php_weights.proofs.Statements.{same, elseif_weight, elseif_list_weight, case_weight, catch_weight, statement_weight}
use Rattle.php_ast.specs.statement.Parts.{elseif_with, elseif_list_with, case_with, catch_with}
use Rattle.php_many_names.proofs.Lists.{statements_kept, statements_whole, elseifs_kept, elseifs_whole, elseif_lists_kept, elseif_lists_whole, cases_kept, cases_whole, catches_kept, catches_whole}
use Rattle.php_many_names.proofs.statement.+statements.Goals as goal

-- ---- parts of a list are no heavier than the list

pub meet_list-meet_statement-requires : goal.meet_list-meet_statement-requires
meet_list-meet_statement-requires t c =
    let h = part_weight same statement_weight c.args.body.now c.loop-s.s-index c.s-item.result c.loop-s-test.true c.s-item.is in
    (omega (arith, h), tt)

pub meet_elseifs-meet_elseif-requires : goal.meet_elseifs-meet_elseif-requires
meet_elseifs-meet_elseif-requires t c =
    let h = part_weight elseif_weight (elseif_with statement_weight) c.args.parts.now c.loop-part.part-index c.part-item.result c.loop-part-test.true c.part-item.is in
    (omega (arith, h), tt)

pub meet_elseif_lists-meet_elseif_list-requires : goal.meet_elseif_lists-meet_elseif_list-requires
meet_elseif_lists-meet_elseif_list-requires t c =
    let h = part_weight elseif_list_weight (elseif_list_with statement_weight) c.args.parts.now c.loop-part.part-index c.part-item.result c.loop-part-test.true c.part-item.is in
    (omega (arith, h), tt)

pub meet_switch-meet_case-requires : goal.meet_switch-meet_case-requires
meet_switch-meet_case-requires t c =
    let h = part_weight case_weight (case_with statement_weight) c.args.cases.now c.loop-case.case-index c.case-item.result c.loop-case-test.true c.case-item.is in
    (omega (arith, h), tt)

pub meet_catches-meet_catch-requires : goal.meet_catches-meet_catch-requires
meet_catches-meet_catch-requires t c =
    let h = part_weight catch_weight (catch_with statement_weight) c.args.catches.now c.loop-catch.catch-index c.catch-item.result c.loop-catch-test.true c.catch-item.is in
    (omega (arith, h), tt)

-- ---- one more part, and the end

pub meet_list-loop-s-preserved : goal.meet_list-loop-s-preserved
meet_list-loop-s-preserved t c =
    statements_kept statement_view no_statement _ _ _ c.args.body.now c.loop-s.s-index c.s-item.result c.loop-s-test.true c.s-item.is c.loop-s.invariant c.in_ok-meet_statement.ensures

pub meet_list-returns : goal.meet_list-returns
meet_list-returns t c =
    let past : length c.args.body.now ≤ c.loop-s.s-index = omega arith in
    statements_whole statement_view no_statement _ _ c.args.body.now c.loop-s.s-index past c.loop-s.invariant

pub meet_elseifs-loop-part-preserved : goal.meet_elseifs-loop-part-preserved
meet_elseifs-loop-part-preserved t c =
    elseifs_kept (elseif_with statement_view) no_elseif _ _ _ c.args.parts.now c.loop-part.part-index c.part-item.result c.loop-part-test.true c.part-item.is c.loop-part.invariant c.in_ok-meet_elseif.ensures

pub meet_elseifs-returns : goal.meet_elseifs-returns
meet_elseifs-returns t c =
    let past : length c.args.parts.now ≤ c.loop-part.part-index = omega arith in
    elseifs_whole (elseif_with statement_view) no_elseif _ _ c.args.parts.now c.loop-part.part-index past c.loop-part.invariant

pub meet_elseif_lists-loop-part-preserved : goal.meet_elseif_lists-loop-part-preserved
meet_elseif_lists-loop-part-preserved t c =
    elseif_lists_kept (elseif_list_with statement_view) no_elseif_list _ _ _ c.args.parts.now c.loop-part.part-index c.part-item.result c.loop-part-test.true c.part-item.is c.loop-part.invariant c.in_ok-meet_elseif_list.ensures

pub meet_elseif_lists-returns : goal.meet_elseif_lists-returns
meet_elseif_lists-returns t c =
    let past : length c.args.parts.now ≤ c.loop-part.part-index = omega arith in
    elseif_lists_whole (elseif_list_with statement_view) no_elseif_list _ _ c.args.parts.now c.loop-part.part-index past c.loop-part.invariant

pub meet_switch-loop-case-preserved : goal.meet_switch-loop-case-preserved
meet_switch-loop-case-preserved t c =
    cases_kept (case_with statement_view) no_case _ _ _ c.args.cases.now c.loop-case.case-index c.case-item.result c.loop-case-test.true c.case-item.is c.loop-case.invariant c.in_ok-meet_case.ensures

pub meet_switch-returns : goal.meet_switch-returns
meet_switch-returns t c =
    let past : length c.args.cases.now ≤ c.loop-case.case-index = omega arith in
    cases_whole (case_with statement_view) no_case _ _ c.args.cases.now c.loop-case.case-index past c.loop-case.invariant

pub meet_catches-loop-catch-preserved : goal.meet_catches-loop-catch-preserved
meet_catches-loop-catch-preserved t c =
    catches_kept (catch_with statement_view) no_catch _ _ _ c.args.catches.now c.loop-catch.catch-index c.catch-item.result c.loop-catch-test.true c.catch-item.is c.loop-catch.invariant c.in_ok-meet_catch.ensures

pub meet_catches-returns : goal.meet_catches-returns
meet_catches-returns t c =
    let past : length c.args.catches.now ≤ c.loop-catch.catch-index = omega arith in
    catches_whole (catch_with statement_view) no_catch _ _ c.args.catches.now c.loop-catch.catch-index past c.loop-catch.invariant
