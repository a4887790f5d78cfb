use Rattle.std.proofs.Common.{◌∷◌, ◌++◌, map, length, ◌≤◌, sym, ◌∙◌, ap, arith, refl}
use Rattle.php_token.specs.declared.kind.Keyword.TheVariants as word
use Rattle.php_token.specs.declared.kind.Punct.TheVariants as mark
use Rattle.php_ast.specs.Symbol as symbol
use Rattle.php_ast.specs.expression.View.{view}
use Rattle.php_ast.specs.statement.Tree.{no_statement, no_elseif, no_elseif_list, no_case, no_catch}
use Rattle.php_ast.specs.statement.Spelling.{spell_head, cases_opening, cases_closing, spell_statement, spell_statements, spell_elseifs, spell_elseif_lists, spell_cases, spell_catches}
use Rattle.php_ast.specs.statement.View.{optional, list_view, elseifs_from, elseif_lists_from, cases_from, catches_from, statement_view}
use Rattle.php_ast.specs.statement.Parts.{elseif_with, elseif_list_with, case_with, catch_with}
use Rattle.php_print_script.specs.statement.Elements.{spell_braces, spell_elseif, spell_elseif_list, spell_case, spell_catch, spell_else, spell_else_list, spell_finally}
use Rattle.php_print.proofs.Lists.{behind, step_all, end_all}
use Rattle.php_print_script.proofs.Lists.{statements_spelled, elseifs_spelled, elseif_lists_spelled, cases_spelled, catches_spelled}
use Rattle.php_weights.proofs.Expressions.{heavier}
use Rattle.php_weights.proofs.Statements.{same, elseif_weight, elseif_list_weight, case_weight, catch_weight, statement_weight}
use Rattle.php_print_script.proofs.Views.{view_block}
use Rattle.php_print_script.proofs.statement.+statements.Goals as goal

-- ---- parts of a list are no heavier than the list

pub put_statements-put_statement-requires : goal.put_statements-put_statement-requires
put_statements-put_statement-requires t c =
    let h = heavier same statement_weight c.args.body.now c.args.body.now c.loop-s.s-index c.s-item.result refl c.loop-s-test.true c.s-item.is in
    (omega (arith, h), tt)

pub put_if-put_elseif-requires : goal.put_if-put_elseif-requires
put_if-put_elseif-requires t c =
    let h = heavier elseif_weight (elseif_with statement_weight) c.args.parts.now c.args.parts.now c.loop-part.part-index c.part-item.result refl c.loop-part-test.true c.part-item.is in
    (omega (arith, h), tt)

pub put_if_lists-put_elseif_list-requires : goal.put_if_lists-put_elseif_list-requires
put_if_lists-put_elseif_list-requires t c =
    let h = heavier elseif_list_weight (elseif_list_with statement_weight) c.args.parts.now c.args.parts.now c.loop-part.part-index c.part-item.result refl c.loop-part-test.true c.part-item.is in
    (omega (arith, h), tt)

pub put_switch-put_case-requires : goal.put_switch-put_case-requires
put_switch-put_case-requires t c =
    let h = heavier case_weight (case_with statement_weight) c.args.cases.now c.args.cases.now c.loop-case.case-index c.case-item.result refl c.loop-case-test.true c.case-item.is in
    (omega (arith, h), tt)

pub put_try-put_catch-requires : goal.put_try-put_catch-requires
put_try-put_catch-requires t c =
    let h = heavier catch_weight (catch_with statement_weight) c.args.catches.now c.args.catches.now c.loop-catch.catch-index c.catch-item.result refl c.loop-catch-test.true c.catch-item.is in
    (omega (arith, h), tt)

-- ---- one more part of a list

pub put_statements-loop-s-preserved : goal.put_statements-loop-s-preserved
put_statements-loop-s-preserved t c =
    step_all spell_statement statement_view c.args.body.now c.loop-s.s-index c.s-item.result _ _ _ c.loop-s-test.true c.s-item.is c.loop-s.invariant c.in_ok-put_statement.ensures

pub put_if-loop-part-preserved : goal.put_if-loop-part-preserved
put_if-loop-part-preserved t c =
    step_all spell_elseif (elseif_with statement_view) c.args.parts.now c.loop-part.part-index c.part-item.result _ _ _ c.loop-part-test.true c.part-item.is c.loop-part.invariant c.in_ok-put_elseif.ensures

pub put_if_lists-loop-part-preserved : goal.put_if_lists-loop-part-preserved
put_if_lists-loop-part-preserved t c =
    step_all spell_elseif_list (elseif_list_with statement_view) c.args.parts.now c.loop-part.part-index c.part-item.result _ _ _ c.loop-part-test.true c.part-item.is c.loop-part.invariant c.in_ok-put_elseif_list.ensures

pub put_switch-loop-case-preserved : goal.put_switch-loop-case-preserved
put_switch-loop-case-preserved t c =
    step_all spell_case (case_with statement_view) c.args.cases.now c.loop-case.case-index c.case-item.result _ _ _ c.loop-case-test.true c.case-item.is c.loop-case.invariant c.in_ok-put_case.ensures

pub put_try-loop-catch-preserved : goal.put_try-loop-catch-preserved
put_try-loop-catch-preserved t c =
    step_all spell_catch (catch_with statement_view) c.args.catches.now c.loop-catch.catch-index c.catch-item.result _ _ _ c.loop-catch-test.true c.catch-item.is c.loop-catch.invariant c.in_ok-put_catch.ensures

-- ---- before the first part

pub put_statements-loop-s-init : goal.put_statements-loop-s-init
put_statements-loop-s-init t c = λ w. ap (λ v. c.args.printer.now ++ v) (sym (statements_spelled no_statement (map statement_view c.args.body.now) w))

pub put_if-loop-part-init : goal.put_if-loop-part-init
put_if-loop-part-init t c = λ w.
    c.in_ok-put_statement.ensures _ ∙ c.in_ok-put_head.ensures _
    ∙ ap (λ v. c.args.printer.now ++ spell_head word.If (view c.args.test.now) (spell_statement (statement_view c.args.body.now) v))
    (sym (elseifs_spelled no_elseif (map (elseif_with statement_view) c.args.parts.now) w))

pub put_if_lists-loop-part-init : goal.put_if_lists-loop-part-init
put_if_lists-loop-part-init t c = λ w.
    c.in_ok-put_list_behind.ensures _
    ∙ ap (λ v. c.args.printer.now ++ spell_head word.If (view c.args.test.now) (symbol.punct mark.Colon ∷ spell_statements (list_view (map statement_view c.args.body.now)) v))
    (sym (elseif_lists_spelled no_elseif_list (map (elseif_list_with statement_view) c.args.parts.now) w))

pub put_switch-loop-case-init : goal.put_switch-loop-case-init
put_switch-loop-case-init t c = λ w.
    c.in_ok-put_switch_opening.ensures _
    ∙ ap (λ v. c.args.printer.now ++ spell_head word.Switch (view c.args.e.now) (cases_opening c.args.form ∷ v))
    (sym (cases_spelled no_case (map (case_with statement_view) c.args.cases.now) w))

pub put_try-loop-catch-init : goal.put_try-loop-catch-init
put_try-loop-catch-init t c = λ w.
    c.in_ok-put_block.ensures _ ∙ c.in_ok-put_keyword.ensures _
    ∙ ap (λ v. c.args.printer.now ++ symbol.keyword word.Try ∷ spell_braces (map statement_view c.args.body.now) v)
    (sym (catches_spelled no_catch (map (catch_with statement_view) c.args.catches.now) w))

-- ---- behind the last part

pub put_statements-returns : goal.put_statements-returns
put_statements-returns t c =
    let over : length c.args.body.now ≤ c.loop-s.s-index = omega arith in
    end_all spell_statement statement_view c.args.body.now c.loop-s.s-index _ _ over c.loop-s.invariant

pub put_if-returns : goal.put_if-returns
put_if-returns t c =
    let over : length c.args.parts.now ≤ c.loop-part.part-index = omega arith in
    let before = end_all spell_elseif (elseif_with statement_view) c.args.parts.now c.loop-part.part-index _ _ over c.loop-part.invariant in
    behind _ c.args.printer.now c.loop-part.printer c.put_else.new.printer
    (λ w. spell_head word.If (view c.args.test.now) (spell_statement (statement_view c.args.body.now) (spell_elseifs (elseifs_from no_elseif (map (elseif_with statement_view) c.args.parts.now)) w)))
    (spell_else (optional statement_view c.args.last.now)) before c.put_else.ensures

pub put_if_lists-returns : goal.put_if_lists-returns
put_if_lists-returns t c =
    let over : length c.args.parts.now ≤ c.loop-part.part-index = omega arith in
    let before = end_all spell_elseif_list (elseif_list_with statement_view) c.args.parts.now c.loop-part.part-index _ _ over c.loop-part.invariant in
    behind _ c.args.printer.now c.put_else_list.new.printer c.put_all.new.self
    (λ w. spell_head word.If (view c.args.test.now) (symbol.punct mark.Colon ∷ spell_statements (list_view (map statement_view c.args.body.now))
    (spell_elseif_lists (elseif_lists_from no_elseif_list (map (elseif_list_with statement_view) c.args.parts.now)) (spell_else_list (optional (map statement_view) c.args.last.now) w))))
    (λ w. symbol.keyword word.EndIf ∷ symbol.punct mark.Semicolon ∷ w) (λ w. c.in_ok-put_else_list.ensures w ∙ before _) c.put_all.ensures

pub put_switch-returns : goal.put_switch-returns
put_switch-returns t c =
    let over : length c.args.cases.now ≤ c.loop-case.case-index = omega arith in
    let before = end_all spell_case (case_with statement_view) c.args.cases.now c.loop-case.case-index _ _ over c.loop-case.invariant in
    behind _ c.args.printer.now c.loop-case.printer c.put_switch_closing.new.printer
    (λ w. spell_head word.Switch (view c.args.e.now) (cases_opening c.args.form ∷ spell_cases (cases_from no_case (map (case_with statement_view) c.args.cases.now)) w))
    (cases_closing c.args.form) before c.put_switch_closing.ensures

pub put_try-returns : goal.put_try-returns
put_try-returns t c =
    let over : length c.args.catches.now ≤ c.loop-catch.catch-index = omega arith in
    let before = end_all spell_catch (catch_with statement_view) c.args.catches.now c.loop-catch.catch-index _ _ over c.loop-catch.invariant in
    behind _ c.args.printer.now c.loop-catch.printer c.put_finally.new.printer
    (λ w. symbol.keyword word.Try ∷ spell_braces (map statement_view c.args.body.now) (spell_catches (catches_from no_catch (map (catch_with statement_view) c.args.catches.now)) w))
    (spell_finally (optional (map statement_view) c.args.last.now)) before c.put_finally.ensures

-- ---- what may be absent, and forms

pub put_elseif_list-returns : goal.put_elseif_list-returns
put_elseif_list-returns t c = rw c.as_slice.ensures at c.put_list_behind.ensures

pub put_else_list-returns-in_ok-put_all-in-Some : goal.put_else_list-returns-in_ok-put_all-in-Some
put_else_list-returns-in_ok-put_all-in-Some t c =
    let list = rw c.as_slice.ensures at c.put_statements.ensures in
    rw c.in-Some.is
    (behind _ c.args.printer.now c.put_all.new.self c.put_statements.new.printer (λ w. symbol.keyword word.Else ∷ symbol.punct mark.Colon ∷ w)
    (spell_statements (list_view (map statement_view c.in-Some.body))) c.in_ok-put_all-in-Some.ensures list)

pub put_finally-returns-in_ok-put_keyword-in-Some : goal.put_finally-returns-in_ok-put_keyword-in-Some
put_finally-returns-in_ok-put_keyword-in-Some t c =
    let braces = rw c.as_slice.ensures at c.put_block.ensures in
    rw c.in-Some.is
    (behind _ c.args.printer.now c.put_keyword.new.self c.put_block.new.printer (λ w. symbol.keyword word.Finally ∷ w)
    (spell_braces (map statement_view c.in-Some.body)) c.in_ok-put_keyword-in-Some.ensures braces)

pub put_statement-returns-in-Block : goal.put_statement-returns-in-Block
put_statement-returns-in-Block t c = rw (c.in-Block.is, view_block) (rw c.as_slice.ensures at c.put_block.ensures)
