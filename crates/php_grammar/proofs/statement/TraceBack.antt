-- The nesting that the machine of statements counts is that of the tree.
use Rattle.std.proofs.Common.{◌≡◌, ℕ, ◌+◌, true, false, Option, Some, None, List, [], ◌∷◌, refl, sym, ◌∙◌, ap}
use Rattle.php_token.specs.declared.kind.Keyword.TheVariants as word
use Rattle.php_token.specs.declared.kind.Punct.TheVariants as mark
use Rattle.php_ast.specs.declared.statement.SwitchForm.{SwitchForm}
use Rattle.php_ast.specs.declared.statement.SwitchForm.TheVariants as switch_form
use Rattle.php_ast.specs.declared.statement.CaseEnd.{CaseEnd}
use Rattle.php_ast.specs.declared.statement.CaseEnd.TheVariants as case_end
use Rattle.php_ast.specs.Symbol.{Symbol, keyword, punct}
use Rattle.php_ast.specs.expression.Tree.{Items}
use Rattle.php_ast.specs.expression.Spelling.{spell, spell_items}
use Rattle.php_ast.specs.expression.Nesting.{nests, nests_items}
use Rattle.php_ast.specs.expression.Proper.{Proper}
use Rattle.php_grammar.specs.expression.Machine.{Nothing, Form}
use Rattle.php_ast.specs.statement.Tree.{Sequence, empty, then_also, Name, Jump, Statement, block, blank, inline, expression, echo, globals, statics, unset, constants, jump, throw, if_only, if_else, if_lists, if_else_lists, while, do_while, for, foreach, switch, try_catch, try_finally, declares, returning, breaking, continuing, Statements, no_statement, and_statement, ElseIfs, no_elseif, and_elseif, ElseIfLists, no_elseif_list, and_elseif_list, Body, single, list_behind_colon, Cases, no_case, and_case, Catches, no_catch, and_catch}
use Rattle.php_ast.specs.statement.Spelling.{commas, separated, spell_name, spell_dollar, spell_variable, spell_optional, spell_label, case_end_symbol, cases_opening, cases_closing, spell_statement, spell_statements, spell_elseifs, spell_elseif_lists, spell_body, spell_cases, spell_catches}
use Rattle.php_ast.specs.statement.Nesting.{separator_nests, separated_nests, name_nests, variable_nests, constant_nests, key_nests, target_nests, head_nests, optional_nests, body_depth, cases_end_nests, nests_statement, nests_statements, nests_elseifs, nests_elseif_lists, nests_body, nests_cases, nests_catches}
use Rattle.php_ast.specs.statement.Proper.{takes_else, last_takes, NoneTakes, NoListTakes, IfAny, AreAny, is_empty, IsProperLabel, IsProper, AreProper, AreProperParts, AreProperLists, IsProperBody, AreProperCases, AreProperCatches}
use Rattle.php_grammar.specs.statement.Role.{body_strength}
use Rattle.php_grammar.specs.statement.Forms.{list_open, Loop, while_loop, for_loop, foreach_loop, StatementList, of_block, of_if, of_elseif, of_else, of_loop, of_case, of_try, of_catch, of_finally, OpenStatement, if_open, elseif_open, else_open, loop_open, do_open, Around, Head, if_head, elseif_head, elseif_list_head, while_head, do_head, switch_head, of_echo, of_unset, of_starts, of_tests, of_steps, as_line, as_jump, as_thrown, as_test, as_walked, as_label, of_classes, due_statement, done, due_in_list, due_value, due_name, past_jump, past_loop, past_switch, due_case, past_default, past_block, looped}
use Rattle.php_grammar.specs.statement.Machine.{expected, labelled, before_semicolon, tested}
use Rattle.php_grammar.specs.statement.Reading.{loop_word}
use Rattle.php_grammar.specs.statement.Depth.{is_body, is_body_at, statement_depth, depth_outside, statement_depths_read}
use Rattle.php_grammar.specs.statement.Laws.{head_behind, StatementEnds}
use Rattle.php_grammar.proofs.expression.Trees.{starts}
use Rattle.php_grammar.proofs.statement.Starts.{statement_starts, led, static_fits}
use Rattle.php_grammar.proofs.statement.Parts.{at_semicolon, at_paren, at_colon, at_as, statics_start}
use Rattle.php_grammar.proofs.statement.Back.{Quiet, quiet_ends, starts_quiet, ListEnds, quiet_list, parted_ends, parted_list, last_of, last_of_takes, last_of_catch, if_led, first_ends, lists_led, last_list_of, last_list_takes, first_list_ends, BodyEnds, body_ends_by, loop_word_quiet, cases_led, label_quiet, closing_quiet}
use Rattle.php_grammar.proofs.statement.Trace.{trace, place_trace, jump_traced, line_traced, if_traced, loop_traced, led_traced, end_traced, last_traced, ended_traced, catches_traced, values_trace, any_values_trace, globals_led, classes_led, static_end, statics_led, static_traced, constant_end, constants_led, targets_trace, deepened_same}

-- ---- where a statement stands

abbrev pub stands : Statement Nothing → Around → ℕ
stands (block note body) o = depth_outside o
stands _ o = statement_depth o

-- the nesting of what a list holds
abbrev pub list_level : StatementList → Around → ℕ
list_level list o = statement_depth (list_open list no_statement ∷ o)

stands_in_list : (a : Statement Nothing) (list : StatementList) (ss : Statements Nothing) (o : Around) → stands a (list_open list ss ∷ o) ≡ list_level list o
stands_in_list (block note body) list ss o = deepened_same list ss no_statement (is_body o) (statement_depth o)
stands_in_list _ list ss o = deepened_same list ss no_statement (is_body o) (statement_depth o)

block_inside : (ss : Statements Nothing) (o : Around) → statement_depth (list_open of_block ss ∷ o) ≡ 1 + depth_outside o
block_inside ss [] = refl
block_inside ss (list_open list more ∷ o) = refl
block_inside ss (if_open test ∷ o) = refl
block_inside ss (elseif_open test body parts last ∷ o) = refl
block_inside ss (else_open test body parts ∷ o) = refl
block_inside ss (loop_open loop ∷ o) = refl
block_inside ss (do_open ∷ o) = refl

-- a body stands one deeper, but for a block
stands_as_body : (a : Statement Nothing) (f : OpenStatement) (o : Around) → is_body_at f ≡ true → stands a (f ∷ o) ≡ body_depth a (statement_depth o)
stands_as_body a (list_open list ss) o h = cc
stands_as_body (block note body) (if_open test) o h = refl
stands_as_body (block note body) (elseif_open test first parts last) o h = refl
stands_as_body (block note body) (else_open test first parts) o h = refl
stands_as_body (block note body) (loop_open loop) o h = refl
stands_as_body (block note body) do_open o h = refl
stands_as_body _ (if_open test) o h = refl
stands_as_body _ (elseif_open test first parts last) o h = refl
stands_as_body _ (else_open test first parts) o h = refl
stands_as_body _ (loop_open loop) o h = refl
stands_as_body _ do_open o h = refl

-- ---- heads

head_trace : (head : Head) (test : Form) (o : Around) (w : List Symbol) → Proper test
    → trace (expected (as_test head) o) (spell test (punct mark.RightParen ∷ w)) ≡ nests test (1 + statement_depth o) ((1 + statement_depth o) ∷ trace (tested head test o) w)
head_trace head test o w p = place_trace (as_test head) o test (punct mark.RightParen) w (tested head test o) p (at_paren test w) refl

-- ---- the bodies of an `if`

if_parted : (test : Form) (body : Statement Nothing) (parts : ElseIfs Nothing) (o : Around) (w : List Symbol)
    → trace (if_led test body parts o) (keyword word.ElseIf ∷ punct mark.LeftParen ∷ w) ≡ statement_depth o ∷ statement_depth o ∷ trace (expected (as_test (elseif_head test body parts)) o) w
if_parted test body no_elseif o w = refl
if_parted test body (and_elseif parts last a) o w = refl

if_elsed : (test : Form) (body : Statement Nothing) (parts : ElseIfs Nothing) (o : Around) (w : List Symbol)
    → trace (if_led test body parts o) (keyword word.Else ∷ w) ≡ statement_depth o ∷ trace (due_statement (else_open test body parts ∷ o)) w
if_elsed test body no_elseif o w = refl
if_elsed test body (and_elseif parts last a) o w = refl

if_done : (test : Form) (body : Statement Nothing) (parts : ElseIfs Nothing) (o : Around) (w : List Symbol) → body_strength (head_behind w) ≡ 0
    → trace (if_led test body parts o) w ≡ trace (done (if_only tt test body parts) o) w
if_done test body no_elseif o w h = ended_traced (if_open test) body o w refl h
if_done test body (and_elseif parts last a) o w h = ended_traced (elseif_open test body parts last) a o w refl h

lists_parted : (test : Form) (body : Statements Nothing) (parts : ElseIfLists Nothing) (o : Around) (w : List Symbol)
    → trace (lists_led test body parts o) (keyword word.ElseIf ∷ punct mark.LeftParen ∷ w) ≡ statement_depth o ∷ statement_depth o ∷ trace (expected (as_test (elseif_list_head test body parts)) o) w
lists_parted test body no_elseif_list o w = end_traced (of_if test) body o (keyword word.ElseIf) (punct mark.LeftParen ∷ w) _ refl
lists_parted test body (and_elseif_list parts last ss) o w = end_traced (of_elseif test body parts last) ss o (keyword word.ElseIf) (punct mark.LeftParen ∷ w) _ refl

lists_elsed : (test : Form) (body : Statements Nothing) (parts : ElseIfLists Nothing) (o : Around) (w : List Symbol)
    → trace (lists_led test body parts o) (keyword word.Else ∷ punct mark.Colon ∷ w) ≡ statement_depth o ∷ statement_depth o ∷ trace (due_in_list (of_else test body parts) no_statement o) w
lists_elsed test body no_elseif_list o w = end_traced (of_if test) body o (keyword word.Else) (punct mark.Colon ∷ w) _ refl
lists_elsed test body (and_elseif_list parts last ss) o w = end_traced (of_elseif test body parts last) ss o (keyword word.Else) (punct mark.Colon ∷ w) _ refl

lists_done : (test : Form) (body : Statements Nothing) (parts : ElseIfLists Nothing) (o : Around) (w : List Symbol)
    → trace (lists_led test body parts o) (keyword word.EndIf ∷ punct mark.Semicolon ∷ w) ≡ statement_depth o ∷ statement_depth o ∷ trace (done (if_lists tt test body parts) o) w
lists_done test body no_elseif_list o w = end_traced (of_if test) body o (keyword word.EndIf) (punct mark.Semicolon ∷ w) _ refl
lists_done test body (and_elseif_list parts last ss) o w = end_traced (of_elseif test body parts last) ss o (keyword word.EndIf) (punct mark.Semicolon ∷ w) _ refl

loop_done : (loop : Loop) (body : Statements Nothing) (o : Around) (w : List Symbol)
    → trace (led (of_loop loop) body o) (keyword (loop_word loop) ∷ punct mark.Semicolon ∷ w) ≡ statement_depth o ∷ statement_depth o ∷ trace (done (looped loop (list_behind_colon body)) o) w
loop_done (while_loop test) body o w = end_traced (of_loop (while_loop test)) body o (keyword word.EndWhile) (punct mark.Semicolon ∷ w) _ refl
loop_done (for_loop a b c) body o w = end_traced (of_loop (for_loop a b c)) body o (keyword word.EndFor) (punct mark.Semicolon ∷ w) _ refl
loop_done (foreach_loop a b c) body o w = end_traced (of_loop (foreach_loop a b c)) body o (keyword word.EndForeach) (punct mark.Semicolon ∷ w) _ refl

-- ---- cases

case_begun : (e : Form) (form : SwitchForm) (cases : Cases Nothing) (o : Around) (w : List Symbol)
    → trace (cases_led e form cases o) (keyword word.Case ∷ w) ≡ (1 + statement_depth o) ∷ trace (expected (as_label e form cases) o) w
case_begun e form no_case o w = refl
case_begun e form (and_case cases note label end body) o w = end_traced (of_case e form cases label end) body o (keyword word.Case) w _ refl

default_begun : (e : Form) (form : SwitchForm) (cases : Cases Nothing) (o : Around) (w : List Symbol)
    → trace (cases_led e form cases o) (keyword word.Default ∷ w) ≡ (1 + statement_depth o) ∷ trace (past_default e form cases o) w
default_begun e form no_case o w = refl
default_begun e form (and_case cases note label end body) o w = end_traced (of_case e form cases label end) body o (keyword word.Default) w _ refl

cases_done : (e : Form) (form : SwitchForm) (cases : Cases Nothing) (o : Around) (w : List Symbol)
    → trace (cases_led e form cases o) (cases_closing form w) ≡ cases_end_nests form (statement_depth o) (trace (done (switch tt e form cases) o) w)
cases_done e switch_form.Braces no_case o w = refl
cases_done e switch_form.Colon no_case o w = refl
cases_done e switch_form.Braces (and_case cases note label end body) o w = end_traced (of_case e switch_form.Braces cases label end) body o (punct mark.RightBrace) w _ refl
cases_done e switch_form.Colon (and_case cases note label end body) o w =
    end_traced (of_case e switch_form.Colon cases label end) body o (keyword word.EndSwitch) (punct mark.Semicolon ∷ w) _ refl

label_trace : (e : Form) (form : SwitchForm) (cases : Cases Nothing) (label : Option Form) (end : CaseEnd) (o : Around) (w : List Symbol) → IsProperLabel label end
    → trace (cases_led e form cases o) (spell_label label (case_end_symbol end ∷ w))
    ≡ (1 + statement_depth o) ∷ optional_nests label (1 + statement_depth o) ((1 + statement_depth o) ∷ trace (labelled e form cases label end o) w)
label_trace e form cases None case_end.Colon o w p = default_begun e form cases o (punct mark.Colon ∷ w)
label_trace e form cases None case_end.Semicolon o w p = default_begun e form cases o (punct mark.Semicolon ∷ w)
label_trace e form cases (Some l) case_end.Colon o w p =
    case_begun e form cases o (spell l (punct mark.Colon ∷ w))
    ∙ ap (λ u. (1 + statement_depth o) ∷ u) (place_trace (as_label e form cases) o l (punct mark.Colon) w _ p.1 (at_colon l w p.0) refl)
label_trace e form cases (Some l) case_end.Semicolon o w p =
    case_begun e form cases o (spell l (punct mark.Semicolon ∷ w))
    ∙ ap (λ u. (1 + statement_depth o) ∷ u) (place_trace (as_label e form cases) o l (punct mark.Semicolon) w _ p (at_semicolon l w) refl)

opening_trace : (e : Form) (form : SwitchForm) (o : Around) (w : List Symbol) → trace (past_switch e o) (cases_opening form ∷ w) ≡ statement_depth o ∷ trace (due_case e form no_case o) w
opening_trace e switch_form.Braces o w = refl
opening_trace e switch_form.Colon o w = refl

-- ---- `catch`

catch_begun : (body : Statements Nothing) (catches : Catches Nothing) (o : Around) (w : List Symbol)
    → trace (past_block body catches o) (keyword word.Catch ∷ punct mark.LeftParen ∷ w) ≡ statement_depth o ∷ statement_depth o ∷ trace (due_name (of_classes body catches empty) o) w
catch_begun body no_catch o w = refl
catch_begun body (and_catch catches classes n ss) o w = refl

finally_begun : (body : Statements Nothing) (catches : Catches Nothing) (o : Around) (w : List Symbol)
    → trace (past_block body catches o) (keyword word.Finally ∷ punct mark.LeftBrace ∷ w) ≡ statement_depth o ∷ statement_depth o ∷ trace (due_in_list (of_finally body catches) no_statement o) w
finally_begun body no_catch o w = refl
finally_begun body (and_catch catches classes n ss) o w = refl

classes_trace : (body : Statements Nothing) (catches : Catches Nothing) (classes : Sequence (Name Nothing)) (n : Name Nothing) (o : Around) (w : List Symbol) → is_empty classes ≡ false
    → trace (due_name (of_classes body catches empty) o) (separated (punct mark.Bar) spell_name classes (spell_dollar n (punct mark.RightParen ∷ punct mark.LeftBrace ∷ w)))
    ≡ separated_nests name_nests classes (1 + statement_depth o) ((1 + statement_depth o) ∷ (1 + statement_depth o) ∷ statement_depth o ∷ trace (due_in_list (of_catch body catches classes n) no_statement o) w)
classes_trace body catches empty n o w h = cc
classes_trace body catches (then_also xs x) n o w h = classes_led body catches xs x o (spell_dollar n (punct mark.RightParen ∷ punct mark.LeftBrace ∷ w))

-- ---- jumps, and the head of a `for`

jump_trace : (kind : Jump) (value : Option Form) (o : Around) (v : List Symbol) → IfAny value
    → trace (past_jump kind o) (spell_optional value (punct mark.Semicolon ∷ v)) ≡ optional_nests value (statement_depth o) (statement_depth o ∷ trace (done (jump tt kind value) o) v)
jump_trace kind None o v p = refl
jump_trace kind (Some e) o v p =
    jump_traced kind o (spell e (punct mark.Semicolon ∷ v)) (starts e (punct mark.Semicolon ∷ v)) ∙ place_trace (as_jump kind) o e (punct mark.Semicolon) v _ p (at_semicolon e v) refl

for_trace : (firsts tests steps : Items Nothing) (o : Around) (w : List Symbol) → AreAny firsts → AreAny tests → AreAny steps
    → trace (due_value of_starts o) (spell_items firsts (punct mark.Semicolon ∷ spell_items tests (punct mark.Semicolon ∷ spell_items steps (punct mark.RightParen ∷ w))))
    ≡ nests_items firsts (1 + statement_depth o) ((1 + statement_depth o) ∷ nests_items tests (1 + statement_depth o) ((1 + statement_depth o)
    ∷ nests_items steps (1 + statement_depth o) ((1 + statement_depth o) ∷ trace (past_loop (for_loop firsts tests steps) o) w)))
for_trace firsts tests steps o w p q r =
    let k : ℕ = 1 + statement_depth o in
    any_values_trace of_starts firsts o (punct mark.Semicolon) _ (λ xs. due_value (of_tests xs) o) p (λ e. at_semicolon e _) (λ xs e. refl) refl
    ∙ ap (λ u. nests_items firsts k (k ∷ u)) (any_values_trace (of_tests firsts) tests o (punct mark.Semicolon) _ (λ xs. due_value (of_steps firsts xs) o) q (λ e. at_semicolon e _) (λ xs e. refl) refl)
    ∙ ap (λ u. nests_items firsts k (k ∷ nests_items tests k (k ∷ u)))
    (any_values_trace (of_steps firsts tests) steps o (punct mark.RightParen) w (λ xs. past_loop (for_loop firsts tests xs) o) r (λ e. at_paren e _) (λ xs e. refl) refl)

-- ---- statements

mutual
  pub statement_trace : (a : Statement Nothing) (o : Around) (v : List Symbol) → IsProper a → StatementEnds a v → trace (due_statement o) (spell_statement a v) ≡ nests_statement a (stands a o) (trace (done a o) v)
  statement_trace (block note body) o v p h =
      let d : ℕ = depth_outside o in
      ap (λ u. d ∷ u) (list_trace of_block body o (punct mark.RightBrace ∷ v) p (quiet_list body _ (record { strength = refl; catching = refl })))
      ∙ ap (λ u. d ∷ nests_statements body (list_level of_block o) u) (end_traced of_block body o (punct mark.RightBrace) v _ refl)
      ∙ ap (λ x. d ∷ nests_statements body x (statement_depth (list_open of_block body ∷ o) ∷ trace (done (block tt body) o) v)) (block_inside no_statement o)
      ∙ ap (λ x. d ∷ nests_statements body (1 + d) (x ∷ trace (done (block tt body) o) v)) (block_inside body o)
  statement_trace (blank note) o v p h = refl
  statement_trace (inline note text) o v p h = refl
  statement_trace (expression note e) o v p h =
      line_traced o (spell e (punct mark.Semicolon ∷ v)) (starts e _) (static_fits e _) ∙ place_trace as_line o e (punct mark.Semicolon) v _ p (at_semicolon e v) refl
  statement_trace (echo note values) o v p h =
      ap (λ u. statement_depth o ∷ u) (values_trace of_echo values o (punct mark.Semicolon) v (λ xs. done (echo tt xs) o) p (λ e. at_semicolon e v) (λ xs e. refl))
  statement_trace (globals note empty) o v p h = cc
  statement_trace (globals note (then_also xs x)) o v p h = ap (λ u. statement_depth o ∷ u) (globals_led xs x o (punct mark.Semicolon ∷ v))
  statement_trace (statics note empty) o v p h = let x : true ≡ false = p.0 in cc
  statement_trace (statics note (then_also xs x)) o v p h =
      let d : ℕ = statement_depth o in
      ap (λ u. d ∷ u) (static_traced o (commas spell_variable (then_also xs x) (punct mark.Semicolon ∷ v)) (statics_start xs x (punct mark.Semicolon ∷ v))
      ∙ statics_led xs x o (punct mark.Semicolon ∷ v) p.1.0)
      ∙ ap (λ u. d ∷ separated_nests variable_nests xs d (separator_nests xs d (d ∷ u))) (static_end xs x.name x.value o v p.1.1)
  statement_trace (unset note places) o v p h =
      ap (λ u. statement_depth o ∷ statement_depth o ∷ u)
      (values_trace of_unset places o (punct mark.RightParen) (punct mark.Semicolon ∷ v) (λ xs. before_semicolon (unset tt xs) o) p (λ e. at_paren e _) (λ xs e. refl))
  statement_trace (constants note empty) o v p h = let x : true ≡ false = p.0 in cc
  statement_trace (constants note (then_also xs x)) o v p h =
      let d : ℕ = statement_depth o in
      ap (λ u. d ∷ u) (constants_led xs x o (punct mark.Semicolon ∷ v) p.1.0)
      ∙ ap (λ u. d ∷ separated_nests constant_nests xs d (separator_nests xs d (d ∷ u))) (constant_end xs x.name x.value o v p.1.1)
  statement_trace (jump note returning value) o v p h = ap (λ u. statement_depth o ∷ u) (jump_trace returning value o v p)
  statement_trace (jump note breaking value) o v p h = ap (λ u. statement_depth o ∷ u) (jump_trace breaking value o v p)
  statement_trace (jump note continuing value) o v p h = ap (λ u. statement_depth o ∷ u) (jump_trace continuing value o v p)
  statement_trace (throw note e) o v p h = ap (λ u. statement_depth o ∷ u) (place_trace as_thrown o e (punct mark.Semicolon) v _ p (at_semicolon e v) refl)
  statement_trace (if_only note test body parts) o v p h =
      let d : ℕ = statement_depth o in
      let ends : StatementEnds (last_of body parts) v = record { no_else = λ b. h.no_else refl; no_catch = λ b. h.no_catch (sym (last_of_catch body parts) ∙ b) } in
      ap (λ u. d ∷ d ∷ u) (head_trace if_head test o (spell_statement body (spell_elseifs parts v)) p.0)
      ∙ ap (head_nests test d)
      (if_traced test o (spell_statement body (spell_elseifs parts v)) (statement_starts body (spell_elseifs parts v))
      ∙ statement_trace body (if_open test ∷ o) (spell_elseifs parts v) p.1 (first_ends body parts v p.3 ends)
      ∙ ap (λ x. nests_statement body x (trace (done body (if_open test ∷ o)) (spell_elseifs parts v))) (stands_as_body body (if_open test) o refl)
      ∙ ap (nests_statement body (body_depth body d)) (parts_trace test body parts o v p.2 p.3 ends ∙ ap (nests_elseifs parts d) (if_done test body parts o v (h.no_else refl))))
  statement_trace (if_else note test body parts last) o v p h =
      let d : ℕ = statement_depth o in
      let rest : List Symbol = keyword word.Else ∷ spell_statement last v in
      let ends : StatementEnds (last_of body parts) rest = parted_ends (last_of body parts) _ (last_of_takes body parts ∙ p.4) refl in
      ap (λ u. d ∷ d ∷ u) (head_trace if_head test o (spell_statement body (spell_elseifs parts rest)) p.0)
      ∙ ap (head_nests test d)
      (if_traced test o (spell_statement body (spell_elseifs parts rest)) (statement_starts body (spell_elseifs parts rest))
      ∙ statement_trace body (if_open test ∷ o) (spell_elseifs parts rest) p.1 (first_ends body parts rest p.3 ends)
      ∙ ap (λ x. nests_statement body x (trace (done body (if_open test ∷ o)) (spell_elseifs parts rest))) (stands_as_body body (if_open test) o refl)
      ∙ ap (nests_statement body (body_depth body d)) (parts_trace test body parts o rest p.2 p.3 ends
      ∙ ap (nests_elseifs parts d) (if_elsed test body parts o (spell_statement last v)
      ∙ ap (λ u. d ∷ u) (statement_trace last (else_open test body parts ∷ o) v p.5 (record { no_else = h.no_else; no_catch = h.no_catch })
      ∙ ap (λ x. nests_statement last x (trace (done last (else_open test body parts ∷ o)) v)) (stands_as_body last (else_open test body parts) o refl)
      ∙ ap (nests_statement last (body_depth last d)) (last_traced (else_open test body parts) last o v refl)))))
  statement_trace (if_lists note test body parts) o v p h =
      let d : ℕ = statement_depth o in
      let rest : List Symbol = keyword word.EndIf ∷ punct mark.Semicolon ∷ v in
      let ends : ListEnds (last_list_of body parts) rest = quiet_list (last_list_of body parts) _ (record { strength = refl; catching = refl }) in
      ap (λ u. d ∷ d ∷ u) (head_trace if_head test o (punct mark.Colon ∷ spell_statements body (spell_elseif_lists parts rest)) p.0)
      ∙ ap (λ u. head_nests test d (d ∷ u)) (list_trace (of_if test) body o (spell_elseif_lists parts rest) p.1 (first_list_ends body parts rest p.3 ends)
      ∙ ap (nests_statements body (1 + d)) (part_lists_trace test body parts o rest p.2 p.3 ends ∙ ap (nests_elseif_lists parts d) (lists_done test body parts o v)))
  statement_trace (if_else_lists note test body parts last) o v p h =
      let d : ℕ = statement_depth o in
      let end : List Symbol = keyword word.EndIf ∷ punct mark.Semicolon ∷ v in
      let rest : List Symbol = keyword word.Else ∷ punct mark.Colon ∷ spell_statements last end in
      let ends : ListEnds (last_list_of body parts) rest = parted_list (last_list_of body parts) _ (last_list_takes body parts ∙ p.4) refl in
      ap (λ u. d ∷ d ∷ u) (head_trace if_head test o (punct mark.Colon ∷ spell_statements body (spell_elseif_lists parts rest)) p.0)
      ∙ ap (λ u. head_nests test d (d ∷ u)) (list_trace (of_if test) body o (spell_elseif_lists parts rest) p.1 (first_list_ends body parts rest p.3 ends)
      ∙ ap (nests_statements body (1 + d)) (part_lists_trace test body parts o rest p.2 p.3 ends
      ∙ ap (nests_elseif_lists parts d) (lists_elsed test body parts o (spell_statements last end)
      ∙ ap (λ u. d ∷ d ∷ u) (list_trace (of_else test body parts) last o end p.5 (quiet_list last _ (record { strength = refl; catching = refl }))
      ∙ ap (nests_statements last (1 + d)) (end_traced (of_else test body parts) last o (keyword word.EndIf) (punct mark.Semicolon ∷ v) _ refl)))))
  statement_trace (while note test body) o v p h =
      let d : ℕ = statement_depth o in
      ap (λ u. d ∷ d ∷ u) (head_trace while_head test o (spell_body word.EndWhile body v) p.0)
      ∙ ap (head_nests test d) (body_trace (while_loop test) body o v p.1 (body_ends_by body v h.no_else h.no_catch))
  statement_trace (do_while note body test) o v p h =
      let d : ℕ = statement_depth o in
      let rest : List Symbol = keyword word.While ∷ punct mark.LeftParen ∷ spell test (punct mark.RightParen ∷ punct mark.Semicolon ∷ v) in
      ap (λ u. d ∷ u) (statement_trace body (do_open ∷ o) rest p.0 (quiet_ends body _ (record { strength = refl; catching = refl }))
      ∙ ap (λ x. nests_statement body x (trace (done body (do_open ∷ o)) rest)) (stands_as_body body do_open o refl)
      ∙ ap (λ u. nests_statement body (body_depth body d) (d ∷ d ∷ u)) (head_trace (do_head body) test o (punct mark.Semicolon ∷ v) p.1))
  statement_trace (for note firsts tests steps body) o v p h =
      let d : ℕ = statement_depth o in
      let k : ℕ = 1 + d in
      ap (λ u. d ∷ d ∷ u) (for_trace firsts tests steps o (spell_body word.EndFor body v) p.0 p.1 p.2
      ∙ ap (λ u. nests_items firsts k (k ∷ nests_items tests k (k ∷ nests_items steps k (k ∷ u)))) (body_trace (for_loop firsts tests steps) body o v p.3 (body_ends_by body v h.no_else h.no_catch)))
  statement_trace (foreach note walked key value body) o v p h =
      let d : ℕ = statement_depth o in
      let k : ℕ = 1 + d in
      let rest : List Symbol = spell_body word.EndForeach body v in
      ap (λ u. d ∷ d ∷ u) (place_trace as_walked o walked (keyword word.As) _ _ p.1 (at_as walked _ p.0) refl
      ∙ ap (λ u. nests walked k (k ∷ u)) (targets_trace walked key value o rest p.2 p.3
      ∙ ap (λ u. key_nests key k (target_nests value k (k ∷ u))) (body_trace (foreach_loop walked key value) body o v p.4 (body_ends_by body v h.no_else h.no_catch))))
  statement_trace (switch note e form cases) o v p h =
      let d : ℕ = statement_depth o in
      ap (λ u. d ∷ d ∷ u) (head_trace switch_head e o (cases_opening form ∷ spell_cases cases (cases_closing form v)) p.0)
      ∙ ap (head_nests e d) (opening_trace e form o (spell_cases cases (cases_closing form v))
      ∙ ap (λ u. d ∷ u) (cases_trace e form cases o (cases_closing form v) p.1 (closing_quiet form v) ∙ ap (nests_cases cases (1 + d)) (cases_done e form cases o v)))
  statement_trace (try_catch note body no_catch) o v p h = let x : true ≡ false = p.1 in cc
  statement_trace (try_catch note body (and_catch catches classes n ss)) o v p h =
      let d : ℕ = statement_depth o in
      let rest : List Symbol = spell_catches (and_catch catches classes n ss) v in
      ap (λ u. d ∷ d ∷ u) (list_trace of_try body o (punct mark.RightBrace ∷ rest) p.0 (quiet_list body _ (record { strength = refl; catching = refl }))
      ∙ ap (nests_statements body (1 + d)) (end_traced of_try body o (punct mark.RightBrace) rest _ refl
      ∙ ap (λ u. (1 + d) ∷ u) (catches_trace body (and_catch catches classes n ss) o v p.2
      ∙ ap (nests_catches (and_catch catches classes n ss) d) (catches_traced body catches classes n ss o v (h.no_catch refl)))))
  statement_trace (try_finally note body catches last) o v p h =
      let d : ℕ = statement_depth o in
      let final : List Symbol = keyword word.Finally ∷ punct mark.LeftBrace ∷ spell_statements last (punct mark.RightBrace ∷ v) in
      ap (λ u. d ∷ d ∷ u) (list_trace of_try body o (punct mark.RightBrace ∷ spell_catches catches final) p.0 (quiet_list body _ (record { strength = refl; catching = refl }))
      ∙ ap (nests_statements body (1 + d)) (end_traced of_try body o (punct mark.RightBrace) (spell_catches catches final) _ refl
      ∙ ap (λ u. (1 + d) ∷ u) (catches_trace body catches o final p.1
      ∙ ap (nests_catches catches d) (finally_begun body catches o (spell_statements last (punct mark.RightBrace ∷ v))
      ∙ ap (λ u. d ∷ d ∷ u) (list_trace (of_finally body catches) last o (punct mark.RightBrace ∷ v) p.2 (quiet_list last _ (record { strength = refl; catching = refl }))
      ∙ ap (nests_statements last (1 + d)) (end_traced (of_finally body catches) last o (punct mark.RightBrace) v _ refl))))))
  statement_trace (declares note n value) o v p h = refl

  pub list_trace : (list : StatementList) (ss : Statements Nothing) (o : Around) (w : List Symbol) → AreProper ss → ListEnds ss w
      → trace (due_in_list list no_statement o) (spell_statements ss w) ≡ nests_statements ss (list_level list o) (trace (led list ss o) w)
  list_trace list no_statement o w p h = refl
  list_trace list (and_statement ss a) o w p h =
      list_trace list ss o (spell_statement a w) p.0 (quiet_list ss _ (starts_quiet _ (statement_starts a w)))
      ∙ ap (nests_statements ss (list_level list o)) (led_traced list ss o (spell_statement a w) (statement_starts a w)
      ∙ statement_trace a (list_open list ss ∷ o) w p.1 h ∙ ap (λ x. nests_statement a x (trace (done a (list_open list ss ∷ o)) w)) (stands_in_list a list ss o))

  parts_trace : (test : Form) (body : Statement Nothing) (parts : ElseIfs Nothing) (o : Around) (w : List Symbol) → AreProperParts parts → NoneTakes (takes_else body) parts
      → StatementEnds (last_of body parts) w → trace (done body (if_open test ∷ o)) (spell_elseifs parts w) ≡ nests_elseifs parts (statement_depth o) (trace (if_led test body parts o) w)
  parts_trace test body no_elseif o w q n h = refl
  parts_trace test body (and_elseif parts e a) o w q n h =
      let d : ℕ = statement_depth o in
      parts_trace test body parts o _ q.0 n.0 (parted_ends (last_of body parts) _ (last_of_takes body parts ∙ n.1) refl)
      ∙ ap (nests_elseifs parts d) (if_parted test body parts o (spell e (punct mark.RightParen ∷ spell_statement a w))
      ∙ ap (λ u. d ∷ d ∷ u) (head_trace (elseif_head test body parts) e o (spell_statement a w) q.1)
      ∙ ap (head_nests e d) (statement_trace a (elseif_open test body parts e ∷ o) w q.2 h
      ∙ ap (λ x. nests_statement a x (trace (done a (elseif_open test body parts e ∷ o)) w)) (stands_as_body a (elseif_open test body parts e) o refl)))

  part_lists_trace : (test : Form) (body : Statements Nothing) (parts : ElseIfLists Nothing) (o : Around) (w : List Symbol) → AreProperLists parts → NoListTakes (last_takes body) parts
      → ListEnds (last_list_of body parts) w → trace (led (of_if test) body o) (spell_elseif_lists parts w) ≡ nests_elseif_lists parts (statement_depth o) (trace (lists_led test body parts o) w)
  part_lists_trace test body no_elseif_list o w q n h = refl
  part_lists_trace test body (and_elseif_list parts e ss) o w q n h =
      let d : ℕ = statement_depth o in
      part_lists_trace test body parts o _ q.0 n.0 (parted_list (last_list_of body parts) _ (last_list_takes body parts ∙ n.1) refl)
      ∙ ap (nests_elseif_lists parts d) (lists_parted test body parts o (spell e (punct mark.RightParen ∷ punct mark.Colon ∷ spell_statements ss w))
      ∙ ap (λ u. d ∷ d ∷ u) (head_trace (elseif_list_head test body parts) e o (punct mark.Colon ∷ spell_statements ss w) q.1)
      ∙ ap (λ u. head_nests e d (d ∷ u)) (list_trace (of_elseif test body parts e) ss o w q.2 h))

  body_trace : (loop : Loop) (body : Body Nothing) (o : Around) (w : List Symbol) → IsProperBody body → BodyEnds body w
      → trace (past_loop loop o) (spell_body (loop_word loop) body w) ≡ nests_body body (statement_depth o) (trace (done (looped loop body) o) w)
  body_trace loop (single s) o w p h =
      loop_traced loop o (spell_statement s w) (statement_starts s w) ∙ statement_trace s (loop_open loop ∷ o) w p h
      ∙ ap (λ x. nests_statement s x (trace (done s (loop_open loop ∷ o)) w)) (stands_as_body s (loop_open loop) o refl)
      ∙ ap (nests_statement s (body_depth s (statement_depth o))) (last_traced (loop_open loop) s o w refl)
  body_trace loop (list_behind_colon body) o w p h =
      ap (λ u. statement_depth o ∷ u) (list_trace (of_loop loop) body o (keyword (loop_word loop) ∷ punct mark.Semicolon ∷ w) p (quiet_list body _ (loop_word_quiet loop _))
      ∙ ap (nests_statements body (1 + statement_depth o)) (loop_done loop body o w))

  cases_trace : (e : Form) (form : SwitchForm) (cases : Cases Nothing) (o : Around) (w : List Symbol) → AreProperCases cases → Quiet w
      → trace (due_case e form no_case o) (spell_cases cases w) ≡ nests_cases cases (1 + statement_depth o) (trace (cases_led e form cases o) w)
  cases_trace e form no_case o w p h = refl
  cases_trace e form (and_case cases note label end body) o w p h =
      let k : ℕ = 1 + statement_depth o in
      cases_trace e form cases o _ p.0 (label_quiet label _)
      ∙ ap (nests_cases cases k) (label_trace e form cases label end o (spell_statements body w) p.1
      ∙ ap (λ u. k ∷ optional_nests label k (k ∷ u)) (list_trace (of_case e form cases label end) body o w p.2 (quiet_list body w h)))

  catches_trace : (body : Statements Nothing) (catches : Catches Nothing) (o : Around) (w : List Symbol) → AreProperCatches catches
      → trace (past_block body no_catch o) (spell_catches catches w) ≡ nests_catches catches (statement_depth o) (trace (past_block body catches o) w)
  catches_trace body no_catch o w p = refl
  catches_trace body (and_catch catches classes n ss) o w p =
      let d : ℕ = statement_depth o in
      let inside : List Symbol = spell_statements ss (punct mark.RightBrace ∷ w) in
      catches_trace body catches o _ p.0
      ∙ ap (nests_catches catches d)
      (catch_begun body catches o (separated (punct mark.Bar) spell_name classes (spell_dollar n (punct mark.RightParen ∷ punct mark.LeftBrace ∷ inside)))
      ∙ ap (λ u. d ∷ d ∷ u) (classes_trace body catches classes n o inside p.1
      ∙ ap (λ u. separated_nests name_nests classes (1 + d) ((1 + d) ∷ (1 + d) ∷ d ∷ u)) (list_trace (of_catch body catches classes n) ss o (punct mark.RightBrace ∷ w) p.2 (quiet_list ss _ (record { strength = refl; catching = refl }))
      ∙ ap (nests_statements ss (1 + d)) (end_traced (of_catch body catches classes n) ss o (punct mark.RightBrace) w _ refl))))

-- ---- the whole

stands_outside : (a : Statement Nothing) → stands a [] ≡ 0
stands_outside (block note body) = refl
stands_outside _ = refl

nothing_taken : (a : Statement Nothing) (v : List Symbol) → trace (done a []) v ≡ []
nothing_taken a [] = refl
nothing_taken a (t ∷ v) = refl

pub statement_nesting : (a : Statement Nothing) (v : List Symbol) → IsProper a → StatementEnds a v → statement_depths_read (due_statement []) (spell_statement a v) ≡ nests_statement a 0 []
statement_nesting a v p h =
    statement_trace a [] v p h ∙ ap (λ x. nests_statement a x (trace (done a []) v)) (stands_outside a) ∙ ap (nests_statement a 0) (nothing_taken a v)
