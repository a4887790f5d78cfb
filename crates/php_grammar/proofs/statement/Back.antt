-- Completeness of the machine of statements: it reads the spelling of a proper statement as that statement, in front of
-- anything that doesn't go on with it.
use Rattle.std.proofs.Common.{◌≡◌, true, false, Option, Some, None, List, [], ◌∷◌, refl, sym, ◌∙◌}
use Rattle.php_token.specs.declared.kind.Keyword.TheVariants as word
use Rattle.php_token.specs.declared.kind.Punct.TheVariants as mark
use Rattle.php_ast.specs.declared.statement.SwitchForm.{SwitchForm}
use Rattle.php_ast.specs.declared.statement.SwitchForm.TheVariants as switch_form
use Rattle.php_ast.specs.declared.statement.CaseEnd.{CaseEnd}
use Rattle.php_ast.specs.declared.statement.CaseEnd.TheVariants as case_end
use Rattle.php_ast.specs.Symbol.{Symbol, keyword, punct}
use Rattle.php_ast.specs.expression.Spelling.{spell, spell_items}
use Rattle.php_ast.specs.expression.Tree.{Items}
use Rattle.php_grammar.specs.expression.Machine.{Nothing, Form}
use Rattle.php_ast.specs.statement.Tree.{Sequence, empty, then_also, Name, Jump, Statement, block, blank, inline, expression, echo, globals, statics, unset, constants, jump, throw, if_only, if_else, if_lists, if_else_lists, while, do_while, for, foreach, switch, try_catch, try_finally, declares, returning, breaking, continuing, Statements, no_statement, and_statement, ElseIfs, no_elseif, and_elseif, ElseIfLists, no_elseif_list, and_elseif_list, Body, single, list_behind_colon, Cases, no_case, and_case, Catches, no_catch, and_catch}
use Rattle.php_ast.specs.statement.Spelling.{commas, separated, spell_name, spell_dollar, spell_variable, spell_optional, spell_label, case_end_symbol, cases_opening, cases_closing, spell_statement, spell_statements, spell_elseifs, spell_elseif_lists, spell_body, spell_cases, spell_catches}
use Rattle.php_ast.specs.statement.Proper.{takes_else, body_takes, last_takes, last_body, NoneTakes, last_list, NoListTakes, IfAny, AreAny, is_empty, IsProperLabel, IsProper, AreProper, AreProperParts, AreProperLists, IsProperBody, AreProperCases, AreProperCatches}
use Rattle.php_grammar.specs.statement.Role.{Behind, by_other, by_while, behind, body_strength}
use Rattle.php_grammar.specs.statement.Forms.{list_open, Loop, while_loop, for_loop, foreach_loop, StatementList, of_block, of_if, of_elseif, of_else, of_loop, of_case, of_try, of_catch, of_finally, if_open, elseif_open, else_open, loop_open, do_open, Around, if_head, elseif_head, elseif_list_head, while_head, do_head, switch_head, of_echo, of_unset, of_starts, of_tests, of_steps, as_line, as_jump, as_thrown, as_test, as_walked, as_label, of_classes, StatementState, due_statement, done, due_in_list, due_value, due_name, past_jump, past_loop, past_switch, due_case, past_default, past_block, looped}
use Rattle.php_grammar.specs.statement.Machine.{expected, labelled, before_semicolon}
use Rattle.php_grammar.specs.statement.Reading.{loop_word}
use Rattle.php_grammar.specs.statement.Laws.{takes_catch, body_takes_catch, part_takes_catch, is_catching, head_behind, StatementEnds}
use Rattle.php_grammar.proofs.expression.Trees.{starts}
use Rattle.php_grammar.proofs.statement.Starts.{run, ender, StartsStatement, starts_no_ender, statement_starts, led, led_on, led_ends, static_fits}
use Rattle.php_grammar.proofs.statement.Parts.{place_read, at_semicolon, at_paren, at_colon, at_as, jump_entered, line_entered, if_entered, loop_entered, values_read, any_values_read, globals_led, classes_led, static_end, statics_led, statics_start, static_entered, constant_end, constants_led, targets_read, last_ended, if_ended, catches_ended}

-- ---- what may follow

-- The first symbol goes on with no statement.
pub record Quiet (w : List Symbol) : Type 0 where
  pub strength : body_strength (head_behind w) ≡ 0
  pub catching : is_catching (head_behind w) ≡ false

pub quiet_ends : (a : Statement Nothing) (w : List Symbol) → Quiet w → StatementEnds a w
quiet_ends a w h = record { no_else = λ b. h.strength; no_catch = λ b. h.catching }

quiet_behind : (x : Behind) → ender x ≡ false → (body_strength x ≡ 0) × (is_catching x ≡ false)
quiet_behind by_other h = (refl, refl)
quiet_behind by_while h = (refl, refl)
quiet_behind _ h = cc

-- a statement goes on with none before it
pub starts_quiet : (w : List Symbol) → StartsStatement w → Quiet w
starts_quiet [] h = absurd h
starts_quiet (t ∷ w) h =
    let q : (body_strength (behind t) ≡ 0) × (is_catching (behind t) ≡ false) = quiet_behind (behind t) (starts_no_ender t h) in
    record { strength = q.0; catching = q.1 }

-- what may follow the last statement of a list
abbrev pub ListEnds : Statements Nothing → List Symbol → Type 0
ListEnds no_statement w = Unit {0}
ListEnds (and_statement ss a) w = StatementEnds a w

pub quiet_list : (ss : Statements Nothing) (w : List Symbol) → Quiet w → ListEnds ss w
quiet_list no_statement w h = tt
quiet_list (and_statement ss a) w h = quiet_ends a w h

-- a word of an `if` in front of which no `if` is open
pub parted_ends : (a : Statement Nothing) (w : List Symbol) → takes_else a ≡ false → is_catching (head_behind w) ≡ false → StatementEnds a w
parted_ends a w shut h = record { no_else = λ b. cc; no_catch = λ b. h }

pub parted_list : (ss : Statements Nothing) (w : List Symbol) → last_takes ss ≡ false → is_catching (head_behind w) ≡ false → ListEnds ss w
parted_list no_statement w shut h = tt
parted_list (and_statement ss a) w shut h = parted_ends a w shut h

-- ---- the bodies of an `if`

-- the last body
abbrev pub last_of : Statement Nothing → ElseIfs Nothing → Statement Nothing
last_of body no_elseif = body
last_of body (and_elseif parts test last) = last

pub last_of_takes : (body : Statement Nothing) (parts : ElseIfs Nothing) → takes_else (last_of body parts) ≡ last_body (takes_else body) parts
last_of_takes body no_elseif = refl
last_of_takes body (and_elseif parts test last) = refl

pub last_of_catch : (body : Statement Nothing) (parts : ElseIfs Nothing) → takes_catch (last_of body parts) ≡ part_takes_catch (takes_catch body) parts
last_of_catch body no_elseif = refl
last_of_catch body (and_elseif parts test last) = refl

abbrev pub if_led : Form → Statement Nothing → ElseIfs Nothing → Around → StatementState
if_led test body no_elseif o = done body (if_open test ∷ o)
if_led test body (and_elseif parts last a) o = done a (elseif_open test body parts last ∷ o)

-- what follows the first body
pub first_ends : (body : Statement Nothing) (parts : ElseIfs Nothing) (w : List Symbol) → NoneTakes (takes_else body) parts → StatementEnds (last_of body parts) w
    → StatementEnds body (spell_elseifs parts w)
first_ends body no_elseif w n h = h
first_ends body (and_elseif parts e a) w n h = first_ends body parts _ n.0 (parted_ends (last_of body parts) _ (last_of_takes body parts ∙ n.1) refl)

if_parted : (test : Form) (body : Statement Nothing) (parts : ElseIfs Nothing) (o : Around) (w : List Symbol)
    → run (if_led test body parts o) (keyword word.ElseIf ∷ punct mark.LeftParen ∷ w) ≡ run (expected (as_test (elseif_head test body parts)) o) w
if_parted test body no_elseif o w = refl
if_parted test body (and_elseif parts last a) o w = refl

if_elsed : (test : Form) (body : Statement Nothing) (parts : ElseIfs Nothing) (o : Around) (w : List Symbol)
    → run (if_led test body parts o) (keyword word.Else ∷ w) ≡ run (due_statement (else_open test body parts ∷ o)) w
if_elsed test body no_elseif o w = refl
if_elsed test body (and_elseif parts last a) o w = refl

if_done : (test : Form) (body : Statement Nothing) (parts : ElseIfs Nothing) (o : Around) (w : List Symbol) → body_strength (head_behind w) ≡ 0
    → run (if_led test body parts o) w ≡ run (done (if_only tt test body parts) o) w
if_done test body no_elseif o w h = if_ended (if_open test) body o w refl h
if_done test body (and_elseif parts last a) o w h = if_ended (elseif_open test body parts last) a o w refl h

-- the lists of an `if`
abbrev pub lists_led : Form → Statements Nothing → ElseIfLists Nothing → Around → StatementState
lists_led test body no_elseif_list o = led (of_if test) body o
lists_led test body (and_elseif_list parts last ss) o = led (of_elseif test body parts last) ss o

lists_parted : (test : Form) (body : Statements Nothing) (parts : ElseIfLists Nothing) (o : Around) (w : List Symbol)
    → run (lists_led test body parts o) (keyword word.ElseIf ∷ punct mark.LeftParen ∷ w) ≡ run (expected (as_test (elseif_list_head test body parts)) o) w
lists_parted test body no_elseif_list o w = led_ends (of_if test) body o (keyword word.ElseIf) (punct mark.LeftParen ∷ w) _ refl
lists_parted test body (and_elseif_list parts last ss) o w = led_ends (of_elseif test body parts last) ss o (keyword word.ElseIf) (punct mark.LeftParen ∷ w) _ refl

lists_elsed : (test : Form) (body : Statements Nothing) (parts : ElseIfLists Nothing) (o : Around) (w : List Symbol)
    → run (lists_led test body parts o) (keyword word.Else ∷ punct mark.Colon ∷ w) ≡ run (due_in_list (of_else test body parts) no_statement o) w
lists_elsed test body no_elseif_list o w = led_ends (of_if test) body o (keyword word.Else) (punct mark.Colon ∷ w) _ refl
lists_elsed test body (and_elseif_list parts last ss) o w = led_ends (of_elseif test body parts last) ss o (keyword word.Else) (punct mark.Colon ∷ w) _ refl

lists_done : (test : Form) (body : Statements Nothing) (parts : ElseIfLists Nothing) (o : Around) (w : List Symbol)
    → run (lists_led test body parts o) (keyword word.EndIf ∷ punct mark.Semicolon ∷ w) ≡ run (done (if_lists tt test body parts) o) w
lists_done test body no_elseif_list o w = led_ends (of_if test) body o (keyword word.EndIf) (punct mark.Semicolon ∷ w) _ refl
lists_done test body (and_elseif_list parts last ss) o w = led_ends (of_elseif test body parts last) ss o (keyword word.EndIf) (punct mark.Semicolon ∷ w) _ refl

-- the last list
abbrev pub last_list_of : Statements Nothing → ElseIfLists Nothing → Statements Nothing
last_list_of body no_elseif_list = body
last_list_of body (and_elseif_list parts test last) = last

pub last_list_takes : (body : Statements Nothing) (parts : ElseIfLists Nothing) → last_takes (last_list_of body parts) ≡ last_list (last_takes body) parts
last_list_takes body no_elseif_list = refl
last_list_takes body (and_elseif_list parts test last) = refl

pub first_list_ends : (body : Statements Nothing) (parts : ElseIfLists Nothing) (w : List Symbol) → NoListTakes (last_takes body) parts → ListEnds (last_list_of body parts) w
    → ListEnds body (spell_elseif_lists parts w)
first_list_ends body no_elseif_list w n h = h
first_list_ends body (and_elseif_list parts e ss) w n h = first_list_ends body parts _ n.0 (parted_list (last_list_of body parts) _ (last_list_takes body parts ∙ n.1) refl)

-- ---- loops

loop_done : (loop : Loop) (body : Statements Nothing) (o : Around) (w : List Symbol)
    → run (led (of_loop loop) body o) (keyword (loop_word loop) ∷ punct mark.Semicolon ∷ w) ≡ run (done (looped loop (list_behind_colon body)) o) w
loop_done (while_loop test) body o w = led_ends (of_loop (while_loop test)) body o (keyword word.EndWhile) (punct mark.Semicolon ∷ w) _ refl
loop_done (for_loop a b c) body o w = led_ends (of_loop (for_loop a b c)) body o (keyword word.EndFor) (punct mark.Semicolon ∷ w) _ refl
loop_done (foreach_loop a b c) body o w = led_ends (of_loop (foreach_loop a b c)) body o (keyword word.EndForeach) (punct mark.Semicolon ∷ w) _ refl

pub loop_word_quiet : (loop : Loop) (w : List Symbol) → Quiet (keyword (loop_word loop) ∷ w)
loop_word_quiet (while_loop test) w = record { strength = refl; catching = refl }
loop_word_quiet (for_loop a b c) w = record { strength = refl; catching = refl }
loop_word_quiet (foreach_loop a b c) w = record { strength = refl; catching = refl }

-- what may follow the body of a loop
abbrev pub BodyEnds : Body Nothing → List Symbol → Type 0
BodyEnds (single s) w = StatementEnds s w
BodyEnds (list_behind_colon body) w = Unit {0}

pub body_ends_by : (body : Body Nothing) (w : List Symbol) → (body_takes body ≡ true → body_strength (head_behind w) ≡ 0) → (body_takes_catch body ≡ true → is_catching (head_behind w) ≡ false)
    → BodyEnds body w
body_ends_by (single s) w h g = record { no_else = h; no_catch = g }
body_ends_by (list_behind_colon body) w h g = tt

-- ---- cases

abbrev pub cases_led : Form → SwitchForm → Cases Nothing → Around → StatementState
cases_led e form no_case o = due_case e form no_case o
cases_led e form (and_case cases note label end body) o = led (of_case e form cases label end) body o

case_begun : (e : Form) (form : SwitchForm) (cases : Cases Nothing) (o : Around) (w : List Symbol)
    → run (cases_led e form cases o) (keyword word.Case ∷ w) ≡ run (expected (as_label e form cases) o) w
case_begun e form no_case o w = refl
case_begun e form (and_case cases note label end body) o w = led_ends (of_case e form cases label end) body o (keyword word.Case) w _ refl

default_begun : (e : Form) (form : SwitchForm) (cases : Cases Nothing) (o : Around) (w : List Symbol)
    → run (cases_led e form cases o) (keyword word.Default ∷ w) ≡ run (past_default e form cases o) w
default_begun e form no_case o w = refl
default_begun e form (and_case cases note label end body) o w = led_ends (of_case e form cases label end) body o (keyword word.Default) w _ refl

cases_done : (e : Form) (form : SwitchForm) (cases : Cases Nothing) (o : Around) (w : List Symbol)
    → run (cases_led e form cases o) (cases_closing form w) ≡ run (done (switch tt e form cases) o) w
cases_done e switch_form.Braces no_case o w = refl
cases_done e switch_form.Colon no_case o w = refl
cases_done e switch_form.Braces (and_case cases note label end body) o w = led_ends (of_case e switch_form.Braces cases label end) body o (punct mark.RightBrace) w _ refl
cases_done e switch_form.Colon (and_case cases note label end body) o w =
    led_ends (of_case e switch_form.Colon cases label end) body o (keyword word.EndSwitch) (punct mark.Semicolon ∷ w) _ refl

label_read : (e : Form) (form : SwitchForm) (cases : Cases Nothing) (label : Option Form) (end : CaseEnd) (o : Around) (w : List Symbol) → IsProperLabel label end
    → run (cases_led e form cases o) (spell_label label (case_end_symbol end ∷ w)) ≡ run (labelled e form cases label end o) w
label_read e form cases None case_end.Colon o w p = default_begun e form cases o (punct mark.Colon ∷ w)
label_read e form cases None case_end.Semicolon o w p = default_begun e form cases o (punct mark.Semicolon ∷ w)
label_read e form cases (Some l) case_end.Colon o w p =
    case_begun e form cases o (spell l (punct mark.Colon ∷ w)) ∙ place_read (as_label e form cases) o l (punct mark.Colon) w _ p.1 (at_colon l w p.0) refl
label_read e form cases (Some l) case_end.Semicolon o w p =
    case_begun e form cases o (spell l (punct mark.Semicolon ∷ w)) ∙ place_read (as_label e form cases) o l (punct mark.Semicolon) w _ p (at_semicolon l w) refl

pub label_quiet : (label : Option Form) (w : List Symbol) → Quiet (spell_label label w)
label_quiet None w = record { strength = refl; catching = refl }
label_quiet (Some l) w = record { strength = refl; catching = refl }

pub closing_quiet : (form : SwitchForm) (w : List Symbol) → Quiet (cases_closing form w)
closing_quiet switch_form.Braces w = record { strength = refl; catching = refl }
closing_quiet switch_form.Colon w = record { strength = refl; catching = refl }

opening_read : (e : Form) (form : SwitchForm) (o : Around) (w : List Symbol) → run (past_switch e o) (cases_opening form ∷ w) ≡ run (due_case e form no_case o) w
opening_read e switch_form.Braces o w = refl
opening_read e switch_form.Colon o w = refl

-- ---- `catch`

catch_begun : (body : Statements Nothing) (catches : Catches Nothing) (o : Around) (w : List Symbol)
    → run (past_block body catches o) (keyword word.Catch ∷ punct mark.LeftParen ∷ w) ≡ run (due_name (of_classes body catches empty) o) w
catch_begun body no_catch o w = refl
catch_begun body (and_catch catches classes n ss) o w = refl

finally_begun : (body : Statements Nothing) (catches : Catches Nothing) (o : Around) (w : List Symbol)
    → run (past_block body catches o) (keyword word.Finally ∷ punct mark.LeftBrace ∷ w) ≡ run (due_in_list (of_finally body catches) no_statement o) w
finally_begun body no_catch o w = refl
finally_begun body (and_catch catches classes n ss) o w = refl

classes_read : (body : Statements Nothing) (catches : Catches Nothing) (classes : Sequence (Name Nothing)) (n : Name Nothing) (o : Around) (w : List Symbol) → is_empty classes ≡ false
    → run (due_name (of_classes body catches empty) o) (separated (punct mark.Bar) spell_name classes (spell_dollar n (punct mark.RightParen ∷ punct mark.LeftBrace ∷ w)))
    ≡ run (due_in_list (of_catch body catches classes n) no_statement o) w
classes_read body catches empty n o w h = cc
classes_read body catches (then_also xs x) n o w h = classes_led body catches xs x o (spell_dollar n (punct mark.RightParen ∷ punct mark.LeftBrace ∷ w))

-- ---- jumps, and the head of a `for`

jump_read : (kind : Jump) (value : Option Form) (o : Around) (v : List Symbol) → IfAny value
    → run (past_jump kind o) (spell_optional value (punct mark.Semicolon ∷ v)) ≡ run (done (jump tt kind value) o) v
jump_read kind None o v p = refl
jump_read kind (Some e) o v p = jump_entered kind o (spell e (punct mark.Semicolon ∷ v)) (starts e _) ∙ place_read (as_jump kind) o e (punct mark.Semicolon) v _ p (at_semicolon e v) refl

for_read : (firsts tests steps : Items Nothing) (o : Around) (w : List Symbol) → AreAny firsts → AreAny tests → AreAny steps
    → run (due_value of_starts o) (spell_items firsts (punct mark.Semicolon ∷ spell_items tests (punct mark.Semicolon ∷ spell_items steps (punct mark.RightParen ∷ w))))
    ≡ run (past_loop (for_loop firsts tests steps) o) w
for_read firsts tests steps o w p q r =
    any_values_read of_starts firsts o (punct mark.Semicolon) _ (λ xs. due_value (of_tests xs) o) p (λ e. at_semicolon e _) (λ xs e. refl) refl
    ∙ any_values_read (of_tests firsts) tests o (punct mark.Semicolon) _ (λ xs. due_value (of_steps firsts xs) o) q (λ e. at_semicolon e _) (λ xs e. refl) refl
    ∙ any_values_read (of_steps firsts tests) steps o (punct mark.RightParen) w (λ xs. past_loop (for_loop firsts tests xs) o) r (λ e. at_paren e _) (λ xs e. refl) refl

-- ---- statements

mutual
  pub statement_read : (a : Statement Nothing) (o : Around) (v : List Symbol) → IsProper a → StatementEnds a v → run (due_statement o) (spell_statement a v) ≡ run (done a o) v
  statement_read (block note body) o v p h =
      list_read of_block body o (punct mark.RightBrace ∷ v) p (quiet_list body _ (record { strength = refl; catching = refl }))
      ∙ led_ends of_block body o (punct mark.RightBrace) v _ refl
  statement_read (blank note) o v p h = refl
  statement_read (inline note text) o v p h = refl
  statement_read (expression note e) o v p h =
      line_entered o (spell e (punct mark.Semicolon ∷ v)) (starts e _) (static_fits e _) ∙ place_read as_line o e (punct mark.Semicolon) v _ p (at_semicolon e v) refl
  statement_read (echo note values) o v p h = values_read of_echo values o (punct mark.Semicolon) v (λ xs. done (echo tt xs) o) p (λ e. at_semicolon e v) (λ xs e. refl)
  statement_read (globals note empty) o v p h = cc
  statement_read (globals note (then_also xs x)) o v p h = globals_led xs x o (punct mark.Semicolon ∷ v)
  statement_read (statics note empty) o v p h = let x : true ≡ false = p.0 in cc
  statement_read (statics note (then_also xs x)) o v p h =
      static_entered o (commas spell_variable (then_also xs x) (punct mark.Semicolon ∷ v)) (statics_start xs x (punct mark.Semicolon ∷ v)) ∙ statics_led xs x o (punct mark.Semicolon ∷ v) p.1.0 ∙ static_end xs x.name x.value o v p.1.1
  statement_read (unset note places) o v p h =
      values_read of_unset places o (punct mark.RightParen) (punct mark.Semicolon ∷ v) (λ xs. before_semicolon (unset tt xs) o) p (λ e. at_paren e _) (λ xs e. refl)
  statement_read (constants note empty) o v p h = let x : true ≡ false = p.0 in cc
  statement_read (constants note (then_also xs x)) o v p h = constants_led xs x o (punct mark.Semicolon ∷ v) p.1.0 ∙ constant_end xs x.name x.value o v p.1.1
  statement_read (jump note returning value) o v p h = jump_read returning value o v p
  statement_read (jump note breaking value) o v p h = jump_read breaking value o v p
  statement_read (jump note continuing value) o v p h = jump_read continuing value o v p
  statement_read (throw note e) o v p h = place_read as_thrown o e (punct mark.Semicolon) v _ p (at_semicolon e v) refl
  statement_read (if_only note test body parts) o v p h =
      let ends : StatementEnds (last_of body parts) v = record { no_else = λ b. h.no_else refl; no_catch = λ b. h.no_catch (sym (last_of_catch body parts) ∙ b) } in
      place_read (as_test if_head) o test (punct mark.RightParen) _ _ p.0 (at_paren test _) refl
      ∙ if_entered test o _ (statement_starts body _)
      ∙ statement_read body (if_open test ∷ o) _ p.1 (first_ends body parts v p.3 ends)
      ∙ parts_read test body parts o v p.2 p.3 ends
      ∙ if_done test body parts o v (h.no_else refl)
  statement_read (if_else note test body parts last) o v p h =
      let ends : StatementEnds (last_of body parts) (keyword word.Else ∷ spell_statement last v) = parted_ends (last_of body parts) _ (last_of_takes body parts ∙ p.4) refl in
      place_read (as_test if_head) o test (punct mark.RightParen) _ _ p.0 (at_paren test _) refl
      ∙ if_entered test o _ (statement_starts body _)
      ∙ statement_read body (if_open test ∷ o) _ p.1 (first_ends body parts _ p.3 ends)
      ∙ parts_read test body parts o (keyword word.Else ∷ spell_statement last v) p.2 p.3 ends
      ∙ if_elsed test body parts o (spell_statement last v)
      ∙ statement_read last (else_open test body parts ∷ o) v p.5 (record { no_else = h.no_else; no_catch = h.no_catch })
      ∙ last_ended (else_open test body parts) last o v refl
  statement_read (if_lists note test body parts) o v p h =
      let ends : ListEnds (last_list_of body parts) (keyword word.EndIf ∷ punct mark.Semicolon ∷ v) = quiet_list (last_list_of body parts) _ (record { strength = refl; catching = refl }) in
      place_read (as_test if_head) o test (punct mark.RightParen) _ _ p.0 (at_paren test _) refl
      ∙ list_read (of_if test) body o _ p.1 (first_list_ends body parts _ p.3 ends)
      ∙ part_lists_read test body parts o (keyword word.EndIf ∷ punct mark.Semicolon ∷ v) p.2 p.3 ends
      ∙ lists_done test body parts o v
  statement_read (if_else_lists note test body parts last) o v p h =
      let rest : List Symbol = spell_statements last (keyword word.EndIf ∷ punct mark.Semicolon ∷ v) in
      let ends : ListEnds (last_list_of body parts) (keyword word.Else ∷ punct mark.Colon ∷ rest) = parted_list (last_list_of body parts) _ (last_list_takes body parts ∙ p.4) refl in
      place_read (as_test if_head) o test (punct mark.RightParen) _ _ p.0 (at_paren test _) refl
      ∙ list_read (of_if test) body o _ p.1 (first_list_ends body parts _ p.3 ends)
      ∙ part_lists_read test body parts o (keyword word.Else ∷ punct mark.Colon ∷ rest) p.2 p.3 ends
      ∙ lists_elsed test body parts o rest
      ∙ list_read (of_else test body parts) last o (keyword word.EndIf ∷ punct mark.Semicolon ∷ v) p.5 (quiet_list last _ (record { strength = refl; catching = refl }))
      ∙ led_ends (of_else test body parts) last o (keyword word.EndIf) (punct mark.Semicolon ∷ v) _ refl
  statement_read (while note test body) o v p h =
      place_read (as_test while_head) o test (punct mark.RightParen) _ _ p.0 (at_paren test _) refl
      ∙ body_read (while_loop test) body o v p.1 (body_ends_by body v h.no_else h.no_catch)
  statement_read (do_while note body test) o v p h =
      statement_read body (do_open ∷ o) _ p.0 (quiet_ends body _ (record { strength = refl; catching = refl }))
      ∙ place_read (as_test (do_head body)) o test (punct mark.RightParen) (punct mark.Semicolon ∷ v) _ p.1 (at_paren test _) refl
  statement_read (for note firsts tests steps body) o v p h =
      for_read firsts tests steps o _ p.0 p.1 p.2 ∙ body_read (for_loop firsts tests steps) body o v p.3 (body_ends_by body v h.no_else h.no_catch)
  statement_read (foreach note walked key value body) o v p h =
      place_read as_walked o walked (keyword word.As) _ _ p.1 (at_as walked _ p.0) refl ∙ targets_read walked key value o _ p.2 p.3
      ∙ body_read (foreach_loop walked key value) body o v p.4 (body_ends_by body v h.no_else h.no_catch)
  statement_read (switch note e form cases) o v p h =
      place_read (as_test switch_head) o e (punct mark.RightParen) _ _ p.0 (at_paren e _) refl ∙ opening_read e form o _
      ∙ cases_read e form cases o (cases_closing form v) p.1 (closing_quiet form v) ∙ cases_done e form cases o v
  statement_read (try_catch note body no_catch) o v p h = let x : true ≡ false = p.1 in cc
  statement_read (try_catch note body (and_catch catches classes n ss)) o v p h =
      list_read of_try body o _ p.0 (quiet_list body _ (record { strength = refl; catching = refl })) ∙ led_ends of_try body o (punct mark.RightBrace) _ _ refl
      ∙ catches_read body (and_catch catches classes n ss) o v p.2 ∙ catches_ended body catches classes n ss o v (h.no_catch refl)
  statement_read (try_finally note body catches last) o v p h =
      list_read of_try body o _ p.0 (quiet_list body _ (record { strength = refl; catching = refl })) ∙ led_ends of_try body o (punct mark.RightBrace) _ _ refl
      ∙ catches_read body catches o _ p.1 ∙ finally_begun body catches o (spell_statements last (punct mark.RightBrace ∷ v))
      ∙ list_read (of_finally body catches) last o (punct mark.RightBrace ∷ v) p.2 (quiet_list last _ (record { strength = refl; catching = refl }))
      ∙ led_ends (of_finally body catches) last o (punct mark.RightBrace) v _ refl
  statement_read (declares note n value) o v p h = refl

  pub list_read : (list : StatementList) (ss : Statements Nothing) (o : Around) (w : List Symbol) → AreProper ss → ListEnds ss w
      → run (due_in_list list no_statement o) (spell_statements ss w) ≡ run (led list ss o) w
  list_read list no_statement o w p h = refl
  list_read list (and_statement ss a) o w p h =
      list_read list ss o (spell_statement a w) p.0 (quiet_list ss _ (starts_quiet _ (statement_starts a w))) ∙ led_on list ss o (spell_statement a w) (statement_starts a w)
      ∙ statement_read a (list_open list ss ∷ o) w p.1 h

  parts_read : (test : Form) (body : Statement Nothing) (parts : ElseIfs Nothing) (o : Around) (w : List Symbol) → AreProperParts parts → NoneTakes (takes_else body) parts
      → StatementEnds (last_of body parts) w → run (done body (if_open test ∷ o)) (spell_elseifs parts w) ≡ run (if_led test body parts o) w
  parts_read test body no_elseif o w q n h = refl
  parts_read test body (and_elseif parts e a) o w q n h =
      parts_read test body parts o _ q.0 n.0 (parted_ends (last_of body parts) _ (last_of_takes body parts ∙ n.1) refl) ∙ if_parted test body parts o _
      ∙ place_read (as_test (elseif_head test body parts)) o e (punct mark.RightParen) _ _ q.1 (at_paren e _) refl ∙ statement_read a (elseif_open test body parts e ∷ o) w q.2 h

  part_lists_read : (test : Form) (body : Statements Nothing) (parts : ElseIfLists Nothing) (o : Around) (w : List Symbol) → AreProperLists parts → NoListTakes (last_takes body) parts
      → ListEnds (last_list_of body parts) w → run (led (of_if test) body o) (spell_elseif_lists parts w) ≡ run (lists_led test body parts o) w
  part_lists_read test body no_elseif_list o w q n h = refl
  part_lists_read test body (and_elseif_list parts e ss) o w q n h =
      part_lists_read test body parts o _ q.0 n.0 (parted_list (last_list_of body parts) _ (last_list_takes body parts ∙ n.1) refl) ∙ lists_parted test body parts o _
      ∙ place_read (as_test (elseif_list_head test body parts)) o e (punct mark.RightParen) _ _ q.1 (at_paren e _) refl ∙ list_read (of_elseif test body parts e) ss o w q.2 h

  body_read : (loop : Loop) (body : Body Nothing) (o : Around) (w : List Symbol) → IsProperBody body → BodyEnds body w
      → run (past_loop loop o) (spell_body (loop_word loop) body w) ≡ run (done (looped loop body) o) w
  body_read loop (single s) o w p h =
      loop_entered loop o _ (statement_starts s w) ∙ statement_read s (loop_open loop ∷ o) w p h ∙ last_ended (loop_open loop) s o w refl
  body_read loop (list_behind_colon body) o w p h =
      list_read (of_loop loop) body o _ p (quiet_list body _ (loop_word_quiet loop _)) ∙ loop_done loop body o w

  cases_read : (e : Form) (form : SwitchForm) (cases : Cases Nothing) (o : Around) (w : List Symbol) → AreProperCases cases → Quiet w
      → run (due_case e form no_case o) (spell_cases cases w) ≡ run (cases_led e form cases o) w
  cases_read e form no_case o w p h = refl
  cases_read e form (and_case cases note label end body) o w p h =
      cases_read e form cases o _ p.0 (label_quiet label _) ∙ label_read e form cases label end o _ p.1
      ∙ list_read (of_case e form cases label end) body o w p.2 (quiet_list body w h)

  catches_read : (body : Statements Nothing) (catches : Catches Nothing) (o : Around) (w : List Symbol) → AreProperCatches catches
      → run (past_block body no_catch o) (spell_catches catches w) ≡ run (past_block body catches o) w
  catches_read body no_catch o w p = refl
  catches_read body (and_catch catches classes n ss) o w p =
      let block : List Symbol = spell_statements ss (punct mark.RightBrace ∷ w) in
      catches_read body catches o _ p.0
      ∙ catch_begun body catches o (separated (punct mark.Bar) spell_name classes (spell_dollar n (punct mark.RightParen ∷ punct mark.LeftBrace ∷ block)))
      ∙ classes_read body catches classes n o block p.1
      ∙ list_read (of_catch body catches classes n) ss o (punct mark.RightBrace ∷ w) p.2 (quiet_list ss _ (record { strength = refl; catching = refl }))
      ∙ led_ends (of_catch body catches classes n) ss o (punct mark.RightBrace) w _ refl
