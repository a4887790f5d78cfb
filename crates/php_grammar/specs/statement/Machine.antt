-- A machine that reads a statement, one symbol at a time, over the forms of statements that are open around it. An
-- expression inside is read by the machine of expressions: it takes each symbol that it can, and one that it
-- can't take ends the expression, if that is whole.
use Rattle.std.specs.Prelude.{ℕ, Bool, true, false, nat_lt, Option, Some, None, List, [], ◌∷◌}
use Rattle.php_ast.specs.declared.statement.SwitchForm.{SwitchForm}
use Rattle.php_ast.specs.declared.statement.SwitchForm.TheVariants as switch_form
use Rattle.php_ast.specs.declared.statement.CaseEnd.{CaseEnd}
use Rattle.php_ast.specs.declared.statement.CaseEnd.TheVariants as case_end
use Rattle.php_ast.specs.Symbol as symbol
use Rattle.php_ast.specs.Symbol.{Symbol}
use Rattle.php_ast.specs.expression.Tree.{Items, none, and, plain}
use Rattle.php_grammar.specs.declared.closer.Closer.{Closer}
use Rattle.php_grammar.specs.declared.closer.Closer.TheVariants as ender
use Rattle.php_grammar.specs.expression.Role.{is_ampersand, is_colon, is_left_brace}
use Rattle.php_grammar.specs.expression.Machine.{Nothing, Form, State, expects, past_static, pick, advance}
use Rattle.php_grammar.specs.Run.{either, if_some, through_expression}
use Rattle.php_ast.specs.statement.Tree.{Sequence, empty, then_also, Name, Target}
use Rattle.php_ast.specs.statement.Tree.{Statement, block, blank, inline, expression, echo, globals, statics, unset, constants, jump, throw, if_lists, if_else_lists, while, do_while, for, foreach, switch, try_catch, try_finally, declares}
use Rattle.php_ast.specs.statement.Tree.{Statements, no_statement, and_statement, no_elseif, and_elseif, ElseIfLists, no_elseif_list, and_elseif_list, list_behind_colon, Cases, no_case, and_case, Catches, no_catch, and_catch}
use Rattle.php_grammar.specs.statement.Forms.{Loop, while_loop, for_loop, foreach_loop, StatementList, of_block, of_if, of_elseif, of_else, of_loop, of_case, of_try, of_catch, of_finally, list_open, if_open, elseif_open, else_open, loop_open, do_open, OpenStatement, Around, Head, if_head, elseif_head, elseif_list_head, while_head, do_head, switch_head, Values, of_echo, of_unset, of_starts, of_tests, of_steps, ExpressionPlace, as_line, as_value, as_static, as_constant, as_jump, as_thrown, as_test, as_walked, as_first, as_second, as_label, Names, of_globals, of_statics, of_constants, of_classes, of_declare, StatementState, due_statement, done, due, in_expression, due_in_list, due_value, due_name, past_name, due_int, past_static_word, past_jump, past_if, past_loop, past_as, past_key, past_switch, due_case, past_default, past_block, completed_statement}
use Rattle.php_grammar.specs.statement.Role.{StatementBeginning, at_block, at_blank, at_inline, at_echo, at_globals, at_statics, at_unset, at_constants, at_jump, at_throw, at_if, at_while, at_do, at_for, at_foreach, at_switch, at_try, at_declare, at_expression, statement_beginning, Behind, by_else, by_elseif, by_while, by_case, by_default, by_brace, by_endif, by_endwhile, by_endfor, by_endforeach, by_endswitch, by_catch, by_finally, behind, else_strength, body_strength, Ending, closer, as_word, ending, Fixed, left_paren, right_paren, left_brace, fixed_colon, fixed_semicolon, is_fixed, is_semicolon, is_assign, is_bar, name_text, variable_text}

-- ---- which bodies a symbol ends

-- No symbol has as much strength.
abbrev pub above_else : ℕ
above_else = 2

-- A symbol of less strength ends the form.
abbrev pub least_strength : OpenStatement → ℕ
least_strength (if_open test) = else_strength
least_strength (elseif_open test body parts last) = else_strength
least_strength (else_open test body parts) = above_else
least_strength (loop_open loop) = above_else
least_strength _ = 0

pub record ReachedStatement : Type 0 where
  pub tree : Statement Nothing
  pub around : Around

-- completes the forms that a symbol of this strength ends
abbrev pub released_bodies : ℕ → Around → Statement Nothing → ReachedStatement
released_bodies n [] a = record { tree = a; around = [] }
released_bodies n (f ∷ o) a =
    pick (nat_lt n (least_strength f)) (released_bodies n o (completed_statement f a)) (record { tree = a; around = f ∷ o })

-- ---- steps

abbrev pub expected : ExpressionPlace → Around → StatementState
expected place o = in_expression place (expects []) o

-- an expression that begins with the symbol
abbrev pub entered : ExpressionPlace → Around → Symbol → Option StatementState
entered place o t = if_some (advance (expects []) t) (λ m. Some (in_expression place m o))

-- a test behind its `(`
abbrev pub headed : Head → Around → StatementState
headed head o = due (left_paren ∷ []) (expected (as_test head) o)

abbrev pub listing : StatementList → Around → StatementState
listing list o = due_in_list list no_statement o

-- what a symbol begins where a statement is due
abbrev pub begun : StatementBeginning → Around → Symbol → Option StatementState
begun at_block o t = Some (listing of_block o)
begun at_blank o t = Some (done (blank tt) o)
begun (at_inline text) o t = Some (done (inline tt text) o)
begun at_echo o t = Some (expected (as_value of_echo none) o)
begun at_globals o t = Some (due_name (of_globals empty) o)
begun at_statics o t = Some (past_static_word o)
begun at_unset o t = Some (due (left_paren ∷ []) (expected (as_value of_unset none) o))
begun at_constants o t = Some (due_name (of_constants empty) o)
begun (at_jump kind) o t = Some (past_jump kind o)
begun at_throw o t = Some (expected as_thrown o)
begun at_if o t = Some (headed if_head o)
begun at_while o t = Some (headed while_head o)
begun at_do o t = Some (due_statement (do_open ∷ o))
begun at_for o t = Some (due (left_paren ∷ []) (due_value of_starts o))
begun at_foreach o t = Some (due (left_paren ∷ []) (expected as_walked o))
begun at_switch o t = Some (headed switch_head o)
begun at_try o t = Some (due (left_brace ∷ []) (listing of_try o))
begun at_declare o t = Some (due (left_paren ∷ []) (due_name of_declare o))
begun at_expression o t = entered as_line o t

abbrev pub begin : Around → Symbol → Option StatementState
begin o t = begun (statement_beginning t) o t

-- behind fixed tokens
abbrev pub due_rest : List Fixed → StatementState → StatementState
due_rest [] m = m
due_rest (x ∷ xs) m = due (x ∷ xs) m

abbrev pub due_step : List Fixed → StatementState → Symbol → Option StatementState
due_step [] m t = None
due_step (x ∷ xs) m t = pick (is_fixed x t) (Some (due_rest xs m)) None

-- where a form ends with `;`
abbrev pub before_semicolon : Statement Nothing → Around → StatementState
before_semicolon a o = due (fixed_semicolon ∷ []) (done a o)

-- ---- lists

-- a label, or the end of the cases
abbrev pub case_step : Form → SwitchForm → Cases Nothing → Around → Behind → Option StatementState
case_step e form cases o by_case = Some (expected (as_label e form cases) o)
case_step e form cases o by_default = Some (past_default e form cases o)
case_step e switch_form.Braces cases o by_brace = Some (done (switch tt e switch_form.Braces cases) o)
case_step e switch_form.Colon cases o by_endswitch = Some (before_semicolon (switch tt e switch_form.Colon cases) o)
case_step e form cases o _ = None

-- behind a list of an `if`, whose parts so far are given
abbrev pub lists_step : Form → Statements Nothing → ElseIfLists Nothing → Around → Behind → Option StatementState
lists_step test body parts o by_elseif = Some (headed (elseif_list_head test body parts) o)
lists_step test body parts o by_else = Some (due (fixed_colon ∷ []) (listing (of_else test body parts) o))
lists_step test body parts o by_endif = Some (before_semicolon (if_lists tt test body parts) o)
lists_step test body parts o _ = None

abbrev pub loop_end : Loop → Statements Nothing → Around → Behind → Option StatementState
loop_end (while_loop test) ss o by_endwhile = Some (before_semicolon (while tt test (list_behind_colon ss)) o)
loop_end (for_loop a b c) ss o by_endfor = Some (before_semicolon (for tt a b c (list_behind_colon ss)) o)
loop_end (foreach_loop e key value) ss o by_endforeach = Some (before_semicolon (foreach tt e key value (list_behind_colon ss)) o)
loop_end _ ss o _ = None

-- what ends a list, or goes on with what it belongs to
abbrev pub list_end : StatementList → Statements Nothing → Around → Behind → Option StatementState
list_end of_block ss o by_brace = Some (done (block tt ss) o)
list_end (of_if test) ss o x = lists_step test ss no_elseif_list o x
list_end (of_elseif test body parts last) ss o x = lists_step test body (and_elseif_list parts last ss) o x
list_end (of_else test body parts) ss o by_endif = Some (before_semicolon (if_else_lists tt test body parts ss) o)
list_end (of_loop loop) ss o x = loop_end loop ss o x
list_end (of_case e form cases label end) ss o x = case_step e form (and_case cases tt label end ss) o x
list_end of_try ss o by_brace = Some (past_block ss no_catch o)
list_end (of_catch body catches classes variable) ss o by_brace = Some (past_block body (and_catch catches classes variable ss) o)
list_end (of_finally body catches) ss o by_brace = Some (done (try_finally tt body catches ss) o)
list_end _ ss o _ = None

abbrev pub list_step : StatementList → Statements Nothing → Around → Symbol → Option StatementState
list_step list ss o t = either (list_end list ss o (behind t)) (begin (list_open list ss ∷ o) t)

-- ---- behind a statement

-- what goes on with the form around a statement
abbrev pub form_step : Statement Nothing → Around → Symbol → Behind → Option StatementState
form_step a (list_open list ss ∷ o) t x = list_step list (and_statement ss a) o t
form_step a (if_open test ∷ o) t by_else = Some (due_statement (else_open test a no_elseif ∷ o))
form_step a (if_open test ∷ o) t by_elseif = Some (headed (elseif_head test a no_elseif) o)
form_step a (elseif_open test body parts last ∷ o) t by_else = Some (due_statement (else_open test body (and_elseif parts last a) ∷ o))
form_step a (elseif_open test body parts last ∷ o) t by_elseif = Some (headed (elseif_head test body (and_elseif parts last a)) o)
form_step a (do_open ∷ o) t by_while = Some (headed (do_head a) o)
form_step a _ t _ = None

abbrev pub reached_step : ReachedStatement → Symbol → Behind → Option StatementState
reached_step r t x = form_step r.tree r.around t x

abbrev pub past_statement : Statement Nothing → Around → Symbol → Option StatementState
past_statement a o t = reached_step (released_bodies (body_strength (behind t)) o a) t (behind t)

abbrev pub block_step : Statements Nothing → Catches Nothing → Around → Symbol → Behind → Option StatementState
block_step body catches o t by_catch = Some (due (left_paren ∷ []) (due_name (of_classes body catches empty) o))
block_step body catches o t by_finally = Some (due (left_brace ∷ []) (listing (of_finally body catches) o))
block_step body no_catch o t x = None
block_step body (and_catch catches classes variable ss) o t x =
    past_statement (try_catch tt body (and_catch catches classes variable ss)) o t

-- ---- behind an expression

-- the list of values without a further one
abbrev pub values_end : Values → Items Nothing → Around → Closer → Option StatementState
values_end of_echo items o ender.Semicolon = Some (done (echo tt items) o)
values_end of_unset items o ender.Paren = Some (before_semicolon (unset tt items) o)
values_end of_starts items o ender.Semicolon = Some (due_value (of_tests items) o)
values_end (of_tests starts) items o ender.Semicolon = Some (due_value (of_steps starts items) o)
values_end (of_steps starts tests) items o ender.Paren = Some (past_loop (for_loop starts tests items) o)
values_end _ items o _ = None

abbrev pub values_step : Values → Items Nothing → Around → Ending → Option StatementState
values_step values items o (closer c) = values_end values items o c
values_step values items o _ = None

-- behind the `)` of a test
abbrev pub tested : Head → Form → Around → StatementState
tested if_head e o = past_if e o
tested (elseif_head test body parts) e o = due_statement (elseif_open test body parts e ∷ o)
tested (elseif_list_head test body parts) e o = due (fixed_colon ∷ []) (listing (of_elseif test body parts e) o)
tested while_head e o = past_loop (while_loop e) o
tested (do_head a) e o = before_semicolon (do_while tt a e) o
tested switch_head e o = past_switch e o

abbrev pub target : Bool → Form → Target Nothing
target is_reference e = record { is_reference = is_reference; place = e }

abbrev pub labelled : Form → SwitchForm → Cases Nothing → Option Form → CaseEnd → Around → StatementState
labelled e form cases label end o = listing (of_case e form cases label end) o

-- the expression with what ends it
abbrev pub filled : ExpressionPlace → Form → Around → Ending → Option StatementState
filled as_line e o (closer ender.Semicolon) = Some (done (expression tt e) o)
filled (as_value values items) e o (closer ender.Comma) = Some (expected (as_value values (and items plain e)) o)
filled (as_value values items) e o x = values_step values (and items plain e) o x
filled (as_static xs n) e o (closer ender.Comma) = Some (due_name (of_statics (then_also xs (record { name = n; value = Some e }))) o)
filled (as_static xs n) e o (closer ender.Semicolon) = Some (done (statics tt (then_also xs (record { name = n; value = Some e }))) o)
filled (as_constant xs n) e o (closer ender.Comma) = Some (due_name (of_constants (then_also xs (record { name = n; value = e }))) o)
filled (as_constant xs n) e o (closer ender.Semicolon) = Some (done (constants tt (then_also xs (record { name = n; value = e }))) o)
filled (as_jump kind) e o (closer ender.Semicolon) = Some (done (jump tt kind (Some e)) o)
filled as_thrown e o (closer ender.Semicolon) = Some (done (throw tt e) o)
filled (as_test head) e o (closer ender.Paren) = Some (tested head e o)
filled as_walked e o as_word = Some (past_as e o)
filled (as_first walked is_reference) e o (closer ender.DoubleArrow) = Some (past_key walked (target is_reference e) o)
filled (as_first walked is_reference) e o (closer ender.Paren) = Some (past_loop (foreach_loop walked None (target is_reference e)) o)
filled (as_second walked key is_reference) e o (closer ender.Paren) = Some (past_loop (foreach_loop walked (Some key) (target is_reference e)) o)
filled (as_label e form cases) label o (closer ender.Colon) = Some (labelled e form cases (Some label) case_end.Colon o)
filled (as_label e form cases) label o (closer ender.Semicolon) = Some (labelled e form cases (Some label) case_end.Semicolon o)
filled _ e o _ = None

abbrev pub expression_step : ExpressionPlace → State → Around → Symbol → Option StatementState
expression_step place m o t = through_expression m t (λ n. in_expression place n o) (λ e. filled place e o (ending t))

-- ---- names and words

abbrev pub named_here : List ℕ → Name Nothing
named_here text = record { note = tt; text = text }

abbrev pub name_in : Names → Symbol → Option (List ℕ)
name_in (of_globals names) t = variable_text t
name_in (of_statics xs) t = variable_text t
name_in _ t = name_text t

-- behind a name of a catch: a further class, or the variable
abbrev pub class_step : Statements Nothing → Catches Nothing → Sequence (Name Nothing) → Around → Symbol → Option StatementState
class_step body catches classes o (symbol.variable text) =
    Some (due (right_paren ∷ left_brace ∷ []) (listing (of_catch body catches classes (named_here text)) o))
class_step body catches classes o t = pick (is_bar t) (Some (due_name (of_classes body catches classes) o)) None

abbrev pub name_step : Names → Name Nothing → Around → Symbol → Ending → Option StatementState
name_step (of_globals names) n o t (closer ender.Comma) = Some (due_name (of_globals (then_also names n)) o)
name_step (of_globals names) n o t (closer ender.Semicolon) = Some (done (globals tt (then_also names n)) o)
name_step (of_statics xs) n o t (closer ender.Comma) = Some (due_name (of_statics (then_also xs (record { name = n; value = None }))) o)
name_step (of_statics xs) n o t (closer ender.Semicolon) = Some (done (statics tt (then_also xs (record { name = n; value = None }))) o)
name_step (of_statics xs) n o t _ = pick (is_assign t) (Some (expected (as_static xs n) o)) None
name_step (of_constants xs) n o t _ = pick (is_assign t) (Some (expected (as_constant xs n) o)) None
name_step (of_classes body catches classes) n o t _ = class_step body catches (then_also classes n) o t
name_step of_declare n o t _ = pick (is_assign t) (Some (due_int n o)) None
name_step _ n o t _ = None

-- `static` begins static variables before a variable, and an expression before `::`
abbrev pub static_step : Around → Symbol → Option StatementState
static_step o (symbol.variable text) = Some (past_name (of_statics empty) (named_here text) o)
static_step o t = expression_step as_line (past_static []) o t

abbrev pub int_step : Name Nothing → Around → Symbol → Option StatementState
int_step n o (symbol.int value) = Some (due (right_paren ∷ []) (before_semicolon (declares tt n value) o))
int_step n o _ = None

-- a target of a `foreach`
abbrev pub target_step : (Bool → ExpressionPlace) → Around → Symbol → Option StatementState
target_step place o t = pick (is_ampersand t) (Some (expected (place true) o)) (entered (place false) o t)

-- the cases of a `switch`, behind what opens them
abbrev pub switch_step : Form → Around → Symbol → Option StatementState
switch_step e o t =
    pick (is_left_brace t) (Some (due_case e switch_form.Braces no_case o)) (pick (is_colon t) (Some (due_case e switch_form.Colon no_case o)) None)

abbrev pub default_step : Form → SwitchForm → Cases Nothing → Around → Ending → Option StatementState
default_step e form cases o (closer ender.Colon) = Some (labelled e form cases None case_end.Colon o)
default_step e form cases o (closer ender.Semicolon) = Some (labelled e form cases None case_end.Semicolon o)
default_step e form cases o _ = None

-- ---- one symbol

abbrev pub advance_statement : StatementState → Symbol → Option StatementState
advance_statement (due_statement o) t = begin o t
advance_statement (done a o) t = past_statement a o t
advance_statement (due xs m) t = due_step xs m t
advance_statement (in_expression place m o) t = expression_step place m o t
advance_statement (due_in_list list ss o) t = list_step list ss o t
advance_statement (due_value values o) t = either (values_step values none o (ending t)) (entered (as_value values none) o t)
advance_statement (due_name names o) t = if_some (name_in names t) (λ text. Some (past_name names (named_here text) o))
advance_statement (past_name names n o) t = name_step names n o t (ending t)
advance_statement (due_int n o) t = int_step n o t
advance_statement (past_static_word o) t = static_step o t
advance_statement (past_jump kind o) t = pick (is_semicolon t) (Some (done (jump tt kind None) o)) (entered (as_jump kind) o t)
advance_statement (past_if test o) t = pick (is_colon t) (Some (listing (of_if test) o)) (begin (if_open test ∷ o) t)
advance_statement (past_loop loop o) t = pick (is_colon t) (Some (listing (of_loop loop) o)) (begin (loop_open loop ∷ o) t)
advance_statement (past_as walked o) t = target_step (as_first walked) o t
advance_statement (past_key walked key o) t = target_step (as_second walked key) o t
advance_statement (past_switch e o) t = switch_step e o t
advance_statement (due_case e form cases o) t = case_step e form cases o (behind t)
advance_statement (past_default e form cases o) t = default_step e form cases o (ending t)
advance_statement (past_block body catches o) t = block_step body catches o t (behind t)
