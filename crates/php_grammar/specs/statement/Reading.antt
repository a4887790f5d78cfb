-- Where the machine of statements halts: the statement that has been read, ended as shortly as possible, and a whole
-- reading.
use Rattle.std.specs.Prelude.{pos, false, Option, Some, None, List, [], ◌∷◌}
use Rattle.php_token.specs.declared.kind.Keyword.{Keyword}
use Rattle.php_token.specs.declared.kind.Keyword.TheVariants as word
use Rattle.php_token.specs.declared.kind.Punct.TheVariants as mark
use Rattle.php_ast.specs.declared.statement.SwitchForm.TheVariants as switch_form
use Rattle.php_ast.specs.declared.statement.CaseEnd.TheVariants as case_end
use Rattle.php_ast.specs.Symbol as symbol
use Rattle.php_ast.specs.Symbol.{Symbol, keyword, punct}
use Rattle.php_ast.specs.expression.Tree.{Items, none, and, plain}
use Rattle.php_grammar.specs.expression.Machine.{Nothing, Form, any, any_symbol}
use Rattle.php_grammar.specs.Run.{ReadingOf, reading, if_whole, run_of, around_expression}
use Rattle.php_ast.specs.statement.Tree.{empty, then_also, Name, Statement, blank, expression, echo, globals, statics, unset, constants, jump, throw, if_only, if_lists, while, do_while, for, foreach, switch, try_catch, try_finally, declares}
use Rattle.php_ast.specs.statement.Tree.{no_statement, no_elseif, and_elseif, and_elseif_list, single, no_case, and_case, no_catch, and_catch}
use Rattle.php_ast.specs.statement.Spelling.{cases_closing}
use Rattle.php_grammar.specs.statement.Role.{Fixed, fixed_symbol}
use Rattle.php_grammar.specs.statement.Forms.{Loop, while_loop, for_loop, foreach_loop, StatementList, of_if, of_elseif, of_else, of_loop, of_case, of_try, list_open, do_open, OpenStatement, Around, Head, if_head, elseif_head, elseif_list_head, while_head, do_head, switch_head, Values, of_echo, of_unset, of_starts, of_tests, of_steps, ExpressionPlace, as_line, as_value, as_static, as_constant, as_jump, as_thrown, as_test, as_walked, as_first, as_second, as_label, Names, of_globals, of_statics, of_constants, of_classes, of_declare, StatementState, due_statement, done, due, in_expression, due_in_list, due_value, due_name, past_name, due_int, past_static_word, past_jump, past_if, past_loop, past_as, past_key, past_switch, due_case, past_default, past_block, looped, listed_statement, completed_statement}
use Rattle.php_grammar.specs.statement.Machine.{target, advance_statement}

-- ---- the symbols that end a form, before what follows

-- the statement in place of one that is due, and its symbol
abbrev pub any_statement : Statement Nothing
any_statement = blank tt

abbrev pub end_symbol : Symbol
end_symbol = punct mark.Semicolon

abbrev pub right_paren_symbol : Symbol
right_paren_symbol = punct mark.RightParen

abbrev pub braces : List Symbol → List Symbol
braces w = punct mark.LeftBrace ∷ punct mark.RightBrace ∷ w

abbrev pub any_name : Name Nothing
any_name = record { note = tt; text = [] }

abbrev pub loop_word : Loop → Keyword
loop_word (while_loop test) = word.EndWhile
loop_word (for_loop starts tests steps) = word.EndFor
loop_word (foreach_loop walked key value) = word.EndForeach

abbrev pub list_rest : StatementList → List Symbol → List Symbol
list_rest (of_if test) w = keyword word.EndIf ∷ end_symbol ∷ w
list_rest (of_elseif test body parts last) w = keyword word.EndIf ∷ end_symbol ∷ w
list_rest (of_else test body parts) w = keyword word.EndIf ∷ end_symbol ∷ w
list_rest (of_loop loop) w = keyword (loop_word loop) ∷ end_symbol ∷ w
list_rest (of_case e form cases label end) w = cases_closing form w
list_rest of_try w = punct mark.RightBrace ∷ keyword word.Finally ∷ braces w
list_rest _ w = punct mark.RightBrace ∷ w

abbrev pub form_rest : OpenStatement → List Symbol → List Symbol
form_rest (list_open list ss) w = list_rest list w
form_rest do_open w = keyword word.While ∷ punct mark.LeftParen ∷ any_symbol ∷ right_paren_symbol ∷ end_symbol ∷ w
form_rest _ w = w

abbrev pub completed_around : Around → Statement Nothing → Statement Nothing
completed_around [] a = a
completed_around (f ∷ o) a = completed_around o (completed_statement f a)

abbrev pub missing_around : Around → List Symbol
missing_around [] = []
missing_around (f ∷ o) = form_rest f (missing_around o)

-- ---- statements that lack what stands behind a value, a test, an expression or a name

abbrev pub values_statement : Values → Items Nothing → Statement Nothing
values_statement of_echo items = echo tt items
values_statement of_unset items = unset tt items
values_statement of_starts items = for tt items none none (single any_statement)
values_statement (of_tests starts) items = for tt starts items none (single any_statement)
values_statement (of_steps starts tests) items = for tt starts tests items (single any_statement)

abbrev pub values_rest : Values → List Symbol → List Symbol
values_rest of_echo w = end_symbol ∷ w
values_rest of_starts w = end_symbol ∷ end_symbol ∷ right_paren_symbol ∷ end_symbol ∷ w
values_rest (of_tests starts) w = end_symbol ∷ right_paren_symbol ∷ end_symbol ∷ w
values_rest _ w = right_paren_symbol ∷ end_symbol ∷ w

abbrev pub tested_statement : Head → Form → Statement Nothing
tested_statement if_head e = if_only tt e any_statement no_elseif
tested_statement (elseif_head test body parts) e = if_only tt test body (and_elseif parts e any_statement)
tested_statement (elseif_list_head test body parts) e = if_lists tt test body (and_elseif_list parts e no_statement)
tested_statement while_head e = while tt e (single any_statement)
tested_statement (do_head a) e = do_while tt a e
tested_statement switch_head e = switch tt e switch_form.Braces no_case

abbrev pub head_rest : Head → List Symbol → List Symbol
head_rest (elseif_list_head test body parts) w = right_paren_symbol ∷ punct mark.Colon ∷ keyword word.EndIf ∷ end_symbol ∷ w
head_rest switch_head w = right_paren_symbol ∷ braces w
head_rest _ w = right_paren_symbol ∷ end_symbol ∷ w

abbrev pub placed_statement : ExpressionPlace → Form → Statement Nothing
placed_statement as_line e = expression tt e
placed_statement (as_value values items) e = values_statement values (and items plain e)
placed_statement (as_static xs n) e = statics tt (then_also xs (record { name = n; value = Some e }))
placed_statement (as_constant xs n) e = constants tt (then_also xs (record { name = n; value = e }))
placed_statement (as_jump kind) e = jump tt kind (Some e)
placed_statement as_thrown e = throw tt e
placed_statement (as_test head) e = tested_statement head e
placed_statement as_walked e = foreach tt e None (target false any) (single any_statement)
placed_statement (as_first walked is_reference) e = foreach tt walked None (target is_reference e) (single any_statement)
placed_statement (as_second walked key is_reference) e = foreach tt walked (Some key) (target is_reference e) (single any_statement)
placed_statement (as_label e form cases) label = switch tt e form (and_case cases tt (Some label) case_end.Semicolon no_statement)

abbrev pub place_rest : ExpressionPlace → List Symbol → List Symbol
place_rest (as_value values items) w = values_rest values w
place_rest (as_test head) w = head_rest head w
place_rest as_walked w = keyword word.As ∷ any_symbol ∷ right_paren_symbol ∷ end_symbol ∷ w
place_rest (as_first walked is_reference) w = right_paren_symbol ∷ end_symbol ∷ w
place_rest (as_second walked key is_reference) w = right_paren_symbol ∷ end_symbol ∷ w
place_rest (as_label e form cases) w = end_symbol ∷ cases_closing form w
place_rest _ w = end_symbol ∷ w

abbrev pub named_statement : Names → Name Nothing → Statement Nothing
named_statement (of_globals names) n = globals tt (then_also names n)
named_statement (of_statics xs) n = statics tt (then_also xs (record { name = n; value = None }))
named_statement (of_constants xs) n = constants tt (then_also xs (record { name = n; value = any }))
named_statement (of_classes body catches classes) n = try_catch tt body (and_catch catches (then_also classes n) any_name no_statement)
named_statement of_declare n = declares tt n (pos 0)

-- a name that is due in them, and what stands behind it
abbrev pub name_symbol : Names → Symbol
name_symbol (of_globals names) = any_symbol
name_symbol (of_statics xs) = any_symbol
name_symbol _ = symbol.name []

abbrev pub name_rest : Names → List Symbol → List Symbol
name_rest (of_constants xs) w = punct mark.Assign ∷ any_symbol ∷ end_symbol ∷ w
name_rest (of_classes body catches classes) w = any_symbol ∷ right_paren_symbol ∷ braces w
name_rest of_declare w = punct mark.Assign ∷ symbol.int (pos 0) ∷ right_paren_symbol ∷ end_symbol ∷ w
name_rest _ w = end_symbol ∷ w

-- ---- a whole reading

abbrev pub StatementReading : Type 0
StatementReading = ReadingOf (Statement Nothing)

-- a statement, completed by what is open around it
abbrev pub stopped : Statement Nothing → Around → List Symbol → List Symbol → StatementReading
stopped a o missing w = reading (completed_around o a) missing w

abbrev pub fixed_symbols : List Fixed → List Symbol → List Symbol
fixed_symbols [] w = w
fixed_symbols (x ∷ xs) w = fixed_symbol x ∷ fixed_symbols xs w

abbrev pub behind_fixed : List Fixed → StatementReading → StatementReading
behind_fixed xs r = reading r.tree (fixed_symbols xs r.missing) r.unread

abbrev pub halt_statement : StatementState → List Symbol → StatementReading
halt_statement (due_statement o) w = stopped any_statement o (end_symbol ∷ missing_around o) w
halt_statement (done a o) w = stopped a o (missing_around o) w
halt_statement (due xs m) w = behind_fixed xs (halt_statement m w)
halt_statement (in_expression place m o) w =
    around_expression (λ e. completed_around o (placed_statement place e)) m (place_rest place (missing_around o)) w
halt_statement (due_in_list list ss o) w = stopped (listed_statement list ss) o (list_rest list (missing_around o)) w
halt_statement (due_value values o) w = stopped (values_statement values none) o (values_rest values (missing_around o)) w
halt_statement (due_name names o) w = stopped (named_statement names any_name) o (name_symbol names ∷ name_rest names (missing_around o)) w
halt_statement (past_name names n o) w = stopped (named_statement names n) o (name_rest names (missing_around o)) w
halt_statement (due_int n o) w =
    stopped (declares tt n (pos 0)) o (symbol.int (pos 0) ∷ right_paren_symbol ∷ end_symbol ∷ missing_around o) w
halt_statement (past_static_word o) w =
    stopped (named_statement (of_statics empty) any_name) o (any_symbol ∷ end_symbol ∷ missing_around o) w
halt_statement (past_jump kind o) w = stopped (jump tt kind None) o (end_symbol ∷ missing_around o) w
halt_statement (past_if test o) w = stopped (if_only tt test any_statement no_elseif) o (end_symbol ∷ missing_around o) w
halt_statement (past_loop loop o) w = stopped (looped loop (single any_statement)) o (end_symbol ∷ missing_around o) w
halt_statement (past_as walked o) w =
    stopped (placed_statement (as_first walked false) any) o (any_symbol ∷ right_paren_symbol ∷ end_symbol ∷ missing_around o) w
halt_statement (past_key walked key o) w =
    stopped (placed_statement (as_second walked key false) any) o (any_symbol ∷ right_paren_symbol ∷ end_symbol ∷ missing_around o) w
halt_statement (past_switch e o) w = stopped (switch tt e switch_form.Braces no_case) o (braces (missing_around o)) w
halt_statement (due_case e form cases o) w = stopped (switch tt e form cases) o (cases_closing form (missing_around o)) w
halt_statement (past_default e form cases o) w =
    stopped (switch tt e form (and_case cases tt None case_end.Semicolon no_statement)) o (end_symbol ∷ cases_closing form (missing_around o)) w
halt_statement (past_block body no_catch o) w =
    stopped (try_finally tt body no_catch no_statement) o (keyword word.Finally ∷ braces (missing_around o)) w
halt_statement (past_block body (and_catch catches classes variable ss) o) w =
    stopped (try_catch tt body (and_catch catches classes variable ss)) o (missing_around o) w

abbrev pub read_statement_from : StatementState → List Symbol → StatementReading
read_statement_from = run_of advance_statement halt_statement

-- the reading of a statement
abbrev pub read_statement : List Symbol → StatementReading
read_statement = read_statement_from (due_statement [])

-- the statement that has been read, where nothing is missing
abbrev pub whole_statement : StatementState → Option (Statement Nothing)
whole_statement m = if_whole (halt_statement m [])
