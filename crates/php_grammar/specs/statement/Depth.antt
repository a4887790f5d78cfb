-- How deep a symbol of a statement is nested, by what was read before it.
use Rattle.std.specs.Prelude.{ℕ, ◌+◌, nat_lt, Bool, true, false, List, [], ◌∷◌}
use Rattle.php_ast.specs.Symbol.{Symbol}
use Rattle.php_grammar.specs.expression.Role.{is_colon}
use Rattle.php_grammar.specs.expression.Machine.{pick, advance}
use Rattle.php_grammar.specs.expression.Depth.{depth_at}
use Rattle.php_grammar.specs.TooDeep.{depth_inside, depths_taken}
use Rattle.php_grammar.specs.statement.Role.{StatementBeginning, at_block, statement_beginning, Behind, by_catch, by_finally, behind, body_strength, ends_outside, Fixed, right_paren}
use Rattle.php_grammar.specs.statement.Forms.{of_block, list_open, if_open, loop_open, OpenStatement, Around, Values, of_echo, ExpressionPlace, as_value, as_test, as_walked, as_first, as_second, as_label, Names, of_classes, of_declare, StatementState, due_statement, done, due, in_expression, due_in_list, due_value, due_name, past_name, due_int, past_static_word, past_jump, past_if, past_loop, past_as, past_key, past_switch, due_case, past_default, past_block}
use Rattle.php_grammar.specs.statement.Machine.{least_strength, advance_statement}

-- ---- open forms

-- whether a statement that stands here is a body
abbrev pub is_body_at : OpenStatement → Bool
is_body_at (list_open list ss) = false
is_body_at _ = true

abbrev pub is_body : Around → Bool
is_body [] = false
is_body (f ∷ o) = is_body_at f

-- A block that is a body opens nothing but its braces.
abbrev pub deepened_statement : OpenStatement → Bool → ℕ → ℕ
deepened_statement (list_open of_block ss) true d = d
deepened_statement _ body d = 1 + d

abbrev pub statement_depth : Around → ℕ
statement_depth [] = 0
statement_depth (f ∷ o) = deepened_statement f (is_body o) (statement_depth o)

-- outside a body, where its block begins
abbrev pub depth_outside : Around → ℕ
depth_outside [] = 0
depth_outside (list_open list ss ∷ o) = statement_depth (list_open list ss ∷ o)
depth_outside (f ∷ o) = statement_depth o

-- of a symbol that begins a statement
abbrev pub begun_depth : StatementBeginning → Around → ℕ
begun_depth at_block o = depth_outside o
begun_depth _ o = statement_depth o

abbrev pub begin_depth : Around → Symbol → ℕ
begin_depth o t = begun_depth (statement_beginning t) o

-- of a symbol of a list, which begins a statement or ends the list
abbrev pub list_depth : OpenStatement → Around → Symbol → ℕ
list_depth f o t = pick (ends_outside (behind t)) (statement_depth o) (begin_depth (f ∷ o) t)

-- behind a statement
abbrev pub form_depth : Around → Symbol → ℕ
form_depth [] t = 0
form_depth (list_open list ss ∷ o) t = list_depth (list_open list ss) o t
form_depth (f ∷ o) t = statement_depth o

-- the forms in which a symbol goes on
abbrev pub kept_bodies : ℕ → Around → Around
kept_bodies n [] = []
kept_bodies n (f ∷ o) = pick (nat_lt n (least_strength f)) (kept_bodies n o) (f ∷ o)

abbrev pub depth_past : Around → Symbol → ℕ
depth_past o t = form_depth (kept_bodies (body_strength (behind t)) o) t

-- behind the block of a `try` or of a `catch`
abbrev pub block_depth : Behind → Around → Symbol → ℕ
block_depth by_catch o t = statement_depth o
block_depth by_finally o t = statement_depth o
block_depth x o t = depth_past o t

-- ---- states

-- inside the parentheses in which values, an expression or a name stand, or among the cases of a `switch`
abbrev pub values_depth : Values → ℕ → ℕ
values_depth of_echo d = d
values_depth _ d = 1 + d

abbrev pub place_depth : ExpressionPlace → ℕ → ℕ
place_depth (as_value values items) d = values_depth values d
place_depth (as_test head) d = 1 + d
place_depth as_walked d = 1 + d
place_depth (as_first walked is_reference) d = 1 + d
place_depth (as_second walked key is_reference) d = 1 + d
place_depth (as_label e form cases) d = 1 + d
place_depth _ d = d

abbrev pub names_depth : Names → ℕ → ℕ
names_depth (of_classes body catches classes) d = 1 + d
names_depth of_declare d = 1 + d
names_depth _ d = d

-- the forms around what is due
abbrev pub around : StatementState → Around
around (due_statement o) = o
around (done a o) = o
around (due xs m) = around m
around (in_expression place m o) = o
around (due_in_list list ss o) = o
around (due_value values o) = o
around (due_name names o) = o
around (past_name names n o) = o
around (due_int n o) = o
around (past_static_word o) = o
around (past_jump kind o) = o
around (past_if test o) = o
around (past_loop loop o) = o
around (past_as walked o) = o
around (past_key walked key o) = o
around (past_switch e o) = o
around (due_case e form cases o) = o
around (past_default e form cases o) = o
around (past_block body catches o) = o

-- Of fixed tokens, `)` alone stands inside what it ends.
abbrev pub fixed_depth : List Fixed → ℕ → ℕ
fixed_depth (right_paren ∷ xs) d = 1 + d
fixed_depth _ d = d

abbrev pub statement_depth_at : StatementState → Symbol → ℕ
statement_depth_at (due_statement o) t = begin_depth o t
statement_depth_at (done a o) t = depth_past o t
statement_depth_at (due xs m) t = fixed_depth xs (statement_depth (around m))
statement_depth_at (in_expression place m o) t = depth_inside (advance m t) (depth_at m t) (place_depth place (statement_depth o))
statement_depth_at (due_in_list list ss o) t = list_depth (list_open list ss) o t
statement_depth_at (due_value values o) t = values_depth values (statement_depth o)
statement_depth_at (due_name names o) t = names_depth names (statement_depth o)
statement_depth_at (past_name names n o) t = names_depth names (statement_depth o)
statement_depth_at (due_int n o) t = 1 + statement_depth o
statement_depth_at (past_static_word o) t = statement_depth o
statement_depth_at (past_jump kind o) t = statement_depth o
statement_depth_at (past_if test o) t = pick (is_colon t) (statement_depth o) (begin_depth (if_open test ∷ o) t)
statement_depth_at (past_loop loop o) t = pick (is_colon t) (statement_depth o) (begin_depth (loop_open loop ∷ o) t)
statement_depth_at (past_as walked o) t = 1 + statement_depth o
statement_depth_at (past_key walked key o) t = 1 + statement_depth o
statement_depth_at (past_switch e o) t = statement_depth o
statement_depth_at (due_case e form cases o) t = pick (ends_outside (behind t)) (statement_depth o) (1 + statement_depth o)
statement_depth_at (past_default e form cases o) t = 1 + statement_depth o
statement_depth_at (past_block body catches o) t = block_depth (behind t) o t

-- the nesting of each symbol that a reading takes
abbrev pub statement_depths_read : StatementState → List Symbol → List ℕ
statement_depths_read = depths_taken advance_statement statement_depth_at
