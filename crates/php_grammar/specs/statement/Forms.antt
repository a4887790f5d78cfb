-- The forms of statements that are open while a statement is read, and what is due in each state.
use Rattle.std.specs.Prelude.{Bool, Option, List}
use Rattle.php_ast.specs.declared.statement.SwitchForm.{SwitchForm}
use Rattle.php_ast.specs.declared.statement.CaseEnd.{CaseEnd}
use Rattle.php_ast.specs.expression.Tree.{Items}
use Rattle.php_grammar.specs.expression.Machine.{Nothing, Form, State, any}
use Rattle.php_ast.specs.statement.Tree.{Sequence, Name, Variable, Constant, Target, Jump}
use Rattle.php_ast.specs.statement.Tree.{Statement, block, if_only, if_else, if_lists, if_else_lists, while, do_while, for, foreach, switch, try_catch, try_finally}
use Rattle.php_ast.specs.statement.Tree.{Statements, no_statement, and_statement, ElseIfs, no_elseif, and_elseif, ElseIfLists, no_elseif_list, and_elseif_list, Body, single, list_behind_colon, Cases, and_case, Catches, no_catch, and_catch}
use Rattle.php_grammar.specs.statement.Role.{Fixed}

-- ---- what is open

-- the head of a loop that has a body behind it
pub data Loop : Type 0 where
  while_loop : Form → Loop
  for_loop : Items Nothing → Items Nothing → Items Nothing → Loop
  foreach_loop : Form → Option (Target Nothing) → Target Nothing → Loop

-- what a list of statements belongs to
pub data StatementList : Type 0 where
  of_block : StatementList
  -- the lists of an `if`: behind its own colon, behind that of an `elseif`, and behind that of `else`
  of_if : Form → StatementList
  of_elseif : Form → Statements Nothing → ElseIfLists Nothing → Form → StatementList
  of_else : Form → Statements Nothing → ElseIfLists Nothing → StatementList
  of_loop : Loop → StatementList
  -- behind the label of a case
  of_case : Form → SwitchForm → Cases Nothing → Option Form → CaseEnd → StatementList
  of_try : StatementList
  of_catch : Statements Nothing → Catches Nothing → Sequence (Name Nothing) → Name Nothing → StatementList
  of_finally : Statements Nothing → Catches Nothing → StatementList

-- a form that is not complete: its next part is a statement
pub data OpenStatement : Type 0 where
  list_open : StatementList → Statements Nothing → OpenStatement
  if_open : Form → OpenStatement
  elseif_open : Form → Statement Nothing → ElseIfs Nothing → Form → OpenStatement
  else_open : Form → Statement Nothing → ElseIfs Nothing → OpenStatement
  loop_open : Loop → OpenStatement
  do_open : OpenStatement

-- from the inside outwards
abbrev pub Around : Type 0
Around = List OpenStatement

-- what stands before a test in parentheses
pub data Head : Type 0 where
  if_head : Head
  elseif_head : Form → Statement Nothing → ElseIfs Nothing → Head
  elseif_list_head : Form → Statements Nothing → ElseIfLists Nothing → Head
  while_head : Head
  do_head : Statement Nothing → Head
  switch_head : Head

-- what values between commas belong to; of a `for` with the lists before them
pub data Values : Type 0 where
  of_echo : Values
  of_unset : Values
  of_starts : Values
  of_tests : Items Nothing → Values
  of_steps : Items Nothing → Items Nothing → Values

-- where an expression stands in a statement, with what was read before it
pub data ExpressionPlace : Type 0 where
  as_line : ExpressionPlace
  as_value : Values → Items Nothing → ExpressionPlace
  -- behind the `=` of a static variable, and of a constant
  as_static : Sequence (Variable Nothing) → Name Nothing → ExpressionPlace
  as_constant : Sequence (Constant Nothing) → Name Nothing → ExpressionPlace
  as_jump : Jump → ExpressionPlace
  as_thrown : ExpressionPlace
  as_test : Head → ExpressionPlace
  -- in a `foreach`: what it walks, what stands behind `as`, and what stands behind `=>`
  as_walked : ExpressionPlace
  as_first : Form → Bool → ExpressionPlace
  as_second : Form → Target Nothing → Bool → ExpressionPlace
  as_label : Form → SwitchForm → Cases Nothing → ExpressionPlace

-- a list, or a form, in which a name is due
pub data Names : Type 0 where
  of_globals : Sequence (Name Nothing) → Names
  of_statics : Sequence (Variable Nothing) → Names
  of_constants : Sequence (Constant Nothing) → Names
  of_classes : Statements Nothing → Catches Nothing → Sequence (Name Nothing) → Names
  of_declare : Names

-- what is due
pub data StatementState : Type 0 where
  due_statement : Around → StatementState
  -- a whole statement stands here
  done : Statement Nothing → Around → StatementState
  -- these fixed tokens, and then what the state says
  due : List Fixed → StatementState → StatementState
  in_expression : ExpressionPlace → State → Around → StatementState
  -- a statement of a list, or the end of the list
  due_in_list : StatementList → Statements Nothing → Around → StatementState
  -- the first value of a list of a `for`, or the end of that list
  due_value : Values → Around → StatementState
  -- a name, and what stands behind it
  due_name : Names → Around → StatementState
  past_name : Names → Name Nothing → Around → StatementState
  -- the integer of a `declare`
  due_int : Name Nothing → Around → StatementState
  -- behind `static`, and behind `return`, `break` or `continue`
  past_static_word : Around → StatementState
  past_jump : Jump → Around → StatementState
  -- behind the head of an `if`, and of a loop
  past_if : Form → Around → StatementState
  past_loop : Loop → Around → StatementState
  -- behind the `as` of a `foreach`, and behind its `=>`
  past_as : Form → Around → StatementState
  past_key : Form → Target Nothing → Around → StatementState
  -- behind the head of a `switch`; where a label or the end of the cases is due; behind `default`
  past_switch : Form → Around → StatementState
  due_case : Form → SwitchForm → Cases Nothing → Around → StatementState
  past_default : Form → SwitchForm → Cases Nothing → Around → StatementState
  -- behind the block of a `try` or of a `catch`
  past_block : Statements Nothing → Catches Nothing → Around → StatementState

-- ---- a form, completed by its body

abbrev pub looped : Loop → Body Nothing → Statement Nothing
looped (while_loop test) body = while tt test body
looped (for_loop starts tests steps) body = for tt starts tests steps body
looped (foreach_loop walked key value) body = foreach tt walked key value body

-- a list with its end
abbrev pub listed_statement : StatementList → Statements Nothing → Statement Nothing
listed_statement of_block ss = block tt ss
listed_statement (of_if test) ss = if_lists tt test ss no_elseif_list
listed_statement (of_elseif test body parts last) ss = if_lists tt test body (and_elseif_list parts last ss)
listed_statement (of_else test body parts) ss = if_else_lists tt test body parts ss
listed_statement (of_loop loop) ss = looped loop (list_behind_colon ss)
listed_statement (of_case e form cases label end) ss = switch tt e form (and_case cases tt label end ss)
listed_statement of_try ss = try_finally tt ss no_catch no_statement
listed_statement (of_catch body catches classes variable) ss = try_catch tt body (and_catch catches classes variable ss)
listed_statement (of_finally body catches) ss = try_finally tt body catches ss

-- with the statement in it, and ended as shortly as possible
abbrev pub completed_statement : OpenStatement → Statement Nothing → Statement Nothing
completed_statement (list_open list ss) a = listed_statement list (and_statement ss a)
completed_statement (if_open test) a = if_only tt test a no_elseif
completed_statement (elseif_open test body parts last) a = if_only tt test body (and_elseif parts last a)
completed_statement (else_open test body parts) a = if_else tt test body parts a
completed_statement (loop_open loop) a = looped loop (single a)
completed_statement do_open a = do_while tt a any
