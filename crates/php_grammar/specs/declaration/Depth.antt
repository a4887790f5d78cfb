-- How deep a symbol of a signature, a function, a member and a script is nested, by what was read before it.
use Rattle.std.specs.Prelude.{ℕ, List}
use Rattle.php_ast.specs.Symbol.{Symbol}
use Rattle.php_ast.specs.statement.Tree.{empty}
use Rattle.php_grammar.specs.expression.Depth.{depth_at}
use Rattle.php_grammar.specs.expression.Machine.{advance}
use Rattle.php_grammar.specs.statement.Machine.{advance_statement}
use Rattle.php_grammar.specs.TooDeep.{depth_inside, depths_taken}
use Rattle.php_grammar.specs.statement.Depth.{statement_depth_at}
use Rattle.php_grammar.specs.declaration.SignatureMachine.{SignatureState, due_signature, in_default, past_params, due_result, past_result_question, past_signature, advance_signature}
use Rattle.php_grammar.specs.declaration.FunctionMachine.{function_form, advance_function, FunctionState, in_signature, due_in_body, in_statement}
use Rattle.php_grammar.specs.declaration.MemberMachine.{NamesIn, of_use, of_instead, MemberState, past_modifiers, due_trait, past_trait, due_constant, past_constant, in_constant, due_property, past_property, in_property, in_method, past_member, advance_member}
use Rattle.php_grammar.specs.declaration.ScriptMachine.{ScriptState, due_item, in_statement as in_item, in_function, due_member, in_member, advance_script}

-- the parentheses of the parameters
abbrev pub signature_depth_at : SignatureState → Symbol → ℕ
signature_depth_at due_signature t = 0
signature_depth_at (in_default params p m) t = depth_inside (advance m t) (depth_at m t) 1
signature_depth_at (past_params params) t = 0
signature_depth_at (due_result params) t = 0
signature_depth_at (past_result_question params) t = 0
signature_depth_at (past_signature s) t = 0
signature_depth_at _ t = 1

-- the braces of the block
abbrev pub function_depth_at : {N : Type 0} → FunctionState N → Symbol → ℕ
function_depth_at (in_signature is_reference n m) t = depth_inside (advance_signature m t) (signature_depth_at m t) 0
function_depth_at (due_in_body is_reference n s ss) t = 1
function_depth_at (in_statement is_reference n s ss m) t = depth_inside (advance_statement m t) (statement_depth_at m t) 1
function_depth_at _ t = 0

abbrev pub names_in_depth : NamesIn → ℕ
names_in_depth of_use = 0
names_in_depth (of_instead r origin w) = 1

-- the braces of the rules
abbrev pub member_depth_at : MemberState → Symbol → ℕ
member_depth_at (past_modifiers modifiers) t = 0
member_depth_at (due_trait list names) t = names_in_depth list
member_depth_at (past_trait list names) t = names_in_depth list
member_depth_at (due_constant modifiers items) t = 0
member_depth_at (past_constant modifiers items n) t = 0
member_depth_at (in_constant modifiers items n m) t = depth_inside (advance m t) (depth_at m t) 0
member_depth_at (due_property modifiers items) t = 0
member_depth_at (past_property modifiers items n) t = 0
member_depth_at (in_property modifiers items n m) t = depth_inside (advance m t) (depth_at m t) 0
member_depth_at (in_method modifiers m) t = function_depth_at m t
member_depth_at (past_member m) t = 0
member_depth_at _ t = 1

-- the braces of the members
abbrev pub script_depth_at : ScriptState → Symbol → ℕ
script_depth_at (in_item items m) t = depth_inside (advance_statement m t) (statement_depth_at m t) 0
script_depth_at (in_function items m) t = depth_inside (advance_function function_form m t) (function_depth_at m t) 0
script_depth_at (due_member items heading members) t = 1
script_depth_at (in_member items heading members m) t = depth_inside (advance_member m t) (member_depth_at m t) 1
script_depth_at _ t = 0

-- the nesting of each symbol that a reading takes
abbrev pub signature_depths_read : List Symbol → List ℕ
signature_depths_read = depths_taken advance_signature signature_depth_at due_signature

abbrev pub member_depths_read : List Symbol → List ℕ
member_depths_read = depths_taken advance_member member_depth_at (past_modifiers empty)

abbrev pub script_depths_read : List Symbol → List ℕ
script_depths_read = depths_taken advance_script script_depth_at (due_item empty)
