-- A machine that reads a function or a method behind the word `function`. A function has a name and a block; the name of
-- a method may be a keyword, and `;` may stand in place of its block.
use Rattle.std.specs.Prelude.{Bool, true, false, Option, Some, None, List, [], ◌∷◌}
use Rattle.php_token.specs.declared.kind.Punct.TheVariants as mark
use Rattle.php_ast.specs.Symbol.{Symbol, punct}
use Rattle.php_ast.specs.expression.Tree as tree
use Rattle.php_grammar.specs.expression.Role.{is_ampersand, is_left_brace, word_of}
use Rattle.php_grammar.specs.expression.Machine.{Nothing, pick}
use Rattle.php_grammar.specs.Run.{either, if_some, ReadingOf, reading, if_whole, inside}
use Rattle.php_ast.specs.statement.Tree.{Name, Statements, no_statement, and_statement}
use Rattle.php_ast.specs.declaration.Tree.{Signature}
use Rattle.php_grammar.specs.statement.Role.{is_semicolon, is_right_brace, name_text}
use Rattle.php_grammar.specs.statement.Forms.{StatementState, due_statement}
use Rattle.php_grammar.specs.statement.Machine.{advance_statement, named_here}
use Rattle.php_grammar.specs.statement.Reading.{halt_statement, whole_statement, braces, any_name, end_symbol}
use Rattle.php_grammar.specs.declaration.SignatureMachine.{SignatureState, due_signature, advance_signature, halt_signature, whole_signature, any_word}

-- how a function is named, and whether `;` may stand in place of its block
pub record FunctionForm (N : Type 0) : Type 0 where
  pub name_of : Symbol → Option N
  pub any_name_of : N
  pub may_lack : Bool

abbrev pub name_here : Symbol → Option (Name Nothing)
name_here t = if_some (name_text t) (λ text. Some (named_here text))

abbrev pub function_form : FunctionForm (Name Nothing)
function_form = record { name_of = name_here; any_name_of = any_name; may_lack = false }

abbrev pub method_form : FunctionForm (tree.Member Nothing)
method_form = record { name_of = word_of; any_name_of = tree.named tt []; may_lack = true }

-- what stands behind `function`
pub record Routine (N : Type 0) : Type 0 where
  pub is_reference : Bool
  pub name : N
  pub signature : Signature Nothing
  -- none is `;`
  pub body : Option (Statements Nothing)

abbrev pub routine : {N : Type 0} → Bool → N → Signature Nothing → Option (Statements Nothing) → Routine N
routine is_reference n s body = record { is_reference = is_reference; name = n; signature = s; body = body }

-- what is due
pub data FunctionState (N : Type 0) : Type 0 where
  -- behind `function`, and behind its `&`
  past_function : FunctionState N
  past_function_reference : FunctionState N
  in_signature : Bool → N → SignatureState → FunctionState N
  -- a statement of the block, or its end
  due_in_body : Bool → N → Signature Nothing → Statements Nothing → FunctionState N
  in_statement : Bool → N → Signature Nothing → Statements Nothing → StatementState → FunctionState N
  past_routine : Routine N → FunctionState N

-- ---- steps

abbrev pub named_step : {N : Type 0} → FunctionForm N → Bool → Symbol → Option (FunctionState N)
named_step form is_reference t = if_some (form.name_of t) (λ n. Some (in_signature is_reference n due_signature))

-- behind a signature
abbrev pub body_step : {N : Type 0} → FunctionForm N → Bool → N → Signature Nothing → Symbol → Option (FunctionState N)
body_step form is_reference n s t =
    pick (is_left_brace t) (Some (due_in_body is_reference n s no_statement))
    (pick (is_semicolon t) (pick form.may_lack (Some (past_routine (routine is_reference n s None))) None) None)

abbrev pub statement_step : {N : Type 0} → Bool → N → Signature Nothing → Statements Nothing → StatementState → Symbol → Option (FunctionState N)
statement_step is_reference n s ss m t = if_some (advance_statement m t) (λ next. Some (in_statement is_reference n s ss next))

abbrev pub block_step : {N : Type 0} → Bool → N → Signature Nothing → Statements Nothing → Symbol → Option (FunctionState N)
block_step is_reference n s ss t =
    pick (is_right_brace t) (Some (past_routine (routine is_reference n s (Some ss)))) (statement_step is_reference n s ss (due_statement []) t)

abbrev pub advance_function : {N : Type 0} → FunctionForm N → FunctionState N → Symbol → Option (FunctionState N)
advance_function form past_function t = pick (is_ampersand t) (Some past_function_reference) (named_step form false t)
advance_function form past_function_reference t = named_step form true t
advance_function form (in_signature is_reference n m) t =
    either (if_some (advance_signature m t) (λ next. Some (in_signature is_reference n next)))
    (if_some (whole_signature m) (λ s. body_step form is_reference n s t))
advance_function form (due_in_body is_reference n s ss) t = block_step is_reference n s ss t
advance_function form (in_statement is_reference n s ss m) t =
    either (statement_step is_reference n s ss m t) (if_some (whole_statement m) (λ a. block_step is_reference n s (and_statement ss a) t))
advance_function form (past_routine f) t = None

-- ---- where it halts

-- the shortest body
abbrev pub least_body : Bool → Option (Statements Nothing)
least_body true = None
least_body false = Some no_statement

abbrev pub least_body_rest : Bool → List Symbol
least_body_rest true = end_symbol ∷ []
least_body_rest false = braces []

abbrev pub behind_name : {N : Type 0} → FunctionForm N → Bool → N → ReadingOf (Signature Nothing) → List Symbol → ReadingOf (Routine N)
behind_name form is_reference n r w = inside (λ s. routine is_reference n s (least_body form.may_lack)) r (least_body_rest form.may_lack) w

abbrev pub before_name : {N : Type 0} → ReadingOf (Routine N) → ReadingOf (Routine N)
before_name r = reading r.tree (any_word ∷ r.missing) r.unread

-- where the name is due
abbrev pub unnamed : {N : Type 0} → FunctionForm N → Bool → List Symbol → ReadingOf (Routine N)
unnamed form is_reference w = before_name (behind_name form is_reference form.any_name_of (halt_signature due_signature w) w)

abbrev pub halt_function : {N : Type 0} → FunctionForm N → FunctionState N → List Symbol → ReadingOf (Routine N)
halt_function form past_function w = unnamed form false w
halt_function form past_function_reference w = unnamed form true w
halt_function form (in_signature is_reference n m) w = behind_name form is_reference n (halt_signature m w) w
halt_function form (due_in_body is_reference n s ss) w = reading (routine is_reference n s (Some ss)) (punct mark.RightBrace ∷ []) w
halt_function form (in_statement is_reference n s ss m) w =
    inside (λ a. routine is_reference n s (Some (and_statement ss a))) (halt_statement m w) (punct mark.RightBrace ∷ []) w
halt_function form (past_routine f) w = reading f [] w

abbrev pub whole_function : {N : Type 0} → FunctionForm N → FunctionState N → Option (Routine N)
whole_function form m = if_whole (halt_function form m [])
