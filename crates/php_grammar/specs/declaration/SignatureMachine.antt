-- A machine that reads a signature: the parameters of a function and the type of its result.
use Rattle.std.specs.Prelude.{ℕ, Bool, true, false, Option, Some, None, List, [], ◌∷◌}
use Rattle.php_token.specs.declared.kind.Keyword.{Keyword}
use Rattle.php_token.specs.declared.kind.Keyword.TheVariants as word
use Rattle.php_token.specs.declared.kind.Punct.{Punct}
use Rattle.php_token.specs.declared.kind.Punct.TheVariants as mark
use Rattle.php_ast.specs.Symbol as symbol
use Rattle.php_ast.specs.Symbol.{Symbol, keyword, punct}
use Rattle.php_grammar.specs.declared.closer.Closer.TheVariants as ender
use Rattle.php_grammar.specs.expression.Role.{is_paren, is_colon, is_right_paren}
use Rattle.php_grammar.specs.expression.Machine.{Nothing, Form, State, expects, any_symbol, pick}
use Rattle.php_grammar.specs.Run.{ReadingOf, reading, if_whole, run_of, through_expression, around_expression}
use Rattle.php_ast.specs.statement.Tree.{Sequence, empty, then_also, Name}
use Rattle.php_ast.specs.statement.Proper.{is_empty}
use Rattle.php_ast.specs.declaration.Tree.{Base, of_name, of_array, of_callable, Type_of, Param, Signature}
use Rattle.php_grammar.specs.statement.Role.{Ending, closer, ending, is_assign}
use Rattle.php_grammar.specs.statement.Machine.{named_here}
use Rattle.php_grammar.specs.statement.Reading.{any_name}

-- ---- the roles of a symbol in a signature

pub data ParamRole : Type 0 where
  -- a type without its `?`
  at_base : Base Nothing → ParamRole
  at_variable : List ℕ → ParamRole
  at_question : ParamRole
  at_reference : ParamRole
  at_variadic : ParamRole
  at_other : ParamRole

abbrev pub param_keyword : Keyword → ParamRole
param_keyword word.Array = at_base of_array
param_keyword word.Callable = at_base of_callable
param_keyword _ = at_other

abbrev pub param_punct : Punct → ParamRole
param_punct mark.Question = at_question
param_punct mark.Ampersand = at_reference
param_punct mark.Ellipsis = at_variadic
param_punct _ = at_other

abbrev pub param_role : Symbol → ParamRole
param_role (symbol.name text) = at_base (of_name (named_here text))
param_role (symbol.variable text) = at_variable text
param_role (keyword k) = param_keyword k
param_role (punct p) = param_punct p
param_role _ = at_other

-- ---- states

abbrev pub Params : Type 0
Params = Sequence (Param Nothing)

abbrev pub Declared : Type 0
Declared = Option (Type_of Nothing)

-- what is due, behind these parameters
pub data SignatureState : Type 0 where
  due_signature : SignatureState
  due_param : Params → SignatureState
  -- behind the `?` of a parameter's type, its type, its `&`, and its `...`
  past_question : Params → SignatureState
  past_type : Params → Declared → SignatureState
  past_reference : Params → Declared → SignatureState
  past_variadic : Params → Declared → Bool → SignatureState
  -- behind the name of a parameter, and in its value
  past_param : Params → Param Nothing → SignatureState
  in_default : Params → Param Nothing → State → SignatureState
  -- behind the `)`, the `:`, and the `?` of the result's type
  past_params : Params → SignatureState
  due_result : Params → SignatureState
  past_result_question : Params → SignatureState
  past_signature : Signature Nothing → SignatureState

abbrev pub type_of : Bool → Base Nothing → Type_of Nothing
type_of is_nullable base = record { is_nullable = is_nullable; base = base }

abbrev pub param_of : Declared → Bool → Bool → Name Nothing → Param Nothing
param_of declared is_reference is_variadic n =
    record { declared = declared; is_reference = is_reference; is_variadic = is_variadic; name = n; default = None }

abbrev pub with_default : Param Nothing → Form → Param Nothing
with_default p e = record {
  declared = p.declared;
  is_reference = p.is_reference;
  is_variadic = p.is_variadic;
  name = p.name;
  default = Some e;
}

abbrev pub signature_of : Params → Declared → Signature Nothing
signature_of params result = record { params = params; result = result }

-- ---- steps

-- behind the type of a parameter, or where it has none
abbrev pub marked_step : Params → Declared → ParamRole → Option SignatureState
marked_step params declared at_reference = Some (past_reference params declared)
marked_step params declared at_variadic = Some (past_variadic params declared false)
marked_step params declared (at_variable text) = Some (past_param params (param_of declared false false (named_here text)))
marked_step params declared _ = None

abbrev pub reference_step : Params → Declared → ParamRole → Option SignatureState
reference_step params declared at_variadic = Some (past_variadic params declared true)
reference_step params declared (at_variable text) = Some (past_param params (param_of declared true false (named_here text)))
reference_step params declared _ = None

abbrev pub variadic_step : Params → Declared → Bool → ParamRole → Option SignatureState
variadic_step params declared is_reference (at_variable text) =
    Some (past_param params (param_of declared is_reference true (named_here text)))
variadic_step params declared is_reference _ = None

abbrev pub param_step : Params → ParamRole → Option SignatureState
param_step params at_question = Some (past_question params)
param_step params (at_base base) = Some (past_type params (Some (type_of false base)))
param_step params x = marked_step params None x

abbrev pub question_step : Params → ParamRole → Option SignatureState
question_step params (at_base base) = Some (past_type params (Some (type_of true base)))
question_step params _ = None

-- A parameter is due behind a comma; behind the parenthesis there may be none.
abbrev pub due_param_step : Params → Symbol → Option SignatureState
due_param_step params t = pick (is_right_paren t) (pick (is_empty params) (Some (past_params params)) None) (param_step params (param_role t))

abbrev pub param_end : Params → Ending → Option SignatureState
param_end params (closer ender.Comma) = Some (due_param params)
param_end params (closer ender.Paren) = Some (past_params params)
param_end params _ = None

abbrev pub name_step : Params → Param Nothing → Symbol → Option SignatureState
name_step params p t = pick (is_assign t) (Some (in_default params p (expects []))) (param_end (then_also params p) (ending t))

abbrev pub result_step : Params → ParamRole → Option SignatureState
result_step params at_question = Some (past_result_question params)
result_step params (at_base base) = Some (past_signature (signature_of params (Some (type_of false base))))
result_step params _ = None

abbrev pub nullable_result_step : Params → ParamRole → Option SignatureState
nullable_result_step params (at_base base) = Some (past_signature (signature_of params (Some (type_of true base))))
nullable_result_step params _ = None

abbrev pub advance_signature : SignatureState → Symbol → Option SignatureState
advance_signature due_signature t = pick (is_paren t) (Some (due_param empty)) None
advance_signature (due_param params) t = due_param_step params t
advance_signature (past_question params) t = question_step params (param_role t)
advance_signature (past_type params declared) t = marked_step params declared (param_role t)
advance_signature (past_reference params declared) t = reference_step params declared (param_role t)
advance_signature (past_variadic params declared is_reference) t = variadic_step params declared is_reference (param_role t)
advance_signature (past_param params p) t = name_step params p t
advance_signature (in_default params p m) t =
    through_expression m t (λ n. in_default params p n) (λ e. param_end (then_also params (with_default p e)) (ending t))
advance_signature (past_params params) t = pick (is_colon t) (Some (due_result params)) None
advance_signature (due_result params) t = result_step params (param_role t)
advance_signature (past_result_question params) t = nullable_result_step params (param_role t)
advance_signature (past_signature s) t = None

-- ---- where it halts

abbrev pub closing : List Symbol
closing = punct mark.RightParen ∷ []

-- with one parameter more
abbrev pub with_param : Params → Param Nothing → Signature Nothing
with_param params p = signature_of (then_also params p) None

abbrev pub due_param_rest : Params → List Symbol → ReadingOf (Signature Nothing)
due_param_rest empty w = reading (signature_of empty None) closing w
due_param_rest (then_also params p) w =
    reading (with_param (then_also params p) (param_of None false false any_name)) (any_symbol ∷ closing) w

abbrev pub any_type : Bool → Type_of Nothing
any_type is_nullable = type_of is_nullable (of_name any_name)

abbrev pub any_word : Symbol
any_word = symbol.name []

abbrev pub halt_signature : SignatureState → List Symbol → ReadingOf (Signature Nothing)
halt_signature due_signature w = reading (signature_of empty None) (punct mark.LeftParen ∷ closing) w
halt_signature (due_param params) w = due_param_rest params w
halt_signature (past_question params) w =
    reading (with_param params (param_of (Some (any_type true)) false false any_name)) (any_word ∷ any_symbol ∷ closing) w
halt_signature (past_type params declared) w = reading (with_param params (param_of declared false false any_name)) (any_symbol ∷ closing) w
halt_signature (past_reference params declared) w =
    reading (with_param params (param_of declared true false any_name)) (any_symbol ∷ closing) w
halt_signature (past_variadic params declared is_reference) w =
    reading (with_param params (param_of declared is_reference true any_name)) (any_symbol ∷ closing) w
halt_signature (past_param params p) w = reading (with_param params p) closing w
halt_signature (in_default params p m) w = around_expression (λ e. with_param params (with_default p e)) m closing w
halt_signature (past_params params) w = reading (signature_of params None) [] w
halt_signature (due_result params) w = reading (signature_of params (Some (any_type false))) (any_word ∷ []) w
halt_signature (past_result_question params) w = reading (signature_of params (Some (any_type true))) (any_word ∷ []) w
halt_signature (past_signature s) w = reading s [] w

-- the reading of a signature
abbrev pub read_signature : List Symbol → ReadingOf (Signature Nothing)
read_signature = run_of advance_signature halt_signature due_signature

-- the signature that has been read, where nothing is missing
abbrev pub whole_signature : SignatureState → Option (Signature Nothing)
whole_signature m = if_whole (halt_signature m [])
