-- What the functions of the parser answer.
use Rattle.std.specs.Prelude.{◌≡◌, ◌≢◌, ◌≤◌, ◌<◌, ◌^◌, ℕ, suc, ◌+◌, Bool, true, false, Option, Some, None, Result, Ok, Err, List, [], ◌∷◌, length}
use Rattle.php_token.specs.Token.{Token, token_at}
use Rattle.php_token.specs.declared.kind.Punct.TheVariants as mark
use Rattle.php_ast.specs.Symbol.{Symbol, punct, variable}
use Rattle.php_ast.specs.declared.spot.Name as rust_name
use Rattle.php_ast.specs.declared.declaration.BaseType.{BaseType}
use Rattle.php_ast.specs.declared.declaration.Type as rust_type
use Rattle.php_ast.specs.declared.declaration.Param as rust_param
use Rattle.php_ast.specs.expression.Proper.{ends}
use Rattle.php_ast.specs.expression.View.{view}
use Rattle.php_ast.specs.expression.Placed.{size, noted, notes_of}
use Rattle.php_ast.specs.statement.Tree.{empty}
use Rattle.php_ast.specs.statement.Spelling.{symbol_if, spell_dollar}
use Rattle.php_ast.specs.statement.Proper.{is_empty}
use Rattle.php_ast.specs.statement.Placed.{size_if, size_separated, size_separator, size_value, noted_separated, noted_name, noted_optional}
use Rattle.php_ast.specs.statement.View.{sequence, optional, name_view}
use Rattle.php_ast.specs.declaration.Tree.{Base, Type_of, Param, Signature}
use Rattle.php_ast.specs.declaration.Spelling.{spell_base, spell_type, spell_declared}
use Rattle.php_ast.specs.declaration.Placed.{noted_base, noted_type, noted_declared, noted_param, noted_signature, size_type, size_declared, size_marks, size_param, size_result, size_signature}
use Rattle.php_ast.specs.declaration.View.{base_view, type_view, param_view, signature_view}
use Rattle.php_grammar.specs.expression.Role.{is_right_paren}
use Rattle.php_grammar.specs.expression.Machine.{Nothing, Form, expects, holds}
use Rattle.php_grammar.specs.statement.Role.{is_assign}
use Rattle.php_grammar.specs.statement.Machine.{named_here}
use Rattle.php_grammar.specs.declaration.SignatureMachine.{ParamRole, at_base, at_variable, at_question, param_role, Params, Declared, SignatureState, due_signature, due_param, past_param, in_default, past_params, past_signature, param_of, with_default, signature_of}
use Rattle.php_grammar.specs.declaration.Laws.{ResultEnds, SignatureEnds}
use Rattle.php_grammar_laws.specs.Walks.{whole, walk_signature}
use Rattle.php_reader.specs.declared.reader.Reader.{Reader}
use Rattle.php_reader.specs.declared.fail.Stop.{Stop}
use Rattle.php_reader.specs.declared.fail.Stop.TheVariants.{Syntax, TooDeep, NoMemory}
use Rattle.php_reader.specs.Seen.{Shows, rest, test}
use Rattle.php_parse_operands.specs.declared.read.Read.{Read}
use Rattle.php_parse_operands.specs.Walk.{Rests}
use Rattle.php_reader.specs.declared.found.Entry.{Entry}
use Rattle.php_reader.specs.declared.found.Marked.{Marked}
use Rattle.php_parse_signature.specs.declared.read.Typed.{Typed}
use Rattle.php_parse_signature.specs.declared.read.Front.{Front}
use Rattle.php_parse_signature.specs.declared.read.Valued.{Valued}
use Rattle.php_parse_signature.specs.declared.read.ReadParam.{ReadParam}
use Rattle.php_parse_signature.specs.declared.read.ReadParams.{ReadParams}
use Rattle.php_parse_signature.specs.declared.read.ReadSignature.{ReadSignature}
use Rattle.php_parse_signature.specs.declared.types.TypeKind.{TypeKind}
use Rattle.php_parse_signature.specs.declared.types.TypeKind.TheVariants as type_kind
use Rattle.php_flat.specs.Declarations.{are_flat_params}
use Rattle.php_parse_signature.specs.PartView.{base_of, head_role}
use Rattle.php_parse_signature.specs.Walk.{Leads, Halts}

-- ---- failures

-- The reading stops in front of the token at a place, not before those that were read already.
pub record StopsAt (too_deep : Bool) (room : ℕ) (from : SignatureState) (w : List Symbol) (tokens : List Token) (at k : ℕ) : Type 0 where
  pub halts : Halts too_deep room from w (rest tokens k)
  pub ahead : at ≤ k
  pub within : k ≤ length tokens

-- from a state before the symbols w
abbrev pub Fails : ℕ → SignatureState → List Symbol → List Token → ℕ → Stop → Type 0
Fails room from w tokens at (Syntax k) = StopsAt false room from w tokens at k
Fails room from w tokens at (TooDeep k) = StopsAt true room from w tokens at k
Fails room from w tokens at NoMemory = Unit {0}

-- ---- types

-- what begins no type, and what is none without a `?`
abbrev pub NoType : ParamRole → Type 0
NoType at_question = ⊥
NoType (at_base base) = ⊥
NoType _ = Unit {0}

abbrev pub NoBase : ParamRole → Type 0
NoBase (at_base base) = ⊥
NoBase _ = Unit {0}

abbrev pub SeesType : List Token → ℕ → Option TypeKind → Type 0
SeesType tokens at None = NoType (head_role (rest tokens at))
SeesType tokens at (Some type_kind.Nullable) = Shows param_role tokens at at_question
SeesType tokens at (Some (type_kind.Plain kind)) = Shows param_role tokens at (at_base (base_of kind (token_at tokens at).text))

pub record FoundBase (tokens : List Token) (at : ℕ) (b : BaseType) : Type 0 where
  pub form : Base Nothing
  pub shown : base_view b ≡ noted_base (notes_of tokens) at form
  pub spelled : rest tokens at ≡ spell_base form (rest tokens (at + 1))
  pub within : at < length tokens
  pub fits : at + 1 < 2 ^ 64

-- no type stands where one is due
abbrev pub LacksBase : List Token → ℕ → Stop → Type 0
LacksBase tokens at (Syntax k) = (k ≡ at) × NoBase (head_role (rest tokens at))
LacksBase tokens at (TooDeep k) = ⊥
LacksBase tokens at NoMemory = Unit {0}

abbrev pub AnswersBase : List Token → ℕ → Result BaseType Stop → Type 0
AnswersBase tokens at (Ok b) = FoundBase tokens at b
AnswersBase tokens at (Err e) = LacksBase tokens at e

pub record FoundType (tokens : List Token) (at : ℕ) (r : Entry rust_type.Type) : Type 0 where
  pub form : Type_of Nothing
  pub shown : type_view r.item ≡ noted_type (notes_of tokens) at form
  pub sized : at + size_type form ≡ r.next
  pub spelled : rest tokens at ≡ spell_type form (rest tokens r.next)
  pub within : r.next ≤ length tokens

-- no type stands behind a `?`
pub record LacksType (tokens : List Token) (at k : ℕ) : Type 0 where
  pub question : rest tokens at ≡ punct mark.Question ∷ rest tokens k
  pub no_base : NoBase (head_role (rest tokens k))
  pub ahead : at ≤ k
  pub within : k ≤ length tokens

abbrev pub FailsType : List Token → ℕ → Stop → Type 0
FailsType tokens at (Syntax k) = LacksType tokens at k
FailsType tokens at (TooDeep k) = ⊥
FailsType tokens at NoMemory = Unit {0}

abbrev pub AnswersType : List Token → ℕ → Result (Entry rust_type.Type) Stop → Type 0
AnswersType tokens at (Ok r) = FoundType tokens at r
AnswersType tokens at (Err e) = FailsType tokens at e

-- ---- a parameter before its value

pub record FoundDeclared (tokens : List Token) (at : ℕ) (r : Typed) : Type 0 where
  pub form : Declared
  pub shown : optional type_view r.declared ≡ noted_declared (notes_of tokens) at form
  pub sized : at + size_declared form ≡ r.next
  pub spelled : rest tokens at ≡ spell_declared form (rest tokens r.next)
  pub untyped : form ≡ None → NoType (head_role (rest tokens r.next))
  pub within : r.next ≤ length tokens

abbrev pub AnswersDeclared : List Token → ℕ → Result Typed Stop → Type 0
AnswersDeclared tokens at (Ok r) = FoundDeclared tokens at r
AnswersDeclared tokens at (Err e) = FailsType tokens at e

-- whether a symbol of this role stands there
pub record SeesMark (role : ParamRole) (t : Symbol) (tokens : List Token) (at : ℕ) (r : Marked) : Type 0 where
  pub spelled : rest tokens at ≡ symbol_if r.stands t (rest tokens r.next)
  pub sized : at + size_if r.stands ≡ r.next
  pub absent : r.stands ≡ false → head_role (rest tokens r.next) ≢ role
  pub within : r.next ≤ length tokens

abbrev pub NoVariable : ParamRole → Type 0
NoVariable (at_variable text) = ⊥
NoVariable _ = Unit {0}

pub record FoundName (tokens : List Token) (at : ℕ) (n : rust_name.Name) : Type 0 where
  pub text : List ℕ
  pub shown : name_view n ≡ noted_name (notes_of tokens) at (named_here text)
  pub spelled : rest tokens at ≡ variable text ∷ rest tokens (at + 1)
  pub within : at < length tokens
  pub fits : at + 1 < 2 ^ 64

abbrev pub LacksName : List Token → ℕ → Stop → Type 0
LacksName tokens at (Syntax k) = (k ≡ at) × NoVariable (head_role (rest tokens at))
LacksName tokens at (TooDeep k) = ⊥
LacksName tokens at NoMemory = Unit {0}

abbrev pub AnswersName : List Token → ℕ → Result rust_name.Name Stop → Type 0
AnswersName tokens at (Ok n) = FoundName tokens at n
AnswersName tokens at (Err e) = LacksName tokens at e

-- the symbols of a parameter before its value
abbrev pub spell_front : Param Nothing → List Symbol → List Symbol
spell_front p w =
    spell_declared p.declared (symbol_if p.is_reference (punct mark.Ampersand) (symbol_if p.is_variadic (punct mark.Ellipsis) (spell_dollar p.name w)))

abbrev pub front_of : Declared → Front → List ℕ → Param Nothing
front_of declared r text = param_of declared r.is_reference r.is_variadic (named_here text)

pub record FoundFront (tokens : List Token) (at : ℕ) (r : Front) : Type 0 where
  pub declared : Declared
  pub text : List ℕ
  pub typed : optional type_view r.declared ≡ noted_declared (notes_of tokens) at declared
  pub named : name_view r.name ≡ noted_name (notes_of tokens) (at + size_marks (front_of declared r text)) (named_here text)
  pub sized : at + size_marks (front_of declared r text) + 1 ≡ r.next
  pub spelled : rest tokens at ≡ spell_front (front_of declared r text) (rest tokens r.next)
  pub within : r.next ≤ length tokens

-- Where a parameter may be absent, no `)` stands here.
abbrev pub MayBegin : Params → List Symbol → Type 0
MayBegin params w = is_empty params ≡ true → test is_right_paren w ≡ false

abbrev pub FailsParam : ℕ → List Token → ℕ → Stop → Type 0
FailsParam room tokens at e = (params : Params) → MayBegin params (rest tokens at) → Fails room (due_param params) (rest tokens at) tokens at e

abbrev pub AnswersFront : List Token → ℕ → Result Front Stop → Type 0
AnswersFront tokens at (Ok r) = FoundFront tokens at r
AnswersFront tokens at (Err e) = (room : ℕ) → 2 ≤ room → FailsParam room tokens at e

-- ---- parameters

-- the value of a parameter, behind its `=`
pub record FoundDefault (room : ℕ) (tokens : List Token) (at : ℕ) (r : Read) : Type 0 where
  pub form : Form
  pub shown : view r.expr ≡ noted (notes_of tokens) at form
  pub sized : at + size form ≡ r.next
  pub reads : (params : Params) (p : Param Nothing) → Leads room (in_default params p (expects [])) (rest tokens at) (in_default params p (holds form [])) (rest tokens r.next)
  pub rests : Rests 1 (ends form) (rest tokens r.next)
  pub ahead : at ≤ r.next
  pub within : r.next ≤ length tokens

abbrev pub AnswersDefault : Reader → ℕ → Result Read Stop → Type 0
AnswersDefault reader at (Ok r) = FoundDefault reader.room reader.tokens.now at r
AnswersDefault reader at (Err e) = (params : Params) (p : Param Nothing) → Fails reader.room (in_default params p (expects [])) (rest reader.tokens.now at) reader.tokens.now at e

-- a parameter with its value, and the state behind it
abbrev pub valued : Param Nothing → Option Form → Param Nothing
valued p None = p
valued p (Some e) = with_default p e

abbrev pub behind : Params → Param Nothing → Option Form → SignatureState
behind params p None = past_param params p
behind params p (Some e) = in_default params p (holds e [])

-- The value goes no further.
abbrev pub ValueRests : Option Form → List Symbol → Type 0
ValueRests None w = test is_assign w ≡ false
ValueRests (Some e) w = Rests 1 (ends e) w

pub record FoundValue (room : ℕ) (tokens : List Token) (at : ℕ) (r : Valued) : Type 0 where
  pub value : Option Form
  pub shown : optional view r.default ≡ noted_optional (notes_of tokens) (at + 1) value
  pub sized : at + size_value value ≡ r.next
  pub reads : (params : Params) (p : Param Nothing) → Leads room (past_param params p) (rest tokens at) (behind params p value) (rest tokens r.next)
  pub rests : ValueRests value (rest tokens r.next)
  pub within : r.next ≤ length tokens

abbrev pub AnswersValue : Reader → ℕ → Result Valued Stop → Type 0
AnswersValue reader at (Ok r) = FoundValue reader.room reader.tokens.now at r
AnswersValue reader at (Err e) = (params : Params) (p : Param Nothing) → Fails reader.room (past_param params p) (rest reader.tokens.now at) reader.tokens.now at e

pub record FoundParam (room : ℕ) (tokens : List Token) (at : ℕ) (r : ReadParam) : Type 0 where
  pub front : Param Nothing
  pub value : Option Form
  pub shown : param_view r.param ≡ noted_param (notes_of tokens) at (valued front value)
  pub sized : at + size_param (valued front value) ≡ r.next
  pub reads : (params : Params) → Leads room (due_param params) (rest tokens at) (behind params front value) (rest tokens r.next)
  pub rests : ValueRests value (rest tokens r.next)
  pub ahead : at < r.next
  pub within : r.next ≤ length tokens

abbrev pub AnswersParam : Reader → ℕ → Result ReadParam Stop → Type 0
AnswersParam reader at (Ok r) = FoundParam reader.room reader.tokens.now at r
AnswersParam reader at (Err e) = FailsParam reader.room reader.tokens.now at e

-- all parameters and the `)` behind them
pub record FoundParams (room : ℕ) (tokens : List Token) (at : ℕ) (r : ReadParams) : Type 0 where
  pub params : Params
  pub shown : sequence param_view r.params ≡ noted_separated size_param (noted_param (notes_of tokens)) at params
  pub sized : at + size_separated size_param params + 1 ≡ r.next
  pub reads : Leads room (due_param empty) (rest tokens at) (past_params params) (rest tokens r.next)
  pub within : r.next ≤ length tokens

abbrev pub AnswersParams : Reader → ℕ → Result ReadParams Stop → Type 0
AnswersParams reader at (Ok r) = FoundParams reader.room reader.tokens.now at r
AnswersParams reader at (Err e) = Fails reader.room (due_param empty) (rest reader.tokens.now at) reader.tokens.now at e

-- what a loop has read so far: parameters behind each of which a comma was read
pub record ParamsSoFar (room : ℕ) (tokens : List Token) (at : ℕ) (xs : List rust_param.Param) (next : ℕ) : Type 0 where
  pub params : Params
  pub shown : sequence param_view xs ≡ noted_separated size_param (noted_param (notes_of tokens)) at params
  pub sized : at + size_separated size_param params + size_separator params ≡ next
  pub flat : are_flat_params xs ≡ true
  pub reads : Leads room (due_param empty) (rest tokens at) (due_param params) (rest tokens next)
  pub no_end : MayBegin params (rest tokens next)
  pub within : next ≤ length tokens

-- ---- the result, and all of it

-- the state behind a signature
abbrev pub signature_over : Params → Declared → SignatureState
signature_over params None = past_params params
signature_over params (Some t) = past_signature (signature_of params (Some t))

pub record FoundResult (room : ℕ) (tokens : List Token) (at : ℕ) (r : Typed) : Type 0 where
  pub result : Declared
  pub shown : optional type_view r.declared ≡ noted_declared (notes_of tokens) (at + 1) result
  pub sized : at + size_result result ≡ r.next
  pub reads : (params : Params) → Leads room (past_params params) (rest tokens at) (signature_over params result) (rest tokens r.next)
  pub over : ResultEnds result (rest tokens r.next)
  pub within : r.next ≤ length tokens

abbrev pub AnswersResult : Reader → ℕ → Result Typed Stop → Type 0
AnswersResult reader at (Ok r) = FoundResult reader.room reader.tokens.now at r
AnswersResult reader at (Err e) = (params : Params) → Fails reader.room (past_params params) (rest reader.tokens.now at) reader.tokens.now at e

-- A signature was read, up to the state behind it; the symbol that follows doesn't go on with it. So that is what the machine
-- comes to.
pub record FoundSignature (room : ℕ) (tokens : List Token) (at : ℕ) (r : ReadSignature) : Type 0 where
  pub form : Signature Nothing
  pub shown : signature_view r.signature ≡ noted_signature (notes_of tokens) at form
  pub sized : at + size_signature form ≡ r.next
  pub reads : Leads room due_signature (rest tokens at) (signature_over form.params form.result) (rest tokens r.next)
  pub over : SignatureEnds form (rest tokens r.next)
  pub comes : (n : ℕ) → room ≡ suc n → walk_signature n due_signature (rest tokens at) ≡ whole form (rest tokens r.next)
  pub ahead : at < r.next
  pub within : r.next ≤ length tokens

abbrev pub AnswersSignature : Reader → ℕ → Result ReadSignature Stop → Type 0
AnswersSignature reader at (Ok r) = FoundSignature reader.room reader.tokens.now at r
AnswersSignature reader at (Err e) = Fails reader.room due_signature (rest reader.tokens.now at) reader.tokens.now at e

-- where no level is left for what stands in the parentheses
abbrev pub AnswersNone : List Token → ℕ → Stop → Type 0
AnswersNone tokens at e = Fails 1 (due_param empty) (rest tokens at) tokens at e
