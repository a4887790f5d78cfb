-- What the functions of the parser answer.
use Rattle.std.specs.Prelude.{◌≡◌, ◌≤◌, ◌<◌, ℕ, suc, ◌+◌, Bool, true, false, Option, Result, Ok, Err, List, length}
use Rattle.std.specs.List.{list_all}
use Rattle.php_token.specs.Token.{Token}
use Rattle.php_token.specs.declared.kind.Punct.TheVariants as mark
use Rattle.php_ast.specs.declared.declaration.ClassConstant as rust_constant
use Rattle.php_ast.specs.declared.declaration.ClassMember.{ClassMember}
use Rattle.php_ast.specs.declared.declaration.Modifier as rust_modifier
use Rattle.php_ast.specs.declared.statement.VariableItem.{VariableItem}
use Rattle.php_ast.specs.Symbol.{Symbol, punct}
use Rattle.php_ast.specs.expression.View.{word_view}
use Rattle.php_ast.specs.expression.Placed.{noted_member, notes_of}
use Rattle.php_ast.specs.statement.Tree.{Sequence, empty, then_also, Name, Variable, Statements}
use Rattle.php_ast.specs.statement.Spelling.{symbol_if}
use Rattle.php_ast.specs.statement.View.{sequence, optional, name_view, variable_view, statements_view}
use Rattle.php_ast.specs.statement.Placed.{size_if, size_separated, noted_separated, noted_name, size_variable, noted_variable}
use Rattle.php_ast.specs.declaration.Tree.{Signature, Function, ClassConstant, Member, class_constants, properties}
use Rattle.php_ast.specs.declaration.Placed.{size_signature, noted_signature, size_function, noted_function, size_modifier, noted_modifiers, size_class_constant, noted_class_constant, size_method_body, noted_method_body, size_member, noted_class_member, size_joined, noted_joined}
use Rattle.php_ast.specs.declaration.View.{signature_view, function_view, modifier_view, class_constant_view, member_view}
use Rattle.php_flat.specs.Declarations.{is_flat_class_constant, are_flat_members}
use Rattle.php_flat.specs.Statements.{is_flat_variable}
use Rattle.php_grammar.specs.expression.Role.{is_ampersand}
use Rattle.php_grammar.specs.expression.Machine.{Nothing}
use Rattle.php_grammar.specs.statement.Role.{ending}
use Rattle.php_grammar.specs.declaration.FunctionMachine.{FunctionForm, function_form, method_form, Routine, routine, past_function, body_step}
use Rattle.php_grammar.specs.declaration.MemberMachine.{Word, Modifiers, past_modifiers, due_constant, due_property, past_member, constant_end, property_end}
use Rattle.php_grammar.specs.declaration.ScriptMachine.{Items, Heading, due_item, due_member, with_item, block_of}
use Rattle.php_grammar_laws.specs.Walks.{OutcomeOf, whole, short, past, walk_function, walk_member, walk_script}
use Rattle.php_reader.specs.declared.reader.Reader.{Reader}
use Rattle.php_reader.specs.declared.fail.Stop.{Stop}
use Rattle.php_reader.specs.declared.fail.Stop.TheVariants.{Syntax, TooDeep, NoMemory}
use Rattle.php_reader.specs.Seen.{rest, test}
use Rattle.php_parse_simple.specs.NameAnswer.{SpansSoFar}
use Rattle.php_parse_member.specs.declared.lead.Lead.{Lead}
use Rattle.php_parse_member.specs.declared.lead.Lead.TheVariants as lead
use Rattle.php_parse_member.specs.declared.read.ReadConstant.{ReadConstant}
use Rattle.php_parse_member.specs.declared.read.ReadConstants.{ReadConstants}
use Rattle.php_parse_member.specs.declared.read.ReadProperty.{ReadProperty}
use Rattle.php_parse_member.specs.declared.read.ReadProperties.{ReadProperties}
use Rattle.php_reader.specs.declared.found.Marked.{Marked}
use Rattle.php_parse_member.specs.declared.read.FunctionHead.{FunctionHead}
use Rattle.php_parse_member.specs.declared.read.MethodHead.{MethodHead}
use Rattle.php_parse_member.specs.declared.read.ReadBody.{ReadBody}
use Rattle.php_parse_member.specs.declared.read.ReadMethod.{ReadMethod}
use Rattle.php_parse_member.specs.declared.read.ReadFunction.{ReadFunction}
use Rattle.php_parse_member.specs.declared.read.ReadMember.{ReadMember}
use Rattle.php_parse_member.specs.declared.read.ReadMembers.{ReadMembers}
use Rattle.php_parse_member.specs.Walk.{Leads, Halts}

-- ---- failures

-- The reading stops in front of the token at a place, not before those that were read already.
pub record StopsAt {M A : Type 0} (walk : ℕ → M → List Symbol → OutcomeOf A) (too_deep : Bool) (room : ℕ) (from : M) (w : List Symbol) (tokens : List Token) (at k : ℕ) : Type 0 where
  pub halts : Halts walk too_deep room from w (rest tokens k)
  pub ahead : at ≤ k
  pub within : k ≤ length tokens

-- from a state before the symbols w
abbrev pub Fails : {M A : Type 0} → (ℕ → M → List Symbol → OutcomeOf A) → ℕ → M → List Symbol → List Token → ℕ → Stop → Type 0
Fails walk room from w tokens at (Syntax k) = StopsAt walk false room from w tokens at k
Fails walk room from w tokens at (TooDeep k) = StopsAt walk true room from w tokens at k
Fails walk room from w tokens at NoMemory = Unit {0}

-- ---- constants

-- The walk behind the value of a constant, and behind a property.
abbrev pub behind_constant : Modifiers → Sequence (ClassConstant Nothing) → ℕ → List Symbol → OutcomeOf (Member Nothing)
behind_constant ms items n = past (λ t. constant_end ms items (ending t)) (walk_member n) short

abbrev pub behind_property : Modifiers → Sequence (Variable Nothing) → ℕ → List Symbol → OutcomeOf (Member Nothing)
behind_property ms items n = past (λ t. property_end ms items (ending t)) (walk_member n) short

pub record FoundConstant (room : ℕ) (tokens : List Token) (at : ℕ) (r : ReadConstant) : Type 0 where
  pub form : ClassConstant Nothing
  pub shown : class_constant_view r.constant ≡ noted_class_constant (notes_of tokens) at form
  pub sized : at + size_class_constant form ≡ r.next
  pub reads : (ms : Modifiers) (items : Sequence (ClassConstant Nothing)) (n : ℕ) → room ≡ suc n
      → walk_member n (due_constant ms items) (rest tokens at) ≡ behind_constant ms (then_also items form) n (rest tokens r.next)
  pub ahead : at < r.next
  pub within : r.next ≤ length tokens

abbrev pub AnswersConstant : Reader → ℕ → Result ReadConstant Stop → Type 0
AnswersConstant reader at (Ok r) = FoundConstant reader.room reader.tokens.now at r
AnswersConstant reader at (Err e) =
    (ms : Modifiers) (items : Sequence (ClassConstant Nothing)) → Fails walk_member reader.room (due_constant ms items) (rest reader.tokens.now at) reader.tokens.now at e

pub record FoundConstants (room : ℕ) (tokens : List Token) (at : ℕ) (r : ReadConstants) : Type 0 where
  pub items : Sequence (ClassConstant Nothing)
  pub shown : sequence class_constant_view r.constants ≡ noted_separated size_class_constant (noted_class_constant (notes_of tokens)) at items
  pub sized : at + size_separated size_class_constant items + 1 ≡ r.next
  pub reads : (ms : Modifiers) → Leads walk_member room (due_constant ms empty) (rest tokens at) (past_member (class_constants ms items)) (rest tokens r.next)
  pub ahead : at < r.next
  pub within : r.next ≤ length tokens

abbrev pub AnswersConstants : Reader → ℕ → Result ReadConstants Stop → Type 0
AnswersConstants reader at (Ok r) = FoundConstants reader.room reader.tokens.now at r
AnswersConstants reader at (Err e) = (ms : Modifiers) → Fails walk_member reader.room (due_constant ms empty) (rest reader.tokens.now at) reader.tokens.now at e

-- what a loop has read so far: constants behind each of which a comma was read
pub record ConstantsSoFar (room : ℕ) (tokens : List Token) (at : ℕ) (xs : List rust_constant.ClassConstant) (next : ℕ) : Type 0 where
  pub items : Sequence (ClassConstant Nothing)
  pub spans : SpansSoFar (sequence class_constant_view xs) size_class_constant (noted_class_constant (notes_of tokens)) at items next
  pub flat : list_all is_flat_class_constant xs ≡ true
  pub reads : (ms : Modifiers) → Leads walk_member room (due_constant ms empty) (rest tokens at) (due_constant ms items) (rest tokens next)
  pub ahead : at ≤ next
  pub within : next ≤ length tokens

-- ---- properties

pub record FoundProperty (room : ℕ) (tokens : List Token) (at : ℕ) (r : ReadProperty) : Type 0 where
  pub form : Variable Nothing
  pub shown : variable_view r.property ≡ noted_variable (notes_of tokens) at form
  pub sized : at + size_variable form ≡ r.next
  pub reads : (ms : Modifiers) (items : Sequence (Variable Nothing)) (n : ℕ) → room ≡ suc n
      → walk_member n (due_property ms items) (rest tokens at) ≡ behind_property ms (then_also items form) n (rest tokens r.next)
  pub ahead : at < r.next
  pub within : r.next ≤ length tokens

abbrev pub AnswersProperty : Reader → ℕ → Result ReadProperty Stop → Type 0
AnswersProperty reader at (Ok r) = FoundProperty reader.room reader.tokens.now at r
AnswersProperty reader at (Err e) =
    (ms : Modifiers) (items : Sequence (Variable Nothing)) → Fails walk_member reader.room (due_property ms items) (rest reader.tokens.now at) reader.tokens.now at e

pub record FoundProperties (room : ℕ) (tokens : List Token) (at : ℕ) (r : ReadProperties) : Type 0 where
  pub items : Sequence (Variable Nothing)
  pub shown : sequence variable_view r.properties ≡ noted_separated size_variable (noted_variable (notes_of tokens)) at items
  pub sized : at + size_separated size_variable items + 1 ≡ r.next
  pub reads : (ms : Modifiers) → Leads walk_member room (due_property ms empty) (rest tokens at) (past_member (properties ms items)) (rest tokens r.next)
  pub ahead : at < r.next
  pub within : r.next ≤ length tokens

abbrev pub AnswersProperties : Reader → ℕ → Result ReadProperties Stop → Type 0
AnswersProperties reader at (Ok r) = FoundProperties reader.room reader.tokens.now at r
AnswersProperties reader at (Err e) = (ms : Modifiers) → Fails walk_member reader.room (due_property ms empty) (rest reader.tokens.now at) reader.tokens.now at e

pub record PropertiesSoFar (room : ℕ) (tokens : List Token) (at : ℕ) (xs : List VariableItem) (next : ℕ) : Type 0 where
  pub items : Sequence (Variable Nothing)
  pub spans : SpansSoFar (sequence variable_view xs) size_variable (noted_variable (notes_of tokens)) at items next
  pub flat : list_all is_flat_variable xs ≡ true
  pub reads : (ms : Modifiers) → Leads walk_member room (due_property ms empty) (rest tokens at) (due_property ms items) (rest tokens next)
  pub ahead : at ≤ next
  pub within : next ≤ length tokens

-- ---- functions and methods

-- `&` before a name, or none
pub record SeesReference (tokens : List Token) (at : ℕ) (r : Marked) : Type 0 where
  pub spelled : rest tokens at ≡ symbol_if r.stands (punct mark.Ampersand) (rest tokens r.next)
  pub sized : at + size_if r.stands ≡ r.next
  pub absent : r.stands ≡ false → test is_ampersand (rest tokens r.next) ≡ false
  pub within : r.next ≤ length tokens

-- The walk behind a signature.
abbrev pub behind_signature : {N : Type 0} → FunctionForm N → Bool → N → Signature Nothing → ℕ → List Symbol → OutcomeOf (Routine N)
behind_signature form is_reference x s n = past (λ t. body_step form is_reference x s t) (walk_function form n) short

-- likewise as a walk from the one state
abbrev pub walk_body : {N : Type 0} → FunctionForm N → Bool → N → Signature Nothing → ℕ → Unit {0} → List Symbol → OutcomeOf (Routine N)
walk_body form is_reference x s n here = behind_signature form is_reference x s n

pub record FoundFunctionHead (room : ℕ) (tokens : List Token) (at : ℕ) (r : FunctionHead) : Type 0 where
  pub name : Name Nothing
  pub signature : Signature Nothing
  pub named : name_view r.name ≡ noted_name (notes_of tokens) (at + 1 + size_if r.is_reference) name
  pub signed : signature_view r.signature ≡ noted_signature (notes_of tokens) (at + 1 + size_if r.is_reference + 1) signature
  pub sized : at + 1 + size_if r.is_reference + 1 + size_signature signature ≡ r.next
  pub reads : (n : ℕ) → room ≡ suc n
      → walk_function function_form n past_function (rest tokens (at + 1)) ≡ behind_signature function_form r.is_reference name signature n (rest tokens r.next)
  pub within : r.next ≤ length tokens

abbrev pub FailsFunction : Reader → ℕ → Stop → Type 0
FailsFunction reader at e = Fails (walk_function function_form) reader.room past_function (rest reader.tokens.now (at + 1)) reader.tokens.now (at + 1) e

abbrev pub AnswersFunctionHead : Reader → ℕ → Result FunctionHead Stop → Type 0
AnswersFunctionHead reader at (Ok r) = FoundFunctionHead reader.room reader.tokens.now at r
AnswersFunctionHead reader at (Err e) = FailsFunction reader at e

-- the tree that the machine of scripts makes of what stands behind `function`
abbrev pub function_tree : Routine (Name Nothing) → Function Nothing
function_tree f = record {
  note = tt;
  is_reference = f.is_reference;
  name = f.name;
  signature = f.signature;
  body = block_of f.body;
}

-- A function was read, from the word `function` on: that is what its machine comes to behind that word.
pub record FoundFunction (room : ℕ) (tokens : List Token) (at : ℕ) (r : ReadFunction) : Type 0 where
  pub form : Routine (Name Nothing)
  pub shown : function_view r.function ≡ noted_function (notes_of tokens) at (function_tree form)
  pub sized : at + size_function (function_tree form) ≡ r.next
  pub comes : (n : ℕ) → room ≡ suc n → walk_function function_form n past_function (rest tokens (at + 1)) ≡ whole form (rest tokens r.next)
  pub ahead : at < r.next
  pub within : r.next ≤ length tokens

abbrev pub AnswersFunction : Reader → ℕ → Result ReadFunction Stop → Type 0
AnswersFunction reader at (Ok r) = FoundFunction reader.room reader.tokens.now at r
AnswersFunction reader at (Err e) = FailsFunction reader at e

pub record FoundMethodHead (room : ℕ) (tokens : List Token) (at : ℕ) (r : MethodHead) : Type 0 where
  pub name : Word
  pub signature : Signature Nothing
  pub named : word_view r.name ≡ noted_member (notes_of tokens) (at + 1 + size_if r.is_reference) name
  pub signed : signature_view r.signature ≡ noted_signature (notes_of tokens) (at + 1 + size_if r.is_reference + 1) signature
  pub sized : at + 1 + size_if r.is_reference + 1 + size_signature signature ≡ r.next
  pub reads : (n : ℕ) → room ≡ suc n
      → walk_function method_form n past_function (rest tokens (at + 1)) ≡ behind_signature method_form r.is_reference name signature n (rest tokens r.next)
  pub within : r.next ≤ length tokens

abbrev pub FailsMethod : Reader → ℕ → Stop → Type 0
FailsMethod reader at e = Fails (walk_function method_form) reader.room past_function (rest reader.tokens.now (at + 1)) reader.tokens.now (at + 1) e

abbrev pub AnswersMethodHead : Reader → ℕ → Result MethodHead Stop → Type 0
AnswersMethodHead reader at (Ok r) = FoundMethodHead reader.room reader.tokens.now at r
AnswersMethodHead reader at (Err e) = FailsMethod reader at e

-- a block, or `;` in its place
pub record FoundBody (room : ℕ) (tokens : List Token) (at : ℕ) (r : ReadBody) : Type 0 where
  pub form : Option (Statements Nothing)
  pub shown : optional statements_view r.body ≡ noted_method_body (notes_of tokens) at form
  pub sized : at + size_method_body form ≡ r.next
  pub reads : (b : Bool) (x : Word) (s : Signature Nothing) (n : ℕ) → room ≡ suc n → behind_signature method_form b x s n (rest tokens at) ≡ whole (routine b x s form) (rest tokens r.next)
  pub within : r.next ≤ length tokens

abbrev pub AnswersBody : Reader → ℕ → Result ReadBody Stop → Type 0
AnswersBody reader at (Ok r) = FoundBody reader.room reader.tokens.now at r
AnswersBody reader at (Err e) = (b : Bool) (x : Word) (s : Signature Nothing) → Fails (walk_body method_form b x s) reader.room tt (rest reader.tokens.now at) reader.tokens.now at e

pub record FoundMethod (room : ℕ) (tokens : List Token) (at : ℕ) (r : ReadMethod) : Type 0 where
  pub form : Routine Word
  pub reference_is : form.is_reference ≡ r.is_reference
  pub named : word_view r.name ≡ noted_member (notes_of tokens) (at + 1 + size_if r.is_reference) form.name
  pub signed : signature_view r.signature ≡ noted_signature (notes_of tokens) (at + 1 + size_if r.is_reference + 1) form.signature
  pub bodied : optional statements_view r.body ≡ noted_method_body (notes_of tokens) (at + 1 + size_if r.is_reference + 1 + size_signature form.signature) form.body
  pub sized : at + 1 + size_if r.is_reference + 1 + size_signature form.signature + size_method_body form.body ≡ r.next
  pub comes : (n : ℕ) → room ≡ suc n → walk_function method_form n past_function (rest tokens (at + 1)) ≡ whole form (rest tokens r.next)
  pub within : r.next ≤ length tokens

-- A method was read, from the word `function` on.
abbrev pub AnswersMethod : Reader → ℕ → Result ReadMethod Stop → Type 0
AnswersMethod reader at (Ok r) = FoundMethod reader.room reader.tokens.now at r
AnswersMethod reader at (Err e) = FailsMethod reader at e

-- ---- members

-- the modifiers of a member that stand between two places
pub record ModifiersSoFar (room : ℕ) (tokens : List Token) (at : ℕ) (xs : List rust_modifier.Modifier) (next : ℕ) : Type 0 where
  pub modifiers : Modifiers
  pub shown : sequence modifier_view xs ≡ noted_modifiers (notes_of tokens) at modifiers
  pub sized : at + size_joined size_modifier modifiers ≡ next
  pub reads : Leads walk_member room (past_modifiers empty) (rest tokens at) (past_modifiers modifiers) (rest tokens next)
  pub within : next ≤ length tokens

-- likewise, whatever the program keeps of them
pub record ModifiersRead (room : ℕ) (tokens : List Token) (at next : ℕ) : Type 0 where
  pub modifiers : Modifiers
  pub sized : at + size_joined size_modifier modifiers ≡ next
  pub reads : Leads walk_member room (past_modifiers empty) (rest tokens at) (past_modifiers modifiers) (rest tokens next)
  pub within : next ≤ length tokens

abbrev pub IsNoModifier : Lead → Type 0
IsNoModifier (lead.Modifier w) = ⊥
IsNoModifier _ = Unit {0}

-- A member was read: that is what its machine comes to.
pub record FoundMember (room : ℕ) (tokens : List Token) (at : ℕ) (r : ReadMember) : Type 0 where
  pub form : Member Nothing
  pub shown : member_view r.member ≡ noted_class_member (notes_of tokens) at form
  pub sized : at + size_member form ≡ r.next
  pub comes : (n : ℕ) → room ≡ suc n → walk_member n (past_modifiers empty) (rest tokens at) ≡ whole form (rest tokens r.next)
  pub ahead : at < r.next
  pub within : r.next ≤ length tokens

abbrev pub AnswersMember : Reader → ℕ → Result ReadMember Stop → Type 0
AnswersMember reader at (Ok r) = FoundMember reader.room reader.tokens.now at r
AnswersMember reader at (Err e) = Fails walk_member reader.room (past_modifiers empty) (rest reader.tokens.now at) reader.tokens.now at e

-- Members and the `}` behind them: the machine of scripts goes from where the first one is due to the next item.
pub record FoundMembers (room : ℕ) (tokens : List Token) (at : ℕ) (r : ReadMembers) : Type 0 where
  pub members : Sequence (Member Nothing)
  pub shown : sequence member_view r.members ≡ noted_joined size_member (noted_class_member (notes_of tokens)) at members
  pub sized : at + size_joined size_member members + 1 ≡ r.next
  pub reads : (items : Items) (heading : Heading) (n : ℕ) → room ≡ suc n
      → walk_script n (due_member items heading empty) (rest tokens at) ≡ walk_script n (due_item (with_item items heading members)) (rest tokens r.next)
  pub within : r.next ≤ length tokens

-- where so many levels are left outside the braces
abbrev pub AnswersMembersIn : ℕ → List Token → ℕ → Result ReadMembers Stop → Type 0
AnswersMembersIn room tokens at (Ok r) = FoundMembers room tokens at r
AnswersMembersIn room tokens at (Err e) = (items : Items) (heading : Heading) → Fails walk_script room (due_member items heading empty) (rest tokens at) tokens at e

abbrev pub AnswersMembers : Reader → ℕ → Result ReadMembers Stop → Type 0
AnswersMembers reader at r = AnswersMembersIn reader.room reader.tokens.now at r

-- where the reader has those that are left inside
abbrev pub AnswersInside : Reader → ℕ → Result ReadMembers Stop → Type 0
AnswersInside reader at r = AnswersMembersIn (reader.room + 1) reader.tokens.now at r

pub record MembersSoFar (room : ℕ) (tokens : List Token) (at : ℕ) (xs : List ClassMember) (next : ℕ) : Type 0 where
  pub members : Sequence (Member Nothing)
  pub shown : sequence member_view xs ≡ noted_joined size_member (noted_class_member (notes_of tokens)) at members
  pub sized : at + size_joined size_member members ≡ next
  pub flat : are_flat_members xs ≡ true
  pub reads : (items : Items) (heading : Heading) → Leads walk_script room (due_member items heading empty) (rest tokens at) (due_member items heading members) (rest tokens next)
  pub within : next ≤ length tokens
