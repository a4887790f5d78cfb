-- What each machine comes to where nesting is limited: it reads symbols up to the first one that can't go on, or that is
-- nested too deep. And what an outer machine comes to while it lends its symbols to an inner one: what the inner one
-- comes to, and then, where that is whole, what the outer one does with it and with the symbol behind it.
use Rattle.std.specs.Prelude.{◌≡◌, ℕ, ◌+◌, Bool, true, false, nat_lt, Option, Some, None, List, [], ◌∷◌}
use Rattle.php_ast.specs.Symbol.{Symbol}
use Rattle.php_ast.specs.statement.Tree.{Sequence, then_also, Name, Statement, Statements, and_statement}
use Rattle.php_ast.specs.declaration.Tree.{Param, Signature, ClassConstant, Member, Script, of_statement}
use Rattle.php_ast.specs.statement.Tree.{Variable}
use Rattle.php_grammar.specs.Run.{ReadingOf, reading}
use Rattle.php_grammar.specs.expression.Machine.{Nothing, Form, State, Reading, advance, halt}
use Rattle.php_grammar.specs.expression.Depth.{depth_at}
use Rattle.php_grammar.specs.statement.Role.{ending}
use Rattle.php_grammar.specs.statement.Forms.{Around, ExpressionPlace, StatementState, in_expression}
use Rattle.php_grammar.specs.statement.Machine.{filled, advance_statement}
use Rattle.php_grammar.specs.statement.Depth.{statement_depth, place_depth, statement_depth_at}
use Rattle.php_grammar.specs.statement.Reading.{halt_statement}
use Rattle.php_grammar.specs.declaration.Depth.{signature_depth_at, function_depth_at, member_depth_at, script_depth_at}
use Rattle.php_grammar.specs.declaration.SignatureMachine.{Params, SignatureState, in_default, with_default, param_end, advance_signature, halt_signature}
use Rattle.php_grammar.specs.declaration.FunctionMachine.{FunctionForm, function_form, method_form, Routine, FunctionState, in_signature, in_statement, body_step, block_step, advance_function, halt_function}
use Rattle.php_grammar.specs.declaration.MemberMachine.{Word, Modifiers, MemberState, in_constant, in_property, in_method, with_constant, with_property, constant_end, property_end, method_of, advance_member, halt_member}
use Rattle.php_grammar.specs.declaration.ScriptMachine as script
use Rattle.php_grammar.specs.declaration.ScriptMachine.{Items, Heading, ScriptState, in_function, in_member, function_of, item_step, member_step, advance_script, halt_script}

-- ---- walks

pub data OutcomeOf (A : Type 0) : Type 0 where
  -- a tree, and the symbols behind it
  whole : A → List Symbol → OutcomeOf A
  -- something is missing in front of these symbols
  short : List Symbol → OutcomeOf A
  -- the first of these symbols is nested too deep
  deep : List Symbol → OutcomeOf A

abbrev pub outcome_by : {A : Type 0} → List Symbol → A → List Symbol → OutcomeOf A
outcome_by [] a w = whole a w
outcome_by (t ∷ missing) a w = short w

abbrev pub outcome : {A : Type 0} → ReadingOf A → OutcomeOf A
outcome r = outcome_by r.missing r.tree r.unread

abbrev pub stepped : {M A : Type 0} → Option M → Bool → (M → OutcomeOf A) → OutcomeOf A → List Symbol → OutcomeOf A
stepped None too_deep go_on halted w = halted
stepped (Some m) true go_on halted w = deep w
stepped (Some m) false go_on halted w = go_on m

-- where symbols may be nested as deep as a number, by the steps of a machine, what it counts, and where it halts
abbrev pub walk_of : {M A : Type 0} → (M → Symbol → Option M) → (M → Symbol → ℕ) → (M → List Symbol → ReadingOf A) → ℕ → M → List Symbol → OutcomeOf A
walk_of step depth stop n m [] = outcome (stop m [])
walk_of step depth stop n m (t ∷ w) =
    stepped (step m t) (nat_lt n (depth m t)) (λ x. walk_of step depth stop n x w) (outcome (stop m (t ∷ w))) (t ∷ w)

abbrev pub expression_reading : Reading → ReadingOf Form
expression_reading r = reading r.tree r.missing r.unread

abbrev pub halt_expression : State → List Symbol → ReadingOf Form
halt_expression m w = expression_reading (halt m w)

abbrev pub walk_expression : ℕ → State → List Symbol → OutcomeOf Form
walk_expression = walk_of advance depth_at halt_expression

abbrev pub walk_statement : ℕ → StatementState → List Symbol → OutcomeOf (Statement Nothing)
walk_statement = walk_of advance_statement statement_depth_at halt_statement

abbrev pub walk_signature : ℕ → SignatureState → List Symbol → OutcomeOf (Signature Nothing)
walk_signature = walk_of advance_signature signature_depth_at halt_signature

abbrev pub walk_function : {N : Type 0} → FunctionForm N → ℕ → FunctionState N → List Symbol → OutcomeOf (Routine N)
walk_function form = walk_of (advance_function form) function_depth_at (halt_function form)

abbrev pub walk_member : ℕ → MemberState → List Symbol → OutcomeOf (Member Nothing)
walk_member = walk_of advance_member member_depth_at halt_member

abbrev pub walk_script : ℕ → ScriptState → List Symbol → OutcomeOf (Script Nothing)
walk_script = walk_of advance_script script_depth_at halt_script

-- ---- symbols that are lent

abbrev pub taken_on : {N B : Type 0} → Option N → (N → OutcomeOf B) → OutcomeOf B → OutcomeOf B
taken_on None go_on stuck = stuck
taken_on (Some n) go_on stuck = go_on n

-- The outer machine takes the symbol behind what the inner one has read, or stops there.
abbrev pub past : {N B : Type 0} → (Symbol → Option N) → (N → List Symbol → OutcomeOf B) → (List Symbol → OutcomeOf B) → List Symbol → OutcomeOf B
past ended go_on stuck [] = stuck []
past ended go_on stuck (t ∷ v) = taken_on (ended t) (λ n. go_on n v) (stuck (t ∷ v))

abbrev pub resumed : {A B : Type 0} → (A → List Symbol → OutcomeOf B) → OutcomeOf A → OutcomeOf B
resumed go_on (whole a v) = go_on a v
resumed go_on (short v) = short v
resumed go_on (deep v) = deep v

-- expressions in statements, inside so many constructs of the statement
abbrev pub StatementsLend : Type 0
StatementsLend =
    (n : ℕ) (place : ExpressionPlace) (m : State) (o : Around) (w : List Symbol)
    → walk_statement (n + place_depth place (statement_depth o)) (in_expression place m o) w
    ≡ resumed (λ e. past (λ t. filled place e o (ending t)) (walk_statement (n + place_depth place (statement_depth o))) short) (walk_expression n m w)

-- values of parameters
abbrev pub SignaturesLend : Type 0
SignaturesLend =
    (n : ℕ) (params : Params) (p : Param Nothing) (m : State) (w : List Symbol)
    → walk_signature (n + 1) (in_default params p m) w
    ≡ resumed (λ e. past (λ t. param_end (then_also params (with_default p e)) (ending t)) (walk_signature (n + 1)) short) (walk_expression n m w)

-- the signature of a function, and statements of its block
abbrev pub FunctionsLendSignatures : {N : Type 0} → FunctionForm N → Type 0
FunctionsLendSignatures {N} form =
    (n : ℕ) (r : Bool) (x : N) (m : SignatureState) (w : List Symbol)
    → walk_function form n (in_signature r x m) w ≡ resumed (λ s. past (λ t. body_step form r x s t) (walk_function form n) short) (walk_signature n m w)

abbrev pub FunctionsLendStatements : {N : Type 0} → FunctionForm N → Type 0
FunctionsLendStatements {N} form =
    (n : ℕ) (r : Bool) (x : N) (s : Signature Nothing) (ss : Statements Nothing) (m : StatementState) (w : List Symbol)
    → walk_function form (n + 1) (in_statement r x s ss m) w
    ≡ resumed (λ a. past (λ t. block_step r x s (and_statement ss a) t) (walk_function form (n + 1)) short) (walk_statement n m w)

-- Behind a method nothing goes on.
abbrev pub MembersLendFunctions : Type 0
MembersLendFunctions =
    (n : ℕ) (ms : Modifiers) (m : FunctionState Word) (w : List Symbol) → walk_member n (in_method ms m) w ≡ resumed (λ x. whole (method_of ms x)) (walk_function method_form n m w)

-- values of constants and of properties
abbrev pub MembersLendConstants : Type 0
MembersLendConstants =
    (n : ℕ) (ms : Modifiers) (items : Sequence (ClassConstant Nothing)) (x : Word) (m : State) (w : List Symbol)
    → walk_member n (in_constant ms items x m) w
    ≡ resumed (λ e. past (λ t. constant_end ms (with_constant items x e) (ending t)) (walk_member n) short) (walk_expression n m w)

abbrev pub MembersLendProperties : Type 0
MembersLendProperties =
    (n : ℕ) (ms : Modifiers) (items : Sequence (Variable Nothing)) (x : Name Nothing) (m : State) (w : List Symbol)
    → walk_member n (in_property ms items x m) w
    ≡ resumed (λ e. past (λ t. property_end ms (with_property items x (Some e)) (ending t)) (walk_member n) short) (walk_expression n m w)

-- A script is whole behind each of its statements and functions, and not behind a member.
abbrev pub ScriptsLendStatements : Type 0
ScriptsLendStatements =
    (n : ℕ) (items : Items) (m : StatementState) (w : List Symbol)
    → walk_script n (script.in_statement items m) w
    ≡ resumed (λ a. past (λ t. item_step (then_also items (of_statement a)) t) (walk_script n) (whole (then_also items (of_statement a)))) (walk_statement n m w)

abbrev pub ScriptsLendFunctions : Type 0
ScriptsLendFunctions =
    (n : ℕ) (items : Items) (m : FunctionState (Name Nothing)) (w : List Symbol)
    → walk_script n (in_function items m) w
    ≡ resumed (λ x. past (λ t. item_step (then_also items (function_of x)) t) (walk_script n) (whole (then_also items (function_of x)))) (walk_function function_form n m w)

abbrev pub ScriptsLendMembers : Type 0
ScriptsLendMembers =
    (n : ℕ) (items : Items) (heading : Heading) (members : Sequence (Member Nothing)) (m : MemberState) (w : List Symbol)
    → walk_script (n + 1) (in_member items heading members m) w
    ≡ resumed (λ x. past (λ t. member_step items heading (then_also members x) t) (walk_script (n + 1)) short) (walk_member n m w)

abbrev pub FunctionSignatures : Type 0
FunctionSignatures = FunctionsLendSignatures function_form

abbrev pub FunctionStatements : Type 0
FunctionStatements = FunctionsLendStatements function_form

abbrev pub MethodSignatures : Type 0
MethodSignatures = FunctionsLendSignatures method_form

abbrev pub MethodStatements : Type 0
MethodStatements = FunctionsLendStatements method_form
