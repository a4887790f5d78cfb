-- What the end of a walk says of the symbols, exactly: of those in front of it, of the first one behind, and of how deep
-- they are nested in any tree.
use Rattle.std.specs.Prelude.{◌≡◌, ℕ, ◌+◌, Some, None, List, [], ◌∷◌, ◌++◌, take, length}
use Rattle.php_ast.specs.Symbol.{Symbol}
use Rattle.php_ast.specs.statement.Tree.{empty}
use Rattle.php_ast.specs.statement.Nesting.{nests_if, nests_statement}
use Rattle.php_ast.specs.declaration.Nesting.{signature_nests, method_body_nests, member_nests, script_nests}
use Rattle.php_grammar.specs.Begins.{BeginsStatement, BeginsSignature, BeginsScript}
use Rattle.php_grammar.specs.TooDeep.{nesting_limit, first_too_deep}
use Rattle.php_grammar.specs.statement.Forms.{due_statement}
use Rattle.php_grammar.specs.statement.Laws.{SpellsStatement}
use Rattle.php_grammar.specs.declaration.Laws.{SpellsSignature, SpellsScript}
use Rattle.php_grammar.specs.declaration.SignatureMachine.{due_signature}
use Rattle.php_grammar.specs.declaration.FunctionMachine.{FunctionForm, function_form, method_form, Routine, past_function}
use Rattle.php_grammar.specs.declaration.MemberMachine.{past_modifiers}
use Rattle.php_grammar.specs.declaration.ScriptMachine.{due_item}
use Rattle.php_grammar_laws.specs.Functions.{SpellsRoutine, BeginsRoutine}
use Rattle.php_grammar_laws.specs.Members.{SpellsMember, BeginsMember}
use Rattle.php_grammar_laws.specs.Walks.{OutcomeOf, whole, short, deep, walk_statement, walk_signature, walk_function, walk_member, walk_script}

-- What trees of a kind are: `good a w` where the symbols w spell a proper tree a, `begins w` where they begin one, and the
-- nesting of the tokens of a tree. So many constructs, `d`, are open around all of them.

-- With one symbol more, no tree begins.
abbrev pub NoFurther : (List Symbol → Type 0) → List Symbol → List Symbol → Type 0
NoFurther begins front v = (t : Symbol) (u : List Symbol) → v ≡ t ∷ u → begins (front ++ t ∷ []) → ⊥

-- The symbols up to the end spell a tree, none of whose tokens is too deep.
pub record EndsWhole {A : Type 0} (good : A → List Symbol → Type 0) (begins : List Symbol → Type 0) (nests : A → List ℕ) (d : ℕ) (w : List Symbol) (a : A) (v : List Symbol) : Type 0 where
  pub front : List Symbol
  pub split : w ≡ front ++ v
  pub spelled : good a front
  pub no_further : NoFurther begins front v
  pub shallow : first_too_deep d (nests a) ≡ None

-- The symbols up to the end begin a tree and spell none, and none of them is too deep.
pub record EndsShort {A : Type 0} (good : A → List Symbol → Type 0) (begins : List Symbol → Type 0) (nests : A → List ℕ) (d : ℕ) (w v : List Symbol) : Type 0 where
  pub front : List Symbol
  pub split : w ≡ front ++ v
  pub begun : begins front
  pub unspelled : (a : A) → good a front → ⊥
  pub no_further : NoFurther begins front v
  pub shallow : (a : A) (more : List Symbol) → good a (front ++ more) → first_too_deep d (take (length front) (nests a)) ≡ None

-- The symbols begin a tree with the first one behind the end, and that is the first one that is too deep.
pub record EndsDeep {A : Type 0} (good : A → List Symbol → Type 0) (begins : List Symbol → Type 0) (nests : A → List ℕ) (d : ℕ) (w v : List Symbol) : Type 0 where
  pub front : List Symbol
  pub token : Symbol
  pub rest : List Symbol
  pub here : v ≡ token ∷ rest
  pub split : w ≡ front ++ v
  pub begun : begins (front ++ token ∷ [])
  pub sinks : (a : A) (more : List Symbol) → good a ((front ++ token ∷ []) ++ more) → first_too_deep d (nests a) ≡ Some (length front)

abbrev pub EndsAs : {A : Type 0} → (A → List Symbol → Type 0) → (List Symbol → Type 0) → (A → List ℕ) → ℕ → List Symbol → OutcomeOf A → Type 0
EndsAs good begins nests d w (whole a v) = EndsWhole good begins nests d w a v
EndsAs good begins nests d w (short v) = EndsShort good begins nests d w v
EndsAs good begins nests d w (deep v) = EndsDeep good begins nests d w v

-- ---- laws

abbrev pub StatementWalkEnds : Type 0
StatementWalkEnds =
    (n d : ℕ) (w : List Symbol) → n + d ≡ nesting_limit → EndsAs SpellsStatement BeginsStatement (λ a. nests_statement a 0 []) d w (walk_statement n (due_statement []) w)

abbrev pub SignatureWalkEnds : Type 0
SignatureWalkEnds =
    (n d : ℕ) (w : List Symbol) → n + d ≡ nesting_limit → EndsAs SpellsSignature BeginsSignature (λ s. signature_nests s 0 []) d w (walk_signature n due_signature w)

abbrev pub MemberWalkEnds : Type 0
MemberWalkEnds =
    (n d : ℕ) (w : List Symbol) → n + d ≡ nesting_limit → EndsAs SpellsMember BeginsMember (λ m. member_nests m 0 []) d w (walk_member n (past_modifiers empty) w)

abbrev pub ScriptWalkEnds : Type 0
ScriptWalkEnds = (n d : ℕ) (w : List Symbol) → n + d ≡ nesting_limit → EndsAs SpellsScript BeginsScript script_nests d w (walk_script n (due_item empty) w)

-- of what stands behind `function`
abbrev pub routine_nests : {N : Type 0} → Routine N → List ℕ
routine_nests f = nests_if f.is_reference 0 (0 ∷ signature_nests f.signature 0 (method_body_nests f.body 0 []))

abbrev pub RoutineWalkEnds : {N : Type 0} → FunctionForm N → Type 0
RoutineWalkEnds form =
    (n d : ℕ) (w : List Symbol) → n + d ≡ nesting_limit → EndsAs (SpellsRoutine form) (BeginsRoutine form) routine_nests d w (walk_function form n past_function w)

abbrev pub FunctionWalkEnds : Type 0
FunctionWalkEnds = RoutineWalkEnds function_form

abbrev pub MethodWalkEnds : Type 0
MethodWalkEnds = RoutineWalkEnds method_form
