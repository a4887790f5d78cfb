-- Completeness of the machine of functions and methods.
use Rattle.std.proofs.Common.{◌≡◌, Bool, true, false, Option, Some, None, List, [], ◌∷◌, ◌++◌, refl, ◌∙◌, ap}
use Rattle.php_token.specs.declared.kind.Punct.{Punct}
use Rattle.php_token.specs.declared.kind.Punct.TheVariants as mark
use Rattle.php_ast.specs.Symbol.{Symbol, punct}
use Rattle.php_grammar.specs.expression.Machine.{Nothing, pick}
use Rattle.php_grammar.specs.expression.Role.{is_ampersand}
use Rattle.php_grammar.specs.Run.{if_some, ReadingOf, reading, or_halted, run_of}
use Rattle.php_ast.specs.statement.Tree.{Statement, Statements, no_statement, and_statement}
use Rattle.php_ast.specs.statement.Spelling.{symbol_if, spell_statement, spell_statements}
use Rattle.php_ast.specs.statement.Proper.{AreProper}
use Rattle.php_ast.specs.declaration.Tree.{Type_of, Signature}
use Rattle.php_ast.specs.declaration.Spelling.{spell_signature, spell_block, spell_method_body}
use Rattle.php_ast.specs.declaration.Proper.{IsProperSignature, IsProperMethodBody}
use Rattle.php_grammar.specs.statement.Role.{is_right_brace}
use Rattle.php_grammar.specs.statement.Forms.{StatementState, due_statement}
use Rattle.php_grammar.specs.statement.Machine.{advance_statement}
use Rattle.php_grammar.specs.statement.Reading.{halt_statement}
use Rattle.php_grammar.specs.declaration.SignatureMachine.{SignatureState, due_signature, advance_signature, halt_signature}
use Rattle.php_grammar.specs.declaration.FunctionMachine.{FunctionForm, Routine, routine, FunctionState, past_function, past_function_reference, in_signature, due_in_body, in_statement, past_routine, named_step, body_step, statement_step, block_step, advance_function, least_body, least_body_rest, halt_function}
use Rattle.php_grammar.specs.declaration.Laws.{ResultEnds}
use Rattle.php_grammar.proofs.Machines.{Halts, Holds, IsSome, through_machine, through_some, some_either, some_in}
use Rattle.php_grammar.proofs.statement.Starts.{starts_statement, StartsStatement, begin_goes, statement_starts}
use Rattle.php_grammar.proofs.statement.Back.{Quiet, quiet_ends, starts_quiet}
use Rattle.php_grammar.proofs.statement.LawProofs.{statement_stops, statements_read_back}
use Rattle.php_grammar.proofs.declaration.SignatureBack.{signature_halts, signatures_read_back}

abbrev pub run_function : {N : Type 0} → FunctionForm N → FunctionState N → List Symbol → ReadingOf (Routine N)
run_function form = run_of (advance_function form) (halt_function form)

-- ---- halting

function_unread : {N : Type 0} (form : FunctionForm N) (m : FunctionState N) (w : List Symbol) → (halt_function form m w).unread ≡ w
function_unread form past_function w = refl
function_unread form _ w = refl

function_tree : {N : Type 0} (form : FunctionForm N) (m : FunctionState N) (w : List Symbol) → (halt_function form m w).tree ≡ (halt_function form m []).tree
function_tree form (in_signature r n m) w = ap (λ s. routine r n s (least_body form.may_lack)) (signature_halts.tree m w)
function_tree form (in_statement r n s ss m) w = ap (λ a. routine r n s (Some (and_statement ss a))) (statement_stops.tree m w)
function_tree form past_function w = refl
function_tree form _ w = refl

function_missing : {N : Type 0} (form : FunctionForm N) (m : FunctionState N) (w : List Symbol) → (halt_function form m w).missing ≡ (halt_function form m []).missing
function_missing form (in_signature r n m) w = ap (λ u. u ++ least_body_rest form.may_lack) (signature_halts.missing m w)
function_missing form (in_statement r n s ss m) w = ap (λ u. u ++ punct mark.RightBrace ∷ []) (statement_stops.missing m w)
function_missing form past_function w = refl
function_missing form _ w = refl

pub function_halts : {N : Type 0} (form : FunctionForm N) → Halts (FunctionState N) (Routine N) (halt_function form)
function_halts form = record { unread = function_unread form; tree = function_tree form; missing = function_missing form }

-- ---- the statements of a body

abbrev pub signature_in : {N : Type 0} (form : FunctionForm N) (r : Bool) (n : N) → Holds SignatureState (FunctionState N) (Signature Nothing) advance_signature halt_signature (advance_function form)
signature_in form r n = record { on = λ m. in_signature r n m; ended = λ t s. body_step form r n s t; steps = λ m t. refl }

abbrev pub statement_in : {N : Type 0} (form : FunctionForm N) (r : Bool) (n : N) (s : Signature Nothing) (ss : Statements Nothing)
    → Holds StatementState (FunctionState N) (Statement Nothing) advance_statement halt_statement (advance_function form)
statement_in form r n s ss = record { on = λ m. in_statement r n s ss m; ended = λ t a. block_step r n s (and_statement ss a) t; steps = λ m t. refl }

punct_no_brace : (p : Punct) → starts_statement (punct p) ≡ true → is_right_brace (punct p) ≡ false
punct_no_brace mark.RightBrace h = cc
punct_no_brace _ h = refl

pub starts_no_brace : (t : Symbol) → starts_statement t ≡ true → is_right_brace t ≡ false
starts_no_brace (punct p) h = punct_no_brace p h
starts_no_brace _ h = refl

-- The symbols go on with a block, and with no statement before them.
pub record Continues {N : Type 0} (r : Bool) (n : N) (s : Signature Nothing) (t : Symbol) (w : List Symbol) : Type 0 where
  pub quiet : Quiet (t ∷ w)
  pub goes : (ss : Statements Nothing) → IsSome (block_step r n s ss t)

abbrev pub ContinuesBody : {N : Type 0} → Bool → N → Signature Nothing → List Symbol → Type 0
ContinuesBody r n s [] = ⊥
ContinuesBody r n s (t ∷ w) = Continues r n s t w

goes_on : {N : Type 0} (r : Bool) (n : N) (s : Signature Nothing) (ss : Statements Nothing) (t : Symbol) (b : Bool) → is_right_brace t ≡ b → b ≡ false → starts_statement t ≡ true
    → IsSome (pick b (Some (past_routine (routine r n s (Some ss)))) (statement_step r n s ss (due_statement []) t))
goes_on r n s ss t true is h go = cc
goes_on r n s ss t false is h go = some_in (λ m. in_statement r n s ss m) (advance_statement (due_statement []) t) (begin_goes [] t go)

pub starts_continue : {N : Type 0} (r : Bool) (n : N) (s : Signature Nothing) (w : List Symbol) → StartsStatement w → ContinuesBody r n s w
starts_continue r n s [] h = absurd h
starts_continue r n s (t ∷ w) h = record { quiet = starts_quiet (t ∷ w) h; goes = λ ss. goes_on r n s ss t (is_right_brace t) refl (starts_no_brace t h) h }

statement_entered : {N : Type 0} (form : FunctionForm N) (r : Bool) (n : N) (s : Signature Nothing) (ss : Statements Nothing) (w : List Symbol) → StartsStatement w
    → run_function form (due_in_body r n s ss) w ≡ run_function form (in_statement r n s ss (due_statement [])) w
statement_entered form r n s ss [] h = absurd h
statement_entered form r n s ss (t ∷ w) h =
    ap (λ b. or_halted (pick b (Some (past_routine (routine r n s (Some ss)))) (statement_step r n s ss (due_statement []) t)) (λ k. run_function form k w) (halt_function form (due_in_body r n s ss) (t ∷ w)))
    (starts_no_brace t h)
    ∙ some_either (advance_statement (due_statement []) t) (λ m. in_statement r n s ss m) _ (λ k. run_function form k w) _ _ (begin_goes [] t h)

body_read : {N : Type 0} (form : FunctionForm N) (r : Bool) (n : N) (s : Signature Nothing) (ss : Statements Nothing) (w : List Symbol) → AreProper ss → ContinuesBody r n s w
    → run_function form (due_in_body r n s no_statement) (spell_statements ss w) ≡ run_function form (due_in_body r n s ss) w
body_read form r n s no_statement w p h = refl
body_read form r n s (and_statement ss a) [] p h = absurd h
body_read form r n s (and_statement ss a) (t ∷ w) p h =
    body_read form r n s ss (spell_statement a (t ∷ w)) p.0 (starts_continue r n s (spell_statement a (t ∷ w)) (statement_starts a (t ∷ w)))
    ∙ statement_entered form r n s ss (spell_statement a (t ∷ w)) (statement_starts a (t ∷ w))
    ∙ through_some advance_statement halt_statement (advance_function form) (halt_function form) statement_stops (statement_in form r n s ss) (spell_statement a (t ∷ w)) (due_statement []) a t w
    (halt_function form (due_in_body r n s (and_statement ss a)) (t ∷ w)) (h.goes (and_statement ss a)) (statements_read_back a (t ∷ w) p.1 (quiet_ends a (t ∷ w) h.quiet))

-- ---- a function

pub ends_at_brace : (result : Option (Type_of Nothing)) (w : List Symbol) → ResultEnds result (punct mark.LeftBrace ∷ w)
ends_at_brace None w = refl
ends_at_brace (Some t) w = tt

pub ends_at_semicolon : (result : Option (Type_of Nothing)) (w : List Symbol) → ResultEnds result (punct mark.Semicolon ∷ w)
ends_at_semicolon None w = refl
ends_at_semicolon (Some t) w = tt

abbrev pub MayLack : {N : Type 0} → FunctionForm N → Option (Statements Nothing) → Type 0
MayLack form None = form.may_lack ≡ true
MayLack form (Some body) = Unit {0}

block_read : {N : Type 0} (form : FunctionForm N) (r : Bool) (n : N) (s : Signature Nothing) (body : Option (Statements Nothing)) (w : List Symbol) → IsProperSignature s → IsProperMethodBody body
    → MayLack form body → run_function form (in_signature r n due_signature) (spell_signature s (spell_method_body body w)) ≡ run_function form (past_routine (routine r n s body)) w
block_read form r n s None w p q lack =
    through_machine advance_signature halt_signature (advance_function form) (halt_function form) signature_halts (signature_in form r n) (spell_signature s (punct mark.Semicolon ∷ w)) due_signature s
    (punct mark.Semicolon) w (past_routine (routine r n s None)) (ap (λ b. pick b (Some (past_routine (routine r n s None))) None) lack)
    (signatures_read_back s (punct mark.Semicolon ∷ w) p (ends_at_semicolon s.result w))
block_read form r n s (Some ss) w p q lack =
    through_machine advance_signature halt_signature (advance_function form) (halt_function form) signature_halts (signature_in form r n) (spell_signature s (spell_block ss w)) due_signature s
    (punct mark.LeftBrace) (spell_statements ss (punct mark.RightBrace ∷ w)) (due_in_body r n s no_statement) refl (signatures_read_back s (spell_block ss w) p (ends_at_brace s.result _))
    ∙ body_read form r n s ss (punct mark.RightBrace ∷ w) q (record { quiet = record { strength = refl; catching = refl }; goes = λ xs. tt })

name_read : {N : Type 0} (form : FunctionForm N) (r : Bool) (n : N) (t : Symbol) (w : List Symbol) → form.name_of t ≡ Some n → is_ampersand t ≡ false
    → run_function form past_function (symbol_if r (punct mark.Ampersand) (t ∷ w)) ≡ run_function form (in_signature r n due_signature) w
name_read form true n t w is apart =
    ap (λ o. or_halted (if_some o (λ x. Some (in_signature true x due_signature))) (λ k. run_function form k w) (halt_function form past_function_reference (t ∷ w))) is
name_read form false n t w is apart =
    ap (λ b. or_halted (pick b (Some past_function_reference) (named_step form false t)) (λ k. run_function form k w) (halt_function form past_function (t ∷ w))) apart
    ∙ ap (λ o. or_halted (if_some o (λ x. Some (in_signature false x due_signature))) (λ k. run_function form k w) (halt_function form past_function (t ∷ w))) is

nothing_follows : {N : Type 0} (form : FunctionForm N) (f : Routine N) (w : List Symbol) → run_function form (past_routine f) w ≡ reading f [] w
nothing_follows form f [] = refl
nothing_follows form f (t ∷ w) = refl

-- What stands behind `function` is read back.
pub functions_read_back : {N : Type 0} (form : FunctionForm N) (r : Bool) (n : N) (t : Symbol) (s : Signature Nothing) (body : Option (Statements Nothing)) (w : List Symbol)
    → form.name_of t ≡ Some n → is_ampersand t ≡ false → IsProperSignature s → IsProperMethodBody body → MayLack form body
    → run_function form past_function (symbol_if r (punct mark.Ampersand) (t ∷ spell_signature s (spell_method_body body w))) ≡ reading (routine r n s body) [] w
functions_read_back form r n t s body w is apart p q lack =
    name_read form r n t (spell_signature s (spell_method_body body w)) is apart ∙ block_read form r n s body w p q lack ∙ nothing_follows form (routine r n s body) w
