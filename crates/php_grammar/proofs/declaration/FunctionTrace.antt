-- The nesting that the machine of functions counts is that of the tree.
use Rattle.std.proofs.Common.{◌≡◌, ℕ, ◌+◌, Bool, true, false, Option, Some, None, List, [], ◌∷◌, refl, sym, ◌∙◌, ap}
use Rattle.php_token.specs.declared.kind.Punct.TheVariants as mark
use Rattle.php_ast.specs.Symbol.{Symbol, punct}
use Rattle.php_grammar.specs.expression.Machine.{Nothing, pick}
use Rattle.php_grammar.specs.expression.Role.{is_ampersand}
use Rattle.php_grammar.specs.Run.{if_some}
use Rattle.php_grammar.specs.TooDeep.{taken, depths_taken}
use Rattle.php_ast.specs.statement.Tree.{Statement, Statements, no_statement, and_statement}
use Rattle.php_ast.specs.statement.Spelling.{symbol_if, spell_statement, spell_statements}
use Rattle.php_ast.specs.statement.Nesting.{nests_if, nests_statements}
use Rattle.php_ast.specs.statement.Proper.{AreProper}
use Rattle.php_ast.specs.declaration.Tree.{Signature}
use Rattle.php_ast.specs.declaration.Spelling.{spell_signature, spell_block, spell_method_body}
use Rattle.php_ast.specs.declaration.Nesting.{signature_nests, method_body_nests}
use Rattle.php_ast.specs.declaration.Proper.{IsProperSignature, IsProperMethodBody}
use Rattle.php_grammar.specs.statement.Role.{StatementBeginning, at_block, statement_beginning}
use Rattle.php_grammar.specs.statement.Forms.{StatementState, due_statement}
use Rattle.php_grammar.specs.statement.Machine.{advance_statement}
use Rattle.php_grammar.specs.statement.Reading.{halt_statement}
use Rattle.php_grammar.specs.statement.Depth.{begun_depth, statement_depth_at}
use Rattle.php_grammar.specs.statement.Laws.{StatementEnds}
use Rattle.php_grammar.specs.declaration.SignatureMachine.{SignatureState, due_signature, advance_signature, halt_signature}
use Rattle.php_grammar.specs.declaration.FunctionMachine.{FunctionForm, Routine, routine, FunctionState, past_function, past_function_reference, in_signature, due_in_body, in_statement, past_routine, named_step, statement_step, advance_function}
use Rattle.php_grammar.specs.declaration.Depth.{signature_depth_at, function_depth_at}
use Rattle.php_grammar.proofs.Deepened.{CountsInside, machine_depths, some_depths, some_entered, shifted}
use Rattle.php_grammar.proofs.statement.Shifts.{statement_shift}
use Rattle.php_grammar.proofs.declaration.Shifts.{signature_shift}
use Rattle.php_grammar.proofs.statement.Starts.{StartsStatement, begin_goes, statement_starts}
use Rattle.php_grammar.proofs.statement.Back.{quiet_ends}
use Rattle.php_grammar.proofs.statement.LawProofs.{statement_stops, statements_read_back}
use Rattle.php_grammar.proofs.statement.TraceBack.{statement_nesting}
use Rattle.php_grammar.proofs.declaration.SignatureBack.{signature_halts, signatures_read_back}
use Rattle.php_grammar.proofs.declaration.SignatureTrace.{signature_nesting}
use Rattle.php_grammar.proofs.declaration.FunctionBack.{signature_in, statement_in, starts_no_brace, ContinuesBody, starts_continue, ends_at_brace, ends_at_semicolon, MayLack}

abbrev pub function_trace : {N : Type 0} → FunctionForm N → FunctionState N → List Symbol → List ℕ
function_trace form = depths_taken (advance_function form) function_depth_at

-- ---- the statements of a body

pub begins_outside : (x : StatementBeginning) → begun_depth x [] ≡ 0
begins_outside at_block = refl
begins_outside _ = refl

abbrev statement_counts : {N : Type 0} (form : FunctionForm N) (r : Bool) (n : N) (s : Signature Nothing) (ss : Statements Nothing)
    → CountsInside StatementState (FunctionState N) (Statement Nothing) advance_statement halt_statement (advance_function form) (statement_in form r n s ss) statement_depth_at function_depth_at 1
statement_counts form r n s ss = record { counts = λ m t. refl }

statement_entered : {N : Type 0} (form : FunctionForm N) (r : Bool) (n : N) (s : Signature Nothing) (ss : Statements Nothing) (w : List Symbol) → StartsStatement w
    → function_trace form (due_in_body r n s ss) w ≡ function_trace form (in_statement r n s ss (due_statement [])) w
statement_entered form r n s ss [] h = absurd h
statement_entered form r n s ss (t ∷ w) h =
    ap (λ b. taken (pick b (Some (past_routine (routine r n s (Some ss)))) (statement_step r n s ss (due_statement []) t)) 1 (λ k. function_trace form k w)) (starts_no_brace t h)
    ∙ some_entered (advance_statement (due_statement []) t) (λ m. in_statement r n s ss m) _ (begun_depth (statement_beginning t) []) 1 1 (λ k. function_trace form k w) (begin_goes [] t h)
    (sym (ap (λ x. x + 1) (begins_outside (statement_beginning t))))

body_trace : {N : Type 0} (form : FunctionForm N) (r : Bool) (n : N) (s : Signature Nothing) (ss : Statements Nothing) (w : List Symbol) → AreProper ss → ContinuesBody r n s w
    → function_trace form (due_in_body r n s no_statement) (spell_statements ss w) ≡ nests_statements ss 1 (function_trace form (due_in_body r n s ss) w)
body_trace form r n s no_statement w p h = refl
body_trace form r n s (and_statement ss a) [] p h = absurd h
body_trace form r n s (and_statement ss a) (t ∷ w) p h =
    let ends : StatementEnds a (t ∷ w) = quiet_ends a (t ∷ w) h.quiet in
    let rest : List ℕ = function_trace form (due_in_body r n s (and_statement ss a)) (t ∷ w) in
    body_trace form r n s ss (spell_statement a (t ∷ w)) p.0 (starts_continue r n s (spell_statement a (t ∷ w)) (statement_starts a (t ∷ w)))
    ∙ ap (nests_statements ss 1)
    (statement_entered form r n s ss (spell_statement a (t ∷ w)) (statement_starts a (t ∷ w))
    ∙ some_depths advance_statement halt_statement (advance_function form) statement_stops (statement_in form r n s ss) statement_depth_at function_depth_at 1 (statement_counts form r n s ss)
    (spell_statement a (t ∷ w)) (due_statement []) a t w (h.goes (and_statement ss a)) (statements_read_back a (t ∷ w) p.1 ends)
    ∙ ap (λ u. shifted 1 u rest) (statement_nesting a (t ∷ w) p.1 ends) ∙ sym (statement_shift a 0 1 [] rest))

-- ---- a function

abbrev signature_counts : {N : Type 0} (form : FunctionForm N) (r : Bool) (n : N)
    → CountsInside SignatureState (FunctionState N) (Signature Nothing) advance_signature halt_signature (advance_function form) (signature_in form r n) signature_depth_at function_depth_at 0
signature_counts form r n = record { counts = λ m t. refl }

block_trace : {N : Type 0} (form : FunctionForm N) (r : Bool) (n : N) (s : Signature Nothing) (body : Option (Statements Nothing)) (w : List Symbol) → IsProperSignature s → IsProperMethodBody body
    → MayLack form body
    → function_trace form (in_signature r n due_signature) (spell_signature s (spell_method_body body w)) ≡ signature_nests s 0 (method_body_nests body 0 (function_trace form (past_routine (routine r n s body)) w))
block_trace form r n s None w p q lack =
    let rest : List ℕ = 0 ∷ function_trace form (past_routine (routine r n s None)) w in
    machine_depths advance_signature halt_signature (advance_function form) signature_halts (signature_in form r n) signature_depth_at function_depth_at 0 (signature_counts form r n)
    (spell_signature s (punct mark.Semicolon ∷ w)) due_signature s (punct mark.Semicolon) w (past_routine (routine r n s None))
    (ap (λ b. pick b (Some (past_routine (routine r n s None))) None) lack) (signatures_read_back s (punct mark.Semicolon ∷ w) p (ends_at_semicolon s.result w))
    ∙ ap (λ u. shifted 0 u rest) (signature_nesting s (punct mark.Semicolon ∷ w) p (ends_at_semicolon s.result w)) ∙ sym (signature_shift s 0 0 [] rest)
block_trace form r n s (Some ss) w p q lack =
    let inside : List Symbol = spell_statements ss (punct mark.RightBrace ∷ w) in
    let rest : List ℕ = 0 ∷ function_trace form (due_in_body r n s no_statement) inside in
    machine_depths advance_signature halt_signature (advance_function form) signature_halts (signature_in form r n) signature_depth_at function_depth_at 0 (signature_counts form r n)
    (spell_signature s (spell_block ss w)) due_signature s (punct mark.LeftBrace) inside (due_in_body r n s no_statement) refl (signatures_read_back s (spell_block ss w) p (ends_at_brace s.result inside))
    ∙ ap (λ u. shifted 0 u rest) (signature_nesting s (spell_block ss w) p (ends_at_brace s.result inside)) ∙ sym (signature_shift s 0 0 [] rest)
    ∙ ap (λ u. signature_nests s 0 (0 ∷ u)) (body_trace form r n s ss (punct mark.RightBrace ∷ w) q (record { quiet = record { strength = refl; catching = refl }; goes = λ xs. tt }))

name_trace : {N : Type 0} (form : FunctionForm N) (r : Bool) (n : N) (t : Symbol) (w : List Symbol) → form.name_of t ≡ Some n → is_ampersand t ≡ false
    → function_trace form past_function (symbol_if r (punct mark.Ampersand) (t ∷ w)) ≡ nests_if r 0 (0 ∷ function_trace form (in_signature r n due_signature) w)
name_trace form true n t w is apart = ap (λ o. 0 ∷ taken (if_some o (λ x. Some (in_signature true x due_signature))) 0 (λ k. function_trace form k w)) is
name_trace form false n t w is apart =
    ap (λ b. taken (pick b (Some past_function_reference) (named_step form false t)) 0 (λ k. function_trace form k w)) apart
    ∙ ap (λ o. taken (if_some o (λ x. Some (in_signature false x due_signature))) 0 (λ k. function_trace form k w)) is

nothing_taken : {N : Type 0} (form : FunctionForm N) (f : Routine N) (w : List Symbol) → function_trace form (past_routine f) w ≡ []
nothing_taken form f [] = refl
nothing_taken form f (t ∷ w) = refl

pub function_nesting : {N : Type 0} (form : FunctionForm N) (r : Bool) (n : N) (t : Symbol) (s : Signature Nothing) (body : Option (Statements Nothing)) (w : List Symbol)
    → form.name_of t ≡ Some n → is_ampersand t ≡ false → IsProperSignature s → IsProperMethodBody body → MayLack form body
    → function_trace form past_function (symbol_if r (punct mark.Ampersand) (t ∷ spell_signature s (spell_method_body body w))) ≡ nests_if r 0 (0 ∷ signature_nests s 0 (method_body_nests body 0 []))
function_nesting form r n t s body w is apart p q lack =
    name_trace form r n t (spell_signature s (spell_method_body body w)) is apart
    ∙ ap (λ u. nests_if r 0 (0 ∷ u)) (block_trace form r n s body w p q lack ∙ ap (λ u. signature_nests s 0 (method_body_nests body 0 u)) (nothing_taken form (routine r n s body) w))
