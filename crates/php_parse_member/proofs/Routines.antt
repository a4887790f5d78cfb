-- Functions and methods behind the word `function`: a signature and a block, from what their parsers answer.
use Rattle.std.proofs.Common.{◌≡◌, ◌≤◌, ℕ, zero, suc, ◌+◌, Bool, true, false, Option, Some, None, List, [], ◌∷◌, refl, sym, ◌∙◌, ap, subst, arith}
use Rattle.php_token.specs.Token.{Token}
use Rattle.php_token.specs.declared.kind.Punct.TheVariants as mark
use Rattle.php_ast.specs.Symbol.{Symbol, punct}
use Rattle.php_ast.specs.statement.Tree.{Name, Statements, no_statement, and_statement}
use Rattle.php_ast.specs.statement.Spelling.{symbol_if}
use Rattle.php_ast.specs.declaration.Tree.{Signature}
use Rattle.php_grammar.specs.Run.{either, if_some}
use Rattle.php_grammar.specs.TooDeep.{depth_inside}
use Rattle.php_grammar.specs.expression.Role.{is_ampersand, is_left_brace}
use Rattle.php_grammar.specs.expression.Machine.{Nothing, pick}
use Rattle.php_grammar.specs.statement.Role.{StatementBeginning, at_block, statement_beginning, is_semicolon, is_right_brace, name_text}
use Rattle.php_grammar.specs.statement.Forms.{StatementState, due_statement}
use Rattle.php_grammar.specs.statement.Machine.{named_here, begin, advance_statement}
use Rattle.php_grammar.specs.statement.Depth.{begun_depth, statement_depth_at}
use Rattle.php_grammar.specs.declaration.Depth.{function_depth_at}
use Rattle.php_grammar.specs.declaration.SignatureMachine.{due_signature}
use Rattle.php_grammar.specs.declaration.FunctionMachine.{FunctionForm, function_form, method_form, Routine, routine, FunctionState, past_function, past_function_reference, in_signature, due_in_body, in_statement, past_routine, name_here, named_step, body_step, statement_step, block_step, advance_function, halt_function}
use Rattle.php_grammar_laws.specs.Walks.{whole, short, past, resumed, walk_statement, walk_signature, walk_function}
use Rattle.php_grammar_laws.proofs.Instances.{functions_lend_signatures, functions_lend_statements}
use Rattle.php_reader.specs.declared.fail.Stop.{Stop}
use Rattle.php_reader.specs.declared.fail.Stop.TheVariants.{Syntax, TooDeep, NoMemory}
use Rattle.php_reader.specs.Seen.{Shows, rest, test, head_word}
use Rattle.php_parse_simple.specs.Answer.{head_text}
use Rattle.php_parse_signature.specs.Walk as signature
use Rattle.php_parse_signature.specs.Answer as signed
use Rattle.php_parse_simple.specs.Walk as simple
use Rattle.php_parse_statement.specs.Rows.{IsRow, goes_on, is_some, StopsRow, RowStops, RowFails}
use Rattle.php_reader.specs.declared.found.Marked.{Marked}
use Rattle.php_parse_member.specs.Walk.{stopped}
use Rattle.php_parse_member.specs.Answer.{Fails, SeesReference, behind_signature, walk_body}
use Rattle.php_parse_member.proofs.Moves.{go, sinks, sticks, alike, past_same, past_on, NoneEnds, past_stuck, resumed_stopped}

-- ---- one symbol

pub moves : {N : Type 0} (form : FunctionForm N) (n : ℕ) (m to : FunctionState N) (t : Symbol) (w : List Symbol) → advance_function form m t ≡ Some to → function_depth_at m t ≤ n
    → walk_function form n m (t ∷ w) ≡ walk_function form n to w
moves form n m to t w is low = go (advance_function form) function_depth_at (halt_function form) n m to t w is low

pub over : {N : Type 0} (form : FunctionForm N) (n : ℕ) (f : Routine N) (v : List Symbol) → walk_function form n (past_routine f) v ≡ whole f v
over form n f [] = refl
over form n f (t ∷ v) = refl

-- ---- the name

pub named : {N : Type 0} (form : FunctionForm N) (n : ℕ) (stands : Bool) (x : N) (t : Symbol) (w : List Symbol) → form.name_of t ≡ Some x → (stands ≡ false → is_ampersand t ≡ false)
    → walk_function form n past_function (symbol_if stands (punct mark.Ampersand) (t ∷ w)) ≡ walk_function form n (in_signature stands x due_signature) w
named form n true x t w is absent =
    moves form n past_function past_function_reference (punct mark.Ampersand) (t ∷ w) refl (omega arith)
    ∙ moves form n past_function_reference (in_signature true x due_signature) t w (ap (λ o. if_some o (λ z. Some (in_signature true z due_signature))) is) (omega arith)
named form n false x t w is absent =
    moves form n past_function (in_signature false x due_signature) t w
    (ap (λ b. pick b (Some past_function_reference) (named_step form false t)) (absent refl) ∙ ap (λ o. if_some o (λ z. Some (in_signature false z due_signature))) is) (omega arith)

-- no name
abbrev pub NameAbsent : {N : Type 0} → FunctionForm N → List Symbol → Type 0
NameAbsent form [] = Unit {0}
NameAbsent form (t ∷ w) = form.name_of t ≡ None

pub unnamed : {N : Type 0} (form : FunctionForm N) (n : ℕ) (stands : Bool) (x : List Symbol) → NameAbsent form x → (stands ≡ false → test is_ampersand x ≡ false)
    → walk_function form n past_function (symbol_if stands (punct mark.Ampersand) x) ≡ short x
unnamed form n true [] is absent = moves form n past_function past_function_reference (punct mark.Ampersand) [] refl (omega arith)
unnamed form n true (t ∷ w) is absent =
    moves form n past_function past_function_reference (punct mark.Ampersand) (t ∷ w) refl (omega arith)
    ∙ sticks (advance_function form) function_depth_at (halt_function form) n past_function_reference t w (ap (λ o. if_some o (λ z. Some (in_signature true z due_signature))) is)
unnamed form n false [] is absent = refl
unnamed form n false (t ∷ w) is absent =
    sticks (advance_function form) function_depth_at (halt_function form) n past_function t w
    (ap (λ b. pick b (Some past_function_reference) (named_step form false t)) (absent refl) ∙ ap (λ o. if_some o (λ z. Some (in_signature false z due_signature))) is)

-- ---- the signature

pub signature_reads : {N : Type 0} (form : FunctionForm N) (n : ℕ) (r : Bool) (x : N) (s : Signature Nothing) (w v : List Symbol) → walk_signature n due_signature w ≡ whole s v
    → walk_function form n (in_signature r x due_signature) w ≡ behind_signature form r x s n v
signature_reads form n r x s w v read =
    functions_lend_signatures form n r x due_signature w ∙ ap (resumed (λ z. past (λ t. body_step form r x z t) (walk_function form n) short)) read

pub signature_stops : {N : Type 0} (form : FunctionForm N) (n : ℕ) (too_deep : Bool) (r : Bool) (x : N) (w v : List Symbol) → walk_signature n due_signature w ≡ stopped too_deep v
    → walk_function form n (in_signature r x due_signature) w ≡ stopped too_deep v
signature_stops form n too_deep r x w v read = functions_lend_signatures form n r x due_signature w ∙ resumed_stopped too_deep _ (walk_signature n due_signature w) v read

stopped_same : (too_deep : Bool) (v : List Symbol) → signature.stopped too_deep v ≡ stopped too_deep v
stopped_same true v = refl
stopped_same false v = refl

-- where the signature fails, from the `&` on
pub signature_fails : {N : Type 0} (form : FunctionForm N) (room : ℕ) (stands : Bool) (x : N) (t : Symbol) (y w : List Symbol) (tokens : List Token) (at start : ℕ) (e : Stop)
    → y ≡ symbol_if stands (punct mark.Ampersand) (t ∷ w) → form.name_of t ≡ Some x → (stands ≡ false → is_ampersand t ≡ false) → at ≤ start
    → signed.Fails room due_signature w tokens start e → Fails (walk_function form) room past_function y tokens at e
signature_fails form room stands x t y w tokens at start (Syntax k) is named_is absent ahead r = record {
  halts = record {
    same = λ n at. ap (walk_function form n past_function) is ∙ named form n stands x t w named_is absent
        ∙ signature_stops form n false stands x w (rest tokens k) (r.halts.same n at ∙ stopped_same false (rest tokens k));
  };
  ahead = omega (arith, ahead, r.ahead);
  within = r.within;
}
signature_fails form room stands x t y w tokens at start (TooDeep k) is named_is absent ahead r = record {
  halts = record {
    same = λ n at. ap (walk_function form n past_function) is ∙ named form n stands x t w named_is absent
        ∙ signature_stops form n true stands x w (rest tokens k) (r.halts.same n at ∙ stopped_same true (rest tokens k));
  };
  ahead = omega (arith, ahead, r.ahead);
  within = r.within;
}
signature_fails form room stands x t y w tokens at start NoMemory is named_is absent ahead r = tt

-- ---- statements of a block

either_none : {A : Type 0} (o : Option A) → either o None ≡ o
either_none (Some x) = refl
either_none None = refl

outermost : (x : StatementBeginning) → begun_depth x [] ≡ 0
outermost at_block = refl
outermost _ = refl

inside_one : (o : Option StatementState) (d : ℕ) → d ≡ 0 → 1 ≡ depth_inside o d 1
inside_one (Some m) d is = omega (arith, is)
inside_one None d is = refl

-- Where the block doesn't end, a statement is due.
in_block : {N : Type 0} (form : FunctionForm N) (n : ℕ) (r : Bool) (x : N) (s : Signature Nothing) (ss : Statements Nothing) (u : List Symbol) → test is_right_brace u ≡ false
    → walk_function form n (due_in_body r x s ss) u ≡ walk_function form n (in_statement r x s ss (due_statement [])) u
in_block form n r x s ss [] h = refl
in_block form n r x s ss (t ∷ u) h =
    alike (advance_function form) function_depth_at (halt_function form) n (due_in_body r x s ss) (in_statement r x s ss (due_statement [])) t u
    (ap (λ b. pick b (Some (past_routine (routine r x s (Some ss)))) (statement_step r x s ss (due_statement []) t)) h ∙ sym (either_none (statement_step r x s ss (due_statement []) t)))
    (inside_one (advance_statement (due_statement []) t) (statement_depth_at (due_statement []) t) (outermost (statement_beginning t)))
    refl

-- a statement inside, one level deeper
lend_at : {N : Type 0} (form : FunctionForm N) (n top : ℕ) (r : Bool) (x : N) (s : Signature Nothing) (ss : Statements Nothing) (m : StatementState) (w : List Symbol) → top ≡ n + 1
    → walk_function form top (in_statement r x s ss m) w ≡ resumed (λ a. past (λ t. block_step r x s (and_statement ss a) t) (walk_function form top) short) (walk_statement n m w)
lend_at form n top r x s ss m w is =
    subst (λ k. walk_function form k (in_statement r x s ss m) w ≡ resumed (λ a. past (λ t. block_step r x s (and_statement ss a) t) (walk_function form k) short) (walk_statement n m w)) (sym is)
    (functions_lend_statements form n r x s ss m w)

row_walk : {N : Type 0} (form : FunctionForm N) (n top : ℕ) (r : Bool) (x : N) (s : Signature Nothing) (ss : Statements Nothing) (w v : List Symbol) → top ≡ n + 1 → IsRow n w ss v
    → walk_function form top (due_in_body r x s no_statement) w ≡ walk_function form top (due_in_body r x s ss) v
row_walk form n top r x s no_statement w v is row = ap (walk_function form top (due_in_body r x s no_statement)) row
row_walk form n top r x s (and_statement ss a) w v is row =
    row_walk form n top r x s ss w row.0 is row.1.0
    ∙ in_block form top r x s ss row.0 row.1.1.no_brace
    ∙ lend_at form n top r x s ss (due_statement []) row.0 is
    ∙ ap (resumed (λ z. past (λ t. block_step r x s (and_statement ss z) t) (walk_function form top) short)) row.1.1.reads
    ∙ past_same (advance_function form) function_depth_at (halt_function form) top (due_in_body r x s (and_statement ss a)) v (λ t. omega (arith, is)) (λ u. refl)

row_whole : {N : Type 0} (form : FunctionForm N) (n top : ℕ) (r : Bool) (x : N) (s : Signature Nothing) (ss : Statements Nothing) (w v : List Symbol) → top ≡ n + 1 → IsRow n w ss (punct mark.RightBrace ∷ v)
    → walk_function form top (due_in_body r x s no_statement) w ≡ whole (routine r x s (Some ss)) v
row_whole form n top r x s ss w v is row =
    row_walk form n top r x s ss w (punct mark.RightBrace ∷ v) is row
    ∙ moves form top (due_in_body r x s ss) (past_routine (routine r x s (Some ss))) (punct mark.RightBrace) v refl (omega (arith, is))
    ∙ over form top (routine r x s (Some ss)) v

row_stops : {N : Type 0} (form : FunctionForm N) (n top : ℕ) (too_deep : Bool) (r : Bool) (x : N) (s : Signature Nothing) (w v : List Symbol) → top ≡ n + 1 → StopsRow too_deep n w v
    → walk_function form top (due_in_body r x s no_statement) w ≡ stopped too_deep v
row_stops form n top too_deep r x s w v is row =
    row_walk form n top r x s row.statements w row.mid is row.row
    ∙ in_block form top r x s row.statements row.mid row.no_brace
    ∙ lend_at form n top r x s row.statements (due_statement []) row.mid is
    ∙ stop_by too_deep row.halts
  where
    stop_by : (b : Bool) → walk_statement n (due_statement []) row.mid ≡ simple.stopped b v
        → resumed (λ a. past (λ t. block_step r x s (and_statement row.statements a) t) (walk_function form top) short) (walk_statement n (due_statement []) row.mid) ≡ stopped b v
    stop_by true h = ap (resumed (λ a. past (λ t. block_step r x s (and_statement row.statements a) t) (walk_function form top) short)) h
    stop_by false h = ap (resumed (λ a. past (λ t. block_step r x s (and_statement row.statements a) t) (walk_function form top) short)) h

-- where no level is left
sunk_by : {N : Type 0} (form : FunctionForm N) (b : Bool) (o : Option StatementState) (too_deep : Bool) (r : Bool) (x : N) (s : Signature Nothing) (t : Symbol) (u : List Symbol) → is_right_brace t ≡ b → begin [] t ≡ o → pick b true (is_some o) ≡ too_deep
    → walk_function form 0 (due_in_body r x s no_statement) (t ∷ u) ≡ stopped too_deep (t ∷ u)
sunk_by form true o true r x s t u brace is h =
    sinks (advance_function form) function_depth_at (halt_function form) 0 (due_in_body r x s no_statement) (past_routine (routine r x s (Some no_statement))) t u
    (ap (λ z. pick z (Some (past_routine (routine r x s (Some no_statement)))) (statement_step r x s no_statement (due_statement []) t)) brace) (omega arith)
sunk_by form true o false r x s t u brace is h = cc
sunk_by form false (Some m) true r x s t u brace is h =
    sinks (advance_function form) function_depth_at (halt_function form) 0 (due_in_body r x s no_statement) (in_statement r x s no_statement m) t u
    (ap (λ z. pick z (Some (past_routine (routine r x s (Some no_statement)))) (statement_step r x s no_statement (due_statement []) t)) brace
    ∙ ap (λ z. if_some z (λ next. Some (in_statement r x s no_statement next))) is) (omega arith)
sunk_by form false (Some m) false r x s t u brace is h = cc
sunk_by form false None true r x s t u brace is h = cc
sunk_by form false None false r x s t u brace is h =
    sticks (advance_function form) function_depth_at (halt_function form) 0 (due_in_body r x s no_statement) t u
    (ap (λ z. pick z (Some (past_routine (routine r x s (Some no_statement)))) (statement_step r x s no_statement (due_statement []) t)) brace
    ∙ ap (λ z. if_some z (λ next. Some (in_statement r x s no_statement next))) is)

sunk : {N : Type 0} (form : FunctionForm N) (too_deep : Bool) (r : Bool) (x : N) (s : Signature Nothing) (u : List Symbol) → test goes_on u ≡ too_deep → walk_function form 0 (due_in_body r x s no_statement) u ≡ stopped too_deep u
sunk form true r x s [] h = cc
sunk form false r x s [] h = refl
sunk form too_deep r x s (t ∷ u) h = sunk_by form (is_right_brace t) (begin [] t) too_deep r x s t u refl refl h

-- ---- the block behind a signature

brace_is : (t : Symbol) → is_left_brace t ≡ true → t ≡ punct mark.LeftBrace
brace_is (punct mark.LeftBrace) h = refl
brace_is _ h = cc

opens : {N : Type 0} (form : FunctionForm N) (n : ℕ) (r : Bool) (x : N) (s : Signature Nothing) (t : Symbol) (y w : List Symbol) → y ≡ t ∷ w → is_left_brace t ≡ true
    → behind_signature form r x s n y ≡ walk_function form n (due_in_body r x s no_statement) w
opens form n r x s t y w is brace =
    past_on (λ u. body_step form r x s u) (walk_function form n) (due_in_body r x s no_statement) t y w is
    (ap (λ b. pick b (Some (due_in_body r x s no_statement)) (pick (is_semicolon t) (pick form.may_lack (Some (past_routine (routine r x s None))) None) None)) brace)

pub block_reads : {N : Type 0} (form : FunctionForm N) (room n : ℕ) (r : Bool) (x : N) (s : Signature Nothing) (ss : Statements Nothing) (t : Symbol) (y w v : List Symbol) → y ≡ t ∷ w → is_left_brace t ≡ true
    → 2 ≤ room → ((k : ℕ) → room ≡ suc (suc k) → IsRow k w ss (punct mark.RightBrace ∷ v)) → room ≡ suc n → behind_signature form r x s n y ≡ whole (routine r x s (Some ss)) v
block_reads form room zero r x s ss t y w v is brace low row at = absurd (omega (arith, low, at))
block_reads form room (suc k) r x s ss t y w v is brace low row at = opens form (suc k) r x s t y w is brace ∙ row_whole form k (suc k) r x s ss w v (omega arith) (row k at)

block_stops : {N : Type 0} (form : FunctionForm N) (room n : ℕ) (too_deep : Bool) (r : Bool) (x : N) (s : Signature Nothing) (t : Symbol) (y : List Symbol) (tokens : List Token) (at k : ℕ) → y ≡ t ∷ rest tokens at → is_left_brace t ≡ true
    → RowStops too_deep room tokens at k → room ≡ suc n → behind_signature form r x s n y ≡ stopped too_deep (rest tokens k)
block_stops form room zero too_deep r x s t y tokens at k is brace stops here =
    let none = stops.none here in
    opens form zero r x s t y (rest tokens at) is brace ∙ sunk form too_deep r x s (rest tokens at) none.1 ∙ ap (λ z. stopped too_deep (rest tokens z)) none.0
block_stops form room (suc n) too_deep r x s t y tokens at k is brace stops here =
    opens form (suc n) r x s t y (rest tokens at) is brace ∙ row_stops form n (suc n) too_deep r x s (rest tokens at) (rest tokens k) (omega arith) (stops.inside n here)

pub block_fails : {N : Type 0} (form : FunctionForm N) (room : ℕ) (r : Bool) (x : N) (s : Signature Nothing) (t : Symbol) (y : List Symbol) (tokens : List Token) (at start : ℕ) (e : Stop) → y ≡ t ∷ rest tokens start → is_left_brace t ≡ true → at ≤ start
    → RowFails room tokens start e → Fails (walk_body form r x s) room tt y tokens at e
block_fails form room r x s t y tokens at start (Syntax k) is brace ahead stops =
    record { halts = record { same = λ n here. block_stops form room n false r x s t y tokens start k is brace stops here }; ahead = omega (arith, ahead, stops.ahead); within = stops.within }
block_fails form room r x s t y tokens at start (TooDeep k) is brace ahead stops =
    record { halts = record { same = λ n here. block_stops form room n true r x s t y tokens start k is brace stops here }; ahead = omega (arith, ahead, stops.ahead); within = stops.within }
block_fails form room r x s t y tokens at start NoMemory is brace ahead stops = tt

-- ---- `;` in its place, and neither

pub semicolon_reads : (n : ℕ) (r : Bool) {N : Type 0} (form : FunctionForm N) (x : N) (s : Signature Nothing) (t : Symbol) (y v : List Symbol) → form.may_lack ≡ true → y ≡ t ∷ v → is_semicolon t ≡ true
    → behind_signature form r x s n y ≡ whole (routine r x s None) v
semicolon_reads n r form x s t y v lack is ends =
    past_on (λ u. body_step form r x s u) (walk_function form n) (past_routine (routine r x s None)) t y v is (on t ends) ∙ over form n (routine r x s None) v
  where
    on : (u : Symbol) → is_semicolon u ≡ true → body_step form r x s u ≡ Some (past_routine (routine r x s None))
    on (punct mark.Semicolon) h = ap (λ b. pick b (Some (past_routine (routine r x s None))) None) lack
    on _ h = cc

none_by : {N : Type 0} (form : FunctionForm N) (r : Bool) (x : N) (s : Signature Nothing) (w : List Symbol) → test is_left_brace w ≡ false → test is_semicolon w ≡ false → NoneEnds (λ t. body_step form r x s t) w
none_by form r x s [] p q = tt
none_by form r x s (t ∷ w) p q =
    ap (λ b. pick b (Some (due_in_body r x s no_statement)) (pick (is_semicolon t) (pick form.may_lack (Some (past_routine (routine r x s None))) None) None)) p
    ∙ ap (λ b. pick b (pick form.may_lack (Some (past_routine (routine r x s None))) None) None) q

pub body_lacks : {N : Type 0} (form : FunctionForm N) (n : ℕ) (r : Bool) (x : N) (s : Signature Nothing) (w : List Symbol) → test is_left_brace w ≡ false → test is_semicolon w ≡ false → behind_signature form r x s n w ≡ short w
body_lacks form n r x s w p q = past_stuck (λ t. body_step form r x s t) (walk_function form n) w (none_by form r x s w p q)

-- a function has a block
pick_none : {A : Type 0} (b : Bool) (o : Option A) → o ≡ None → pick b o None ≡ None
pick_none true o is = is
pick_none false o is = refl

function_none : (r : Bool) (x : Name Nothing) (s : Signature Nothing) (w : List Symbol) → test is_left_brace w ≡ false → NoneEnds (λ t. body_step function_form r x s t) w
function_none r x s [] p = tt
function_none r x s (t ∷ w) p =
    ap (λ b. pick b (Some (due_in_body r x s no_statement)) (pick (is_semicolon t) None None)) p ∙ pick_none (is_semicolon t) None refl

pub function_lacks : (n : ℕ) (r : Bool) (x : Name Nothing) (s : Signature Nothing) (w : List Symbol) → test is_left_brace w ≡ false → behind_signature function_form r x s n w ≡ short w
function_lacks n r x s w p = past_stuck (λ t. body_step function_form r x s t) (walk_function function_form n) w (function_none r x s w p)

-- ---- from the body to the whole

-- a failure of the body, behind the signature
pub body_fails : {N : Type 0} (form : FunctionForm N) (room : ℕ) (r : Bool) (x : N) (s : Signature Nothing) (y w : List Symbol) (tokens : List Token) (at start : ℕ) (e : Stop) → at ≤ start
    → ((n : ℕ) → room ≡ suc n → walk_function form n past_function y ≡ behind_signature form r x s n w) → Fails (walk_body form r x s) room tt w tokens start e → Fails (walk_function form) room past_function y tokens at e
body_fails form room r x s y w tokens at start (Syntax k) ahead reads f = record { halts = record { same = λ n is. reads n is ∙ f.halts.same n is }; ahead = omega (arith, ahead, f.ahead); within = f.within }
body_fails form room r x s y w tokens at start (TooDeep k) ahead reads f = record { halts = record { same = λ n is. reads n is ∙ f.halts.same n is }; ahead = omega (arith, ahead, f.ahead); within = f.within }
body_fails form room r x s y w tokens at start NoMemory ahead reads f = tt

-- ---- `&` and the name, from what the parser saw

pub name_found : (t : Symbol) (text : List ℕ) → name_text t ≡ Some text → name_here t ≡ Some (named_here text)
name_found t text is = ap (λ o. if_some o (λ z. Some (named_here z))) is

pub function_unnamed : (tokens : List Token) (at : ℕ) → head_text name_text (rest tokens at) ≡ None → NameAbsent function_form (rest tokens at)
function_unnamed tokens at h = unnamed_by (rest tokens at) h
  where
    unnamed_by : (w : List Symbol) → head_text name_text w ≡ None → NameAbsent function_form w
    unnamed_by [] g = tt
    unnamed_by (t ∷ w) g = ap (λ o. if_some o (λ z. Some (named_here z))) g

pub method_unnamed : (tokens : List Token) (at : ℕ) → head_word (rest tokens at) ≡ None → NameAbsent method_form (rest tokens at)
method_unnamed tokens at h = unnamed_by (rest tokens at) h
  where
    unnamed_by : (w : List Symbol) → head_word w ≡ None → NameAbsent method_form w
    unnamed_by [] g = tt
    unnamed_by (t ∷ w) g = g

apart : (tokens : List Token) (at : ℕ) (m : Marked) (t : Symbol) → SeesReference tokens at m → rest tokens m.next ≡ t ∷ rest tokens (m.next + 1) → m.stands ≡ false → is_ampersand t ≡ false
apart tokens at m t o is none = sym (ap (test is_ampersand) is) ∙ o.absent none

pub marked_reads : {N : Type 0} (form : FunctionForm N) (n : ℕ) (tokens : List Token) (at : ℕ) (m : Marked) (x : N) (s : Signature Nothing) (t : Symbol) (v : List Symbol) → SeesReference tokens at m
    → rest tokens m.next ≡ t ∷ rest tokens (m.next + 1) → form.name_of t ≡ Some x → walk_signature n due_signature (rest tokens (m.next + 1)) ≡ whole s v
    → walk_function form n past_function (rest tokens at) ≡ behind_signature form m.stands x s n v
marked_reads form n tokens at m x s t v o is named_is read =
    ap (walk_function form n past_function) (o.spelled ∙ ap (symbol_if m.stands (punct mark.Ampersand)) is)
    ∙ named form n m.stands x t (rest tokens (m.next + 1)) named_is (apart tokens at m t o is)
    ∙ signature_reads form n m.stands x s (rest tokens (m.next + 1)) v read

pub marked_lacks : {N : Type 0} (form : FunctionForm N) (room : ℕ) (tokens : List Token) (at : ℕ) (m : Marked) → SeesReference tokens at m → NameAbsent form (rest tokens m.next)
    → Fails (walk_function form) room past_function (rest tokens at) tokens at (Syntax m.next)
marked_lacks form room tokens at m o none = record {
  halts = record { same = λ n is. ap (walk_function form n past_function) o.spelled ∙ unnamed form n m.stands (rest tokens m.next) none o.absent };
  ahead = omega (arith, o.sized);
  within = o.within;
}

pub marked_fails : {N : Type 0} (form : FunctionForm N) (room : ℕ) (tokens : List Token) (at : ℕ) (m : Marked) (x : N) (t : Symbol) (e : Stop) → SeesReference tokens at m → rest tokens m.next ≡ t ∷ rest tokens (m.next + 1)
    → form.name_of t ≡ Some x → signed.Fails room due_signature (rest tokens (m.next + 1)) tokens (m.next + 1) e → Fails (walk_function form) room past_function (rest tokens at) tokens at e
marked_fails form room tokens at m x t e o is named_is f =
    signature_fails form room m.stands x t (rest tokens at) (rest tokens (m.next + 1)) tokens at (m.next + 1) e (o.spelled ∙ ap (symbol_if m.stands (punct mark.Ampersand)) is) named_is (apart tokens at m t o is)
    (omega (arith, o.sized)) f

ampersand_is : (t : Symbol) → is_ampersand t ≡ true → t ≡ punct mark.Ampersand
ampersand_is (punct mark.Ampersand) h = refl
ampersand_is _ h = cc

pub ampersand_shown : (tokens : List Token) (at : ℕ) → Shows is_ampersand tokens at true → rest tokens at ≡ punct mark.Ampersand ∷ rest tokens (at + 1)
ampersand_shown tokens at o = o.stands.is ∙ ap (λ t. t ∷ rest tokens (at + 1)) (ampersand_is o.token o.role_is)
