-- The laws of the machine of functions and methods.
use Rattle.std.proofs.Common.{◌≡◌, Bool, true, false, Option, Some, None, List, [], ◌∷◌, ◌++◌, refl, sym, ◌∙◌, ap}
use Rattle.php_token.specs.declared.kind.Punct.TheVariants as mark
use Rattle.php_ast.specs.Symbol.{Symbol, punct}
use Rattle.php_ast.specs.expression.Tree as tree
use Rattle.php_ast.specs.statement.Tree.{Name, Statements, no_statement, and_statement}
use Rattle.php_ast.specs.statement.Spelling.{symbol_if, spell_statement, spell_statements}
use Rattle.php_ast.specs.statement.Proper.{AreProper}
use Rattle.php_ast.specs.declaration.Tree.{Signature}
use Rattle.php_ast.specs.declaration.Spelling.{spell_signature, spell_method_body}
use Rattle.php_ast.specs.declaration.Proper.{IsProperSignature, IsProperMethodBody}
use Rattle.php_grammar.specs.Run.{if_some}
use Rattle.php_grammar.specs.expression.Role.{is_ampersand, is_left_brace}
use Rattle.php_grammar.specs.expression.Machine.{Nothing, pick}
use Rattle.php_grammar.specs.statement.Role.{is_semicolon, is_right_brace}
use Rattle.php_grammar.specs.statement.Forms.{StatementState, due_statement}
use Rattle.php_grammar.specs.statement.Laws.{SpellsStatement}
use Rattle.php_grammar.specs.statement.Machine.{advance_statement}
use Rattle.php_grammar.specs.statement.Reading.{halt_statement}
use Rattle.php_grammar.specs.declaration.Laws.{SpellsSignature}
use Rattle.php_grammar.specs.declaration.SignatureMachine.{SignatureState, due_signature, advance_signature, halt_signature, any_word}
use Rattle.php_grammar.specs.declaration.FunctionMachine.{FunctionForm, function_form, method_form, Routine, routine, FunctionState, past_function, past_function_reference, in_signature, due_in_body, in_statement, past_routine, named_step, body_step, statement_step, block_step, advance_function, least_body, least_body_rest, behind_name, unnamed, halt_function}
use Rattle.php_grammar.proofs.expression.Roles.{ampersand_says, left_brace_says}
use Rattle.php_grammar.proofs.declaration.FunctionBack as back
use Rattle.php_grammar.proofs.declaration.FunctionBack.{function_halts, functions_read_back}
use Rattle.php_grammar_laws.specs.Functions.{MayLack, spell_routine, SpellsRoutine, read_routine, RoutineReadingBegins, ReadsRoutinesBack, OneRoutine, UnfinishedRoutine, RoutineStopsExactly, FunctionReadingBegins, ReadsFunctionsBack, OneFunction, UnfinishedFunction, FunctionStopsExactly, MethodReadingBegins, ReadsMethodsBack, OneMethod, UnfinishedMethod, MethodStopsExactly}
use Rattle.php_grammar_laws.proofs.Stops.{LeavesUnread, stops_exactly_by, unfinished_by}
use Rattle.php_grammar_laws.proofs.Appends.{Appends, nothing, both, before, behind, in_front, if_appends, statements_appends, statement_appends}
use Rattle.php_grammar_laws.proofs.Begins.{Front, Same, with_one, next, Leads, pick_leads, Begins, begins_by, front_ends, one_appends, lent_leads, inner_leads}
use Rattle.php_grammar_laws.proofs.Says.{test_is, semicolon_says, right_brace_says}
use Rattle.php_grammar_laws.proofs.statement.Sound.{Reached}
use Rattle.php_grammar_laws.proofs.statement.Places.{steps_lead}
use Rattle.php_grammar_laws.proofs.statement.Laws.{halts_spelled}
use Rattle.php_grammar_laws.proofs.declaration.Signatures.{ReachedSignature, signature_leads, signature_spelled, signature_appends}

-- ---- what the states stand for

-- up to the signature
abbrev name_front : Bool → Symbol → Front
name_front r called w = symbol_if r (punct mark.Ampersand) (called ∷ w)

abbrev block_front : Bool → Symbol → Signature Nothing → Statements Nothing → Front
block_front r called s ss w = name_front r called (spell_signature s (punct mark.LeftBrace ∷ spell_statements ss w))

pub record InSignature {N : Type 0} (form : FunctionForm N) (r : Bool) (n : N) (m : SignatureState) (f : Front) : Type 0 where
  pub called : Symbol
  pub named : form.name_of called ≡ Some n
  pub inner : Front
  pub appends : Appends inner
  pub reached : ReachedSignature m inner
  pub same : Same (λ w. name_front r called (inner w)) f

pub record InBody {N : Type 0} (form : FunctionForm N) (r : Bool) (n : N) (s : Signature Nothing) (ss : Statements Nothing) (f : Front) : Type 0 where
  pub called : Symbol
  pub named : form.name_of called ≡ Some n
  pub signature : IsProperSignature s
  pub body : AreProper ss
  pub same : Same (block_front r called s ss) f

pub record InStatement {N : Type 0} (form : FunctionForm N) (r : Bool) (n : N) (s : Signature Nothing) (ss : Statements Nothing) (m : StatementState) (f : Front) : Type 0 where
  pub called : Symbol
  pub named : form.name_of called ≡ Some n
  pub signature : IsProperSignature s
  pub body : AreProper ss
  pub inner : Front
  pub appends : Appends inner
  pub reached : Reached m inner
  pub same : Same (λ w. block_front r called s ss (inner w)) f

pub record PastRoutine {N : Type 0} (form : FunctionForm N) (x : Routine N) (f : Front) : Type 0 where
  pub called : Symbol
  pub named : form.name_of called ≡ Some x.name
  pub signature : IsProperSignature x.signature
  pub body : IsProperMethodBody x.body
  pub may_lack : MayLack form x.body
  pub same : Same (spell_routine called x) f

abbrev pub ReachedFunction : {N : Type 0} → FunctionForm N → FunctionState N → Front → Type 0
ReachedFunction form past_function f = Same (λ w. w) f
ReachedFunction form past_function_reference f = Same (λ w. punct mark.Ampersand ∷ w) f
ReachedFunction form (in_signature r n m) f = InSignature form r n m f
ReachedFunction form (due_in_body r n s ss) f = InBody form r n s ss f
ReachedFunction form (in_statement r n s ss m) f = InStatement form r n s ss m f
ReachedFunction form (past_routine x) f = PastRoutine form x f

-- ---- steps

named_by : {N : Type 0} (form : FunctionForm N) (r : Bool) (t : Symbol) (f : Front) (o : Option N) → form.name_of t ≡ o → Same (λ w. symbol_if r (punct mark.Ampersand) w) f
    → Leads (ReachedFunction form) (with_one f t) (if_some o (λ n. Some (in_signature r n due_signature)))
named_by form r t f None is same = tt
named_by form r t f (Some n) is same =
    record { called = t; named = is; inner = λ w. w; appends = nothing; reached = (tt, λ w. refl); same = λ w. same (t ∷ w) }

named_leads : {N : Type 0} (form : FunctionForm N) (r : Bool) (t : Symbol) (f : Front) → Same (λ w. symbol_if r (punct mark.Ampersand) w) f → Leads (ReachedFunction form) (with_one f t) (named_step form r t)
named_leads form r t f same = named_by form r t f (form.name_of t) refl same

-- behind a whole signature
pub record Signed {N : Type 0} (form : FunctionForm N) (r : Bool) (n : N) (s : Signature Nothing) (f : Front) : Type 0 where
  pub called : Symbol
  pub named : form.name_of called ≡ Some n
  pub signature : IsProperSignature s
  pub same : Same (λ w. name_front r called (spell_signature s w)) f

lacking_leads : {N : Type 0} (form : FunctionForm N) (b : Bool) (r : Bool) (n : N) (s : Signature Nothing) (t : Symbol) (f : Front) → form.may_lack ≡ b → t ≡ punct mark.Semicolon → Signed form r n s f
    → Leads (ReachedFunction form) (with_one f t) (pick b (Some (past_routine (routine r n s None))) None)
lacking_leads form false r n s t f lack is h = tt
lacking_leads form true r n s t f lack is h = record {
  called = h.called;
  named = h.named;
  signature = h.signature;
  body = tt;
  may_lack = lack;
  same = λ w. next (λ v. name_front r h.called (spell_signature s v)) f t (punct mark.Semicolon) is h.same w;
}

body_leads : {N : Type 0} (form : FunctionForm N) (r : Bool) (n : N) (s : Signature Nothing) (t : Symbol) (f : Front) → Signed form r n s f → Leads (ReachedFunction form) (with_one f t) (body_step form r n s t)
body_leads form r n s t f h =
    pick_leads (ReachedFunction form) (with_one f t) (is_left_brace t) (Some (due_in_body r n s no_statement))
    (pick (is_semicolon t) (pick form.may_lack (Some (past_routine (routine r n s None))) None) None)
    (λ b. record {
      called = h.called;
      named = h.named;
      signature = h.signature;
      body = tt;
      same = λ w. next (λ v. name_front r h.called (spell_signature s v)) f t (punct mark.LeftBrace) (test_is (is_left_brace t) t (punct mark.LeftBrace) (left_brace_says t) b) h.same w;
    })
    (λ b. pick_leads (ReachedFunction form) (with_one f t) (is_semicolon t) (pick form.may_lack (Some (past_routine (routine r n s None))) None) None
    (λ c. lacking_leads form form.may_lack r n s t f refl (test_is (is_semicolon t) t (punct mark.Semicolon) (semicolon_says t) c) h) (λ c. tt))

statement_leads : {N : Type 0} (form : FunctionForm N) (r : Bool) (n : N) (s : Signature Nothing) (ss : Statements Nothing) (t : Symbol) (f : Front) → InBody form r n s ss f
    → Leads (ReachedFunction form) (with_one f t) (statement_step r n s ss (due_statement []) t)
statement_leads form r n s ss t f h =
    lent_leads advance_statement Reached (Leads (ReachedFunction form) (with_one f t)) steps_lead (due_statement []) (λ w. w) t (λ k. in_statement r n s ss k) (tt, λ w. refl)
    (λ k g. record {
      called = h.called;
      named = h.named;
      signature = h.signature;
      body = h.body;
      inner = with_one (λ w. w) t;
      appends = one_appends t nothing;
      reached = g;
      same = λ w. h.same (t ∷ w);
    })
    tt

block_leads : {N : Type 0} (form : FunctionForm N) (r : Bool) (n : N) (s : Signature Nothing) (ss : Statements Nothing) (t : Symbol) (f : Front) → InBody form r n s ss f
    → Leads (ReachedFunction form) (with_one f t) (block_step r n s ss t)
block_leads form r n s ss t f h =
    pick_leads (ReachedFunction form) (with_one f t) (is_right_brace t) (Some (past_routine (routine r n s (Some ss)))) (statement_step r n s ss (due_statement []) t)
    (λ b. record {
      called = h.called;
      named = h.named;
      signature = h.signature;
      body = h.body;
      may_lack = tt;
      same = λ w. next (block_front r h.called s ss) f t (punct mark.RightBrace) (test_is (is_right_brace t) t (punct mark.RightBrace) (right_brace_says t) b) h.same w;
    })
    (λ b. statement_leads form r n s ss t f h)

-- what a whole inner tree stands for
pub whole_front : {A : Type 0} (spelled : A → Front) (a : A) (g : Front) → Appends (spelled a) → Appends g → spelled a [] ≡ g [] → (w : List Symbol) → spelled a w ≡ g w
whole_front spelled a g s h is w = front_ends spelled a g [] w s h is

pub function_leads : {N : Type 0} (form : FunctionForm N) (m : FunctionState N) (f : Front) (t : Symbol) → ReachedFunction form m f → Leads (ReachedFunction form) (with_one f t) (advance_function form m t)
function_leads form past_function f t h =
    pick_leads (ReachedFunction form) (with_one f t) (is_ampersand t) (Some past_function_reference) (named_step form false t)
    (λ b. λ w. next (λ v. v) f t (punct mark.Ampersand) (test_is (is_ampersand t) t (punct mark.Ampersand) (ampersand_says t) b) h w) (λ b. named_leads form false t f h)
function_leads form past_function_reference f t h = named_leads form true t f h
function_leads form (in_signature r n m) f t h =
    inner_leads advance_signature halt_signature SpellsSignature ReachedSignature (Leads (ReachedFunction form) (with_one f t)) signature_spelled signature_leads m h.inner t
    (λ k. in_signature r n k) (λ s. body_step form r n s t) h.reached
    (λ k g. record { called = h.called; named = h.named; inner = with_one h.inner t; appends = one_appends t h.appends; reached = g; same = λ w. h.same (t ∷ w) })
    (λ s good. body_leads form r n s t f (record {
      called = h.called;
      named = h.named;
      signature = good.0;
      same = λ w. ap (name_front r h.called) (whole_front spell_signature s h.inner (signature_appends s) h.appends good.1 w) ∙ h.same w;
    }))
    tt
function_leads form (due_in_body r n s ss) f t h = block_leads form r n s ss t f h
function_leads form (in_statement r n s ss m) f t h =
    inner_leads advance_statement halt_statement SpellsStatement Reached (Leads (ReachedFunction form) (with_one f t)) halts_spelled steps_lead m h.inner t
    (λ k. in_statement r n s ss k) (λ a. block_step r n s (and_statement ss a) t) h.reached
    (λ k g. record {
      called = h.called;
      named = h.named;
      signature = h.signature;
      body = h.body;
      inner = with_one h.inner t;
      appends = one_appends t h.appends;
      reached = g;
      same = λ w. h.same (t ∷ w);
    })
    (λ a good. block_leads form r n s (and_statement ss a) t f (record {
      called = h.called;
      named = h.named;
      signature = h.signature;
      body = (h.body, good.0);
      same = λ w. ap (block_front r h.called s ss) (whole_front spell_statement a h.inner (statement_appends a) h.appends good.1 w) ∙ h.same w;
    }))
    tt
function_leads form (past_routine x) f t h = tt

-- ---- halting

-- A name may be due in each form of functions, and it is no `&`.
pub record Names {N : Type 0} (form : FunctionForm N) : Type 0 where
  pub any_named : form.name_of any_word ≡ Some form.any_name_of
  pub apart : (t : Symbol) (n : N) → form.name_of t ≡ Some n → is_ampersand t ≡ false

least_proper : (b : Bool) → IsProperMethodBody (least_body b)
least_proper true = tt
least_proper false = tt

least_lacks : {N : Type 0} (form : FunctionForm N) (b : Bool) → form.may_lack ≡ b → MayLack form (least_body b)
least_lacks form true is = is
least_lacks form false is = tt

least_spells : (b : Bool) → spell_method_body (least_body b) [] ≡ least_body_rest b
least_spells true = refl
least_spells false = refl

signed_stops : {N : Type 0} (form : FunctionForm N) (r : Bool) (n : N) (m : SignatureState) (f : Front) (w : List Symbol) → InSignature form r n m f
    → SpellsRoutine form (behind_name form r n (halt_signature m w) w).tree (f (behind_name form r n (halt_signature m w) w).missing)
signed_stops form r n m f w h =
    let good : SpellsSignature (halt_signature m w).tree (h.inner (halt_signature m w).missing) = signature_spelled m h.inner w h.reached in
    record {
      name = h.called;
      named = h.named;
      signature = good.0;
      body = least_proper form.may_lack;
      may_lack = least_lacks form form.may_lack refl;
      spelled = ap (λ u. name_front r h.called (spell_signature (halt_signature m w).tree u)) (least_spells form.may_lack)
          ∙ ap (name_front r h.called) (front_ends spell_signature (halt_signature m w).tree h.inner (halt_signature m w).missing (least_body_rest form.may_lack) (signature_appends (halt_signature m w).tree) h.appends good.1)
          ∙ h.same ((halt_signature m w).missing ++ least_body_rest form.may_lack);
    }

unnamed_stops : {N : Type 0} (form : FunctionForm N) (names : Names form) (r : Bool) (f : Front) (w : List Symbol) → Same (λ v. symbol_if r (punct mark.Ampersand) v) f
    → SpellsRoutine form (unnamed form r w).tree (f (unnamed form r w).missing)
unnamed_stops form names r f w same =
    signed_stops form r form.any_name_of due_signature (with_one f any_word) w
    (record { called = any_word; named = names.any_named; inner = λ v. v; appends = nothing; reached = (tt, λ v. refl); same = λ v. same (any_word ∷ v) })

pub function_spelled : {N : Type 0} (form : FunctionForm N) (names : Names form) (m : FunctionState N) (f : Front) (w : List Symbol) → ReachedFunction form m f
    → SpellsRoutine form (halt_function form m w).tree (f (halt_function form m w).missing)
function_spelled form names past_function f w h = unnamed_stops form names false f w h
function_spelled form names past_function_reference f w h = unnamed_stops form names true f w h
function_spelled form names (in_signature r n m) f w h = signed_stops form r n m f w h
function_spelled form names (due_in_body r n s ss) f w h =
    record { name = h.called; named = h.named; signature = h.signature; body = h.body; may_lack = tt; spelled = h.same (punct mark.RightBrace ∷ []) }
function_spelled form names (in_statement r n s ss m) f w h =
    let good : SpellsStatement (halt_statement m w).tree (h.inner (halt_statement m w).missing) = halts_spelled m h.inner w h.reached in
    record {
      name = h.called;
      named = h.named;
      signature = h.signature;
      body = (h.body, good.0);
      may_lack = tt;
      spelled = ap (block_front r h.called s ss)
          (front_ends spell_statement (halt_statement m w).tree h.inner (halt_statement m w).missing (punct mark.RightBrace ∷ []) (statement_appends (halt_statement m w).tree) h.appends good.1)
          ∙ h.same ((halt_statement m w).missing ++ punct mark.RightBrace ∷ []);
    }
function_spelled form names (past_routine x) f w h =
    record { name = h.called; named = h.named; signature = h.signature; body = h.body; may_lack = h.may_lack; spelled = h.same [] }

-- ---- in front of anything

pub body_appends : (x : Option (Statements Nothing)) → Appends (spell_method_body x)
body_appends None = record { at = λ v w. refl }
body_appends (Some ss) = record { at = λ v w. (before (punct mark.LeftBrace) (behind (punct mark.RightBrace) (statements_appends ss))).at v w }

pub routine_appends : {N : Type 0} (called : Symbol) (x : Routine N) → Appends (spell_routine called x)
routine_appends called x =
    record { at = λ v w. (both (if_appends x.is_reference (punct mark.Ampersand)) (before called (both (signature_appends x.signature) (body_appends x.body)))).at v w }

-- ---- laws

pub leaves : {N : Type 0} (form : FunctionForm N) → LeavesUnread (FunctionState N) (Routine N) (halt_function form)
leaves form m w = (function_halts form).unread m w

pub lack_same : {N : Type 0} (form : FunctionForm N) (x : Option (Statements Nothing)) → MayLack form x → back.MayLack form x
lack_same form None h = h
lack_same form (Some ss) h = h

begins : {N : Type 0} (form : FunctionForm N) → Names form → RoutineReadingBegins form
begins form names w =
    let b : Begins (SpellsRoutine form) (λ v. v) w (read_routine form w) =
    begins_by (advance_function form) (halt_function form) (SpellsRoutine form) (ReachedFunction form) (leaves form) (function_spelled form names) (function_leads form) w past_function (λ v. v) (λ v. refl) in
    record { done = b.done; whole = b.whole; spelled = b.spelled }

pub reads_back : {N : Type 0} (form : FunctionForm N) → Names form → ReadsRoutinesBack form
reads_back form names x w v h =
    ap (λ u. read_routine form (u ++ v)) (sym h.spelled) ∙ ap (read_routine form) (sym (in_front (routine_appends h.name x) v))
    ∙ functions_read_back form x.is_reference x.name h.name x.signature x.body v h.named (names.apart h.name x.name h.named) h.signature h.body (lack_same form x.body h.may_lack)

one : {N : Type 0} (form : FunctionForm N) → Names form → OneRoutine form
one form names a b w p q = ap (λ r. r.tree) (sym (reads_back form names a w [] p) ∙ reads_back form names b w [] q)

lacks : {N : Type 0} (form : FunctionForm N) → Names form → UnfinishedRoutine form
lacks form names w v x h missing = unfinished_by (read_routine form (w ++ v)) x v (reads_back form names x w v h) missing

pub behind_nothing : (w : List Symbol) → w ++ [] ≡ w
behind_nothing [] = refl
behind_nothing (t ∷ w) = ap (λ u. t ∷ u) (behind_nothing w)

pub stops : {N : Type 0} (form : FunctionForm N) → Names form → RoutineStopsExactly form
stops form names w front t v is h b =
    let all : List Symbol = (front ++ t ∷ []) ++ b.rest in
    stops_exactly_by (advance_function form) (halt_function form) (leaves form) past_function w front t v b.rest is h
    (ap (λ u. (read_routine form u).unread) (sym (behind_nothing all)) ∙ ap (λ r. r.unread) (reads_back form names b.tree all [] b.spelled))

function_apart : (t : Symbol) (n : Name Nothing) → function_form.name_of t ≡ Some n → is_ampersand t ≡ false
function_apart (punct p) n is = cc
function_apart _ n is = refl

pub function_names : Names function_form
function_names = record { any_named = refl; apart = function_apart }

method_apart : (t : Symbol) (n : tree.Member Nothing) → method_form.name_of t ≡ Some n → is_ampersand t ≡ false
method_apart (punct p) n is = cc
method_apart _ n is = refl

pub method_names : Names method_form
method_names = record { any_named = refl; apart = method_apart }

pub function_reading_begins : FunctionReadingBegins
function_reading_begins = begins function_form function_names

pub reads_functions_back : ReadsFunctionsBack
reads_functions_back = reads_back function_form function_names

pub one_function : OneFunction
one_function = one function_form function_names

pub unfinished_function : UnfinishedFunction
unfinished_function = lacks function_form function_names

pub function_stops_exactly : FunctionStopsExactly
function_stops_exactly = stops function_form function_names

pub method_reading_begins : MethodReadingBegins
method_reading_begins = begins method_form method_names

pub reads_methods_back : ReadsMethodsBack
reads_methods_back = reads_back method_form method_names

pub one_method : OneMethod
one_method = one method_form method_names

pub unfinished_method : UnfinishedMethod
unfinished_method = lacks method_form method_names

pub method_stops_exactly : MethodStopsExactly
method_stops_exactly = stops method_form method_names
