-- The machines whose walks say so much.
use Rattle.std.proofs.Common.{◌≡◌, List, [], ◌∷◌, ◌++◌, refl, sym, ◌∙◌, ap}
use Rattle.php_token.specs.declared.kind.Punct.TheVariants as mark
use Rattle.php_ast.specs.Symbol.{Symbol, punct}
use Rattle.php_ast.specs.statement.Tree.{empty}
use Rattle.php_ast.specs.statement.Nesting.{nests_statement}
use Rattle.php_ast.specs.declaration.Nesting.{signature_nests, member_nests, script_nests}
use Rattle.php_grammar.specs.Begins.{BeginsStatement, BeginsSignature, BeginsScript}
use Rattle.php_grammar.specs.TooDeep.{depths_taken}
use Rattle.php_grammar.specs.statement.Forms.{due_statement}
use Rattle.php_grammar.specs.statement.Laws.{SpellsStatement}
use Rattle.php_grammar.specs.statement.Machine.{advance_statement}
use Rattle.php_grammar.specs.statement.Depth.{statement_depth_at}
use Rattle.php_grammar.specs.statement.Reading.{halt_statement}
use Rattle.php_grammar.specs.declaration.Depth.{signature_depth_at, function_depth_at, member_depth_at, script_depth_at}
use Rattle.php_grammar.specs.declaration.Laws.{SpellsSignature, SpellsScript}
use Rattle.php_grammar.specs.declaration.SignatureMachine.{due_signature, advance_signature, halt_signature}
use Rattle.php_grammar.specs.declaration.FunctionMachine.{FunctionForm, function_form, method_form, past_function, advance_function, halt_function}
use Rattle.php_grammar.specs.declaration.MemberMachine.{past_modifiers, advance_member, halt_member}
use Rattle.php_grammar.specs.declaration.ScriptMachine.{ScriptState, due_item, in_statement, in_function, in_member, advance_script, halt_script}
use Rattle.php_grammar.proofs.statement.LawProofs.{statement_stops}
use Rattle.php_grammar.proofs.statement.TraceBack.{statement_nesting}
use Rattle.php_grammar.proofs.declaration.SignatureBack.{signature_halts}
use Rattle.php_grammar.proofs.declaration.SignatureTrace.{signature_nesting}
use Rattle.php_grammar.proofs.declaration.FunctionBack.{function_halts}
use Rattle.php_grammar.proofs.declaration.FunctionTrace.{function_nesting}
use Rattle.php_grammar.proofs.declaration.MemberBack.{member_halts}
use Rattle.php_grammar.proofs.declaration.MemberTrace.{member_nesting}
use Rattle.php_grammar.proofs.declaration.ScriptTrace.{script_nesting}
use Rattle.php_grammar_laws.specs.Functions.{SpellsRoutine, BeginsRoutine, read_routine}
use Rattle.php_grammar_laws.specs.Members.{SpellsMember, BeginsMember}
use Rattle.php_grammar_laws.specs.Ends.{StatementWalkEnds, SignatureWalkEnds, routine_nests, RoutineWalkEnds, FunctionWalkEnds, MethodWalkEnds, MemberWalkEnds, ScriptWalkEnds}
use Rattle.php_grammar_laws.proofs.Begins.{begins_by}
use Rattle.php_grammar_laws.proofs.Ends.{Known, walk_ends}
use Rattle.php_grammar_laws.proofs.statement.Laws as statement
use Rattle.php_grammar_laws.proofs.declaration.Signatures as signature
use Rattle.php_grammar_laws.proofs.declaration.Functions as function
use Rattle.php_grammar_laws.proofs.declaration.Members as member
use Rattle.php_grammar_laws.proofs.declaration.Scripts as script

statement_known : Known advance_statement statement_depth_at halt_statement (due_statement []) SpellsStatement BeginsStatement (λ a. nests_statement a 0 [])
statement_known = record {
  leaves = statement.leaves;
  alike = statement_stops.missing;
  reads = λ w. statement.begins_from w (due_statement []) (λ v. v) (tt, λ v. refl);
  back = λ a w h. statement.all_read w a h;
  nested = λ a w h. ap (depths_taken advance_statement statement_depth_at (due_statement [])) (sym h.1) ∙ statement_nesting a [] h.0 (record { no_else = λ x. refl; no_catch = λ x. refl });
  begun = λ a w rest h. record { tree = a; rest = rest; spelled = h };
  stops = statement.stops_exactly;
}

pub statement_walk_ends : StatementWalkEnds
statement_walk_ends n d w sum =
    walk_ends advance_statement statement_depth_at halt_statement (due_statement []) SpellsStatement BeginsStatement (λ a. nests_statement a 0 []) statement_known n d w sum

signature_known : Known advance_signature signature_depth_at halt_signature due_signature SpellsSignature BeginsSignature (λ s. signature_nests s 0 [])
signature_known = record {
  leaves = signature.leaves;
  alike = signature_halts.missing;
  reads = λ w. begins_by advance_signature halt_signature SpellsSignature signature.ReachedSignature signature.leaves signature.signature_spelled signature.signature_leads w due_signature (λ v. v) (tt, λ v. refl);
  back = λ s w h. signature.all_read w s h;
  nested = λ s w h. ap (depths_taken advance_signature signature_depth_at due_signature) (sym h.1) ∙ signature_nesting s [] h.0 (signature.ends_at_end s.result);
  begun = λ s w rest h. record { tree = s; rest = rest; spelled = h };
  stops = signature.stops_exactly;
}

pub signature_walk_ends : SignatureWalkEnds
signature_walk_ends n d w sum =
    walk_ends advance_signature signature_depth_at halt_signature due_signature SpellsSignature BeginsSignature (λ s. signature_nests s 0 []) signature_known n d w sum

routine_known : {N : Type 0} (form : FunctionForm N) → function.Names form → Known (advance_function form) function_depth_at (halt_function form) past_function (SpellsRoutine form) (BeginsRoutine form) routine_nests
routine_known form names = record {
  leaves = function.leaves form;
  alike = (function_halts form).missing;
  reads = λ w. begins_by (advance_function form) (halt_function form) (SpellsRoutine form) (function.ReachedFunction form) (function.leaves form) (function.function_spelled form names) (function.function_leads form)
      w past_function (λ v. v) (λ v. refl);
  back = λ f w h. ap (λ u. read_routine form u) (sym (function.behind_nothing w)) ∙ function.reads_back form names f w [] h;
  nested = λ f w h. ap (depths_taken (advance_function form) function_depth_at past_function) (sym h.spelled)
      ∙ function_nesting form f.is_reference f.name h.name f.signature f.body [] h.named (names.apart h.name f.name h.named) h.signature h.body (function.lack_same form f.body h.may_lack);
  begun = λ f w rest h. record { tree = f; rest = rest; spelled = h };
  stops = function.stops form names;
}

routine_walk_ends : {N : Type 0} (form : FunctionForm N) → function.Names form → RoutineWalkEnds form
routine_walk_ends form names n d w sum =
    walk_ends (advance_function form) function_depth_at (halt_function form) past_function (SpellsRoutine form) (BeginsRoutine form) routine_nests (routine_known form names) n d w sum

pub function_walk_ends : FunctionWalkEnds
function_walk_ends = routine_walk_ends function_form function.function_names

pub method_walk_ends : MethodWalkEnds
method_walk_ends = routine_walk_ends method_form function.method_names

member_known : Known advance_member member_depth_at halt_member (past_modifiers empty) SpellsMember BeginsMember (λ m. member_nests m 0 [])
member_known = record {
  leaves = member.leaves;
  alike = member_halts.missing;
  reads = λ w. begins_by advance_member halt_member SpellsMember member.ReachedMember member.leaves member.member_spelled member.member_leads w (past_modifiers empty) (λ v. v) (tt, λ v. refl);
  back = λ m w h. member.all_read w m h;
  nested = λ m w h. ap (depths_taken advance_member member_depth_at (past_modifiers empty)) (sym h.1) ∙ member_nesting m [] h.0;
  begun = λ m w rest h. record { tree = m; rest = rest; spelled = h };
  stops = member.stops_exactly;
}

pub member_walk_ends : MemberWalkEnds
member_walk_ends n d w sum =
    walk_ends advance_member member_depth_at halt_member (past_modifiers empty) SpellsMember BeginsMember (λ m. member_nests m 0 []) member_known n d w sum

script_alike : (m : ScriptState) (w : List Symbol) → (halt_script m w).missing ≡ (halt_script m []).missing
script_alike (in_statement items m) w = ap (λ u. u ++ []) (statement_stops.missing m w)
script_alike (in_function items m) w = ap (λ u. u ++ []) ((function_halts function_form).missing m w)
script_alike (in_member items heading members m) w = ap (λ u. u ++ punct mark.RightBrace ∷ []) (member_halts.missing m w)
script_alike (due_item items) w = refl
script_alike _ w = refl

script_known : Known advance_script script_depth_at halt_script (due_item empty) SpellsScript BeginsScript script_nests
script_known = record {
  leaves = script.leaves;
  alike = script_alike;
  reads = λ w. begins_by advance_script halt_script SpellsScript script.ReachedScript script.leaves script.script_spelled script.script_leads w (due_item empty) (λ v. v) (tt, λ v. refl);
  back = λ items w h. script.all_read w items h;
  nested = λ items w h. ap (depths_taken advance_script script_depth_at (due_item empty)) (sym h.1) ∙ script_nesting items h.0;
  begun = λ items w rest h. record { tree = items; rest = rest; spelled = h };
  stops = script.stops_exactly;
}

pub script_walk_ends : ScriptWalkEnds
script_walk_ends n d w sum = walk_ends advance_script script_depth_at halt_script (due_item empty) SpellsScript BeginsScript script_nests script_known n d w sum
