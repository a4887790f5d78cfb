-- Which machines lend their symbols.
use Rattle.std.proofs.Common.{◌≡◌, Bool, true, false, Option, Some, None, List, [], ◌∷◌, ◌++◌, refl, sym, ◌∙◌, ap, subst, arith}
use Rattle.php_token.specs.declared.kind.Punct.TheVariants as mark
use Rattle.std.specs.Prelude.{nat_lt}
use Rattle.php_ast.specs.Symbol.{Symbol, punct}
use Rattle.php_ast.specs.statement.Tree.{then_also, and_statement}
use Rattle.php_ast.specs.declaration.Tree.{Member, of_statement}
use Rattle.php_grammar.specs.Run.{either, if_some, ReadingOf, if_nothing, if_whole, through_expression}
use Rattle.php_grammar.specs.expression.Machine.{Nothing, Form, State, advance, halt}
use Rattle.php_grammar.specs.expression.Depth.{depth_at}
use Rattle.php_grammar.specs.statement.Role.{ending}
use Rattle.php_grammar.specs.statement.Forms.{Head, if_head, elseif_head, elseif_list_head, while_head, do_head, switch_head, Values, of_echo, of_unset, of_starts, of_tests, of_steps, ExpressionPlace, as_line, as_value, as_static, as_constant, as_jump, as_thrown, as_test, as_walked, as_first, as_second, as_label, in_expression}
use Rattle.php_grammar.specs.statement.Machine.{filled, advance_statement}
use Rattle.php_grammar.specs.statement.Depth.{statement_depth, place_depth, statement_depth_at}
use Rattle.php_grammar.specs.statement.Reading.{values_rest, head_rest, place_rest, missing_around, halt_statement, end_symbol}
use Rattle.php_grammar.specs.declaration.Depth.{signature_depth_at, function_depth_at, member_depth_at, script_depth_at}
use Rattle.php_grammar.specs.declaration.SignatureMachine.{in_default, with_default, param_end, advance_signature, halt_signature, closing}
use Rattle.php_grammar.specs.declaration.FunctionMachine.{FunctionForm, function_form, method_form, Routine, FunctionState, in_signature, in_statement, body_step, block_step, advance_function, least_body_rest, halt_function}
use Rattle.php_grammar.specs.declaration.MemberMachine.{Word, Modifiers, MemberState, in_constant, in_property, in_method, with_constant, with_property, constant_end, property_end, method_of, advance_member, halt_member}
use Rattle.php_grammar.specs.declaration.ScriptMachine as script
use Rattle.php_grammar.specs.declaration.ScriptMachine.{Items, Heading, ScriptState, in_function, in_member, function_of, item_step, member_step, advance_script, halt_script}
use Rattle.php_grammar.proofs.expression.LawProofs.{halt_unread}
use Rattle.php_grammar.proofs.statement.LawProofs.{statement_stops}
use Rattle.php_grammar.proofs.declaration.SignatureBack.{signature_halts}
use Rattle.php_grammar.proofs.declaration.FunctionBack.{function_halts}
use Rattle.php_grammar.proofs.declaration.MemberBack.{member_halts}
use Rattle.php_grammar_laws.specs.Walks.{OutcomeOf, whole, short, outcome, stepped, resumed, halt_expression, StatementsLend, SignaturesLend, FunctionsLendSignatures, FunctionsLendStatements, MembersLendFunctions, MembersLendConstants, MembersLendProperties, ScriptsLendStatements, ScriptsLendFunctions, ScriptsLendMembers, walk_member, walk_function}
use Rattle.php_grammar_laws.proofs.Lends.{lends, lends_at, IsSome, some_behind, stops_short, stops_whole, whole_alike}

-- ---- expressions

-- a step by what the expression does with the symbol, or what is whole in front of it
through : {N : Type 0} (m : State) (t : Symbol) (w : List Symbol) (on : State → N) (ended : Form → Option N)
    → through_expression m t on ended ≡ either (if_some (advance m t) (λ n. Some (on n))) (if_some (if_whole (halt_expression m (t ∷ w))) ended)
through m t w on ended = ap (λ o. either (if_some (advance m t) (λ n. Some (on n))) (if_some o ended)) (sym (whole_alike m t w))

-- more is missing behind an expression
more_missing : (m : State) (rest : List Symbol) → IsSome rest → IsSome ((halt m rest).missing ++ (halt m rest).unread)
more_missing m rest some = some_behind (halt m rest).missing (halt m rest).unread (subst IsSome (sym (halt_unread m rest)) some)

values_some : (values : Values) (w : List Symbol) → IsSome (values_rest values w)
values_some of_echo w = tt
values_some of_unset w = tt
values_some of_starts w = tt
values_some (of_tests a) w = tt
values_some (of_steps a b) w = tt

head_some : (head : Head) (w : List Symbol) → IsSome (head_rest head w)
head_some if_head w = tt
head_some (elseif_head test body parts) w = tt
head_some (elseif_list_head test body parts) w = tt
head_some while_head w = tt
head_some (do_head a) w = tt
head_some switch_head w = tt

place_some : (place : ExpressionPlace) (w : List Symbol) → IsSome (place_rest place w)
place_some as_line w = tt
place_some (as_value values items) w = values_some values w
place_some (as_static xs n) w = tt
place_some (as_constant xs n) w = tt
place_some (as_jump kind) w = tt
place_some as_thrown w = tt
place_some (as_test head) w = head_some head w
place_some as_walked w = tt
place_some (as_first walked r) w = tt
place_some (as_second walked key r) w = tt
place_some (as_label e form cases) w = tt

pub statements_lend : StatementsLend
statements_lend n place m o w =
    lends advance depth_at halt_expression advance_statement statement_depth_at halt_statement (λ k. in_expression place k o) (λ e t. filled place e o (ending t)) (place_depth place (statement_depth o)) (λ e. short)
    (record {
      steps = λ k t v. through k t v (λ x. in_expression place x o) (λ e. filled place e o (ending t));
      counts = λ k t. refl;
      stops = λ k v. stops_short (halt_expression k v) _ _ v (more_missing k (place_rest place (missing_around o)) (place_some place (missing_around o))) (halt_unread k v);
      leaves = halt_unread;
    }) n m w

pub signatures_lend : SignaturesLend
signatures_lend n params p m w =
    lends advance depth_at halt_expression advance_signature signature_depth_at halt_signature (λ k. in_default params p k) (λ e t. param_end (then_also params (with_default p e)) (ending t)) 1 (λ e. short)
    (record {
      steps = λ k t v. through k t v (λ x. in_default params p x) (λ e. param_end (then_also params (with_default p e)) (ending t));
      counts = λ k t. refl;
      stops = λ k v. stops_short (halt_expression k v) _ _ v (more_missing k closing tt) (halt_unread k v);
      leaves = halt_unread;
    }) n m w

pub members_lend_constants : MembersLendConstants
members_lend_constants n ms items x m w =
    lends_at advance depth_at halt_expression advance_member member_depth_at halt_member (λ k. in_constant ms items x k) (λ e t. constant_end ms (with_constant items x e) (ending t)) 0 (λ e. short)
    (record {
      steps = λ k t v. through k t v (λ y. in_constant ms items x y) (λ e. constant_end ms (with_constant items x e) (ending t));
      counts = λ k t. refl;
      stops = λ k v. stops_short (halt_expression k v) _ _ v (more_missing k (end_symbol ∷ []) tt) (halt_unread k v);
      leaves = halt_unread;
    }) n n m w (omega arith)

pub members_lend_properties : MembersLendProperties
members_lend_properties n ms items x m w =
    lends_at advance depth_at halt_expression advance_member member_depth_at halt_member (λ k. in_property ms items x k) (λ e t. property_end ms (with_property items x (Some e)) (ending t)) 0 (λ e. short)
    (record {
      steps = λ k t v. through k t v (λ y. in_property ms items x y) (λ e. property_end ms (with_property items x (Some e)) (ending t));
      counts = λ k t. refl;
      stops = λ k v. stops_short (halt_expression k v) _ _ v (more_missing k (end_symbol ∷ []) tt) (halt_unread k v);
      leaves = halt_unread;
    }) n n m w (omega arith)

-- ---- other machines

-- a step by what is whole at the end of all symbols
ended_alike : {M A N : Type 0} (stop : M → List Symbol → ReadingOf A) (o : Option N) (m : M) (w : List Symbol) (f : A → Option N) → (stop m w).tree ≡ (stop m []).tree → (stop m w).missing ≡ (stop m []).missing
    → either o (if_some (if_whole (stop m [])) f) ≡ either o (if_some (if_whole (stop m w)) f)
ended_alike stop o m w f tree missing =
    ap (λ x. either o (if_some (if_nothing (stop m []).missing x) f)) (sym tree) ∙ ap (λ u. either o (if_some (if_nothing u (stop m w).tree) f)) (sym missing)

least_some : (b : Bool) → IsSome (least_body_rest b)
least_some true = tt
least_some false = tt

pub functions_lend_signatures : {N : Type 0} (form : FunctionForm N) → FunctionsLendSignatures form
functions_lend_signatures form n r x m w =
    lends_at advance_signature signature_depth_at halt_signature (advance_function form) function_depth_at (halt_function form) (λ k. in_signature r x k) (λ s t. body_step form r x s t) 0 (λ s. short)
    (record {
      steps = λ k t v. ended_alike halt_signature (if_some (advance_signature k t) (λ y. Some (in_signature r x y))) k (t ∷ v) (λ s. body_step form r x s t) (signature_halts.tree k (t ∷ v)) (signature_halts.missing k (t ∷ v));
      counts = λ k t. refl;
      stops = λ k v. stops_short (halt_signature k v) _ _ v (some_behind (halt_signature k v).missing (least_body_rest form.may_lack) (least_some form.may_lack)) (signature_halts.unread k v);
      leaves = signature_halts.unread;
    }) n n m w (omega arith)

pub functions_lend_statements : {N : Type 0} (form : FunctionForm N) → FunctionsLendStatements form
functions_lend_statements form n r x s ss m w =
    lends advance_statement statement_depth_at halt_statement (advance_function form) function_depth_at (halt_function form) (λ k. in_statement r x s ss k) (λ a t. block_step r x s (and_statement ss a) t) 1 (λ a. short)
    (record {
      steps = λ k t v. ended_alike halt_statement (if_some (advance_statement k t) (λ y. Some (in_statement r x s ss y))) k (t ∷ v) (λ a. block_step r x s (and_statement ss a) t) (statement_stops.tree k (t ∷ v)) (statement_stops.missing k (t ∷ v));
      counts = λ k t. refl;
      stops = λ k v. stops_short (halt_statement k v) _ _ v (some_behind (halt_statement k v).missing (punct mark.RightBrace ∷ []) tt) (statement_stops.unread k v);
      leaves = statement_stops.unread;
    }) n m w

pub scripts_lend_statements : ScriptsLendStatements
scripts_lend_statements n items m w =
    lends_at advance_statement statement_depth_at halt_statement advance_script script_depth_at halt_script (λ k. script.in_statement items k) (λ a t. item_step (then_also items (of_statement a)) t) 0 (λ a. whole (then_also items (of_statement a)))
    (record {
      steps = λ k t v. ended_alike halt_statement (if_some (advance_statement k t) (λ y. Some (script.in_statement items y))) k (t ∷ v) (λ a. item_step (then_also items (of_statement a)) t) (statement_stops.tree k (t ∷ v)) (statement_stops.missing k (t ∷ v));
      counts = λ k t. refl;
      stops = λ k v. stops_whole (λ a. then_also items (of_statement a)) (halt_statement k v).missing (halt_statement k v).tree (halt_statement k v).unread v (statement_stops.unread k v);
      leaves = statement_stops.unread;
    }) n n m w (omega arith)

pub scripts_lend_functions : ScriptsLendFunctions
scripts_lend_functions n items m w =
    lends_at (advance_function function_form) function_depth_at (halt_function function_form) advance_script script_depth_at halt_script (λ k. in_function items k) (λ x t. item_step (then_also items (function_of x)) t) 0
    (λ x. whole (then_also items (function_of x)))
    (record {
      steps = λ k t v. ended_alike (halt_function function_form) (if_some (advance_function function_form k t) (λ y. Some (in_function items y))) k (t ∷ v) (λ x. item_step (then_also items (function_of x)) t)
          ((function_halts function_form).tree k (t ∷ v)) ((function_halts function_form).missing k (t ∷ v));
      counts = λ k t. refl;
      stops = λ k v. stops_whole (λ x. then_also items (function_of x)) (halt_function function_form k v).missing (halt_function function_form k v).tree (halt_function function_form k v).unread v ((function_halts function_form).unread k v);
      leaves = (function_halts function_form).unread;
    }) n n m w (omega arith)

pub scripts_lend_members : ScriptsLendMembers
scripts_lend_members n items heading members m w =
    lends advance_member member_depth_at halt_member advance_script script_depth_at halt_script (λ k. in_member items heading members k) (λ x t. member_step items heading (then_also members x) t) 1 (λ x. short)
    (record {
      steps = λ k t v. ended_alike halt_member (if_some (advance_member k t) (λ y. Some (in_member items heading members y))) k (t ∷ v) (λ x. member_step items heading (then_also members x) t) (member_halts.tree k (t ∷ v)) (member_halts.missing k (t ∷ v));
      counts = λ k t. refl;
      stops = λ k v. stops_short (halt_member k v) _ _ v (some_behind (halt_member k v).missing (punct mark.RightBrace ∷ []) tt) (member_halts.unread k v);
      leaves = member_halts.unread;
    }) n m w

-- ---- methods

inside_by : (o : Option (FunctionState Word)) (b : Bool) (ms : Modifiers) (go : MemberState → OutcomeOf (Member Nothing)) (goes : FunctionState Word → OutcomeOf (Routine Word)) (halted : OutcomeOf (Member Nothing))
    (stuck : OutcomeOf (Routine Word)) (w : List Symbol) → ((k : FunctionState Word) → go (in_method ms k) ≡ resumed (λ x. whole (method_of ms x)) (goes k)) → halted ≡ resumed (λ x. whole (method_of ms x)) stuck
    → stepped (if_some o (λ k. Some (in_method ms k))) b go halted w ≡ resumed (λ x. whole (method_of ms x)) (stepped o b goes stuck w)
inside_by None b ms go goes halted stuck w next is = is
inside_by (Some k) true ms go goes halted stuck w next is = refl
inside_by (Some k) false ms go goes halted stuck w next is = next k

method_stops : (ms : Modifiers) (m : FunctionState Word) (w : List Symbol) → outcome (halt_member (in_method ms m) w) ≡ resumed (λ x. whole (method_of ms x)) (outcome (halt_function method_form m w))
method_stops ms m w =
    stops_whole (method_of ms) (halt_function method_form m w).missing (halt_function method_form m w).tree (halt_function method_form m w).unread w ((function_halts method_form).unread m w)

pub members_lend_functions : MembersLendFunctions
members_lend_functions n ms m [] = method_stops ms m []
members_lend_functions n ms m (t ∷ w) =
    inside_by (advance_function method_form m t) (nat_lt n (function_depth_at m t)) ms (λ k. walk_member n k w) (λ k. walk_function method_form n k w) (outcome (halt_member (in_method ms m) (t ∷ w)))
    (outcome (halt_function method_form m (t ∷ w))) (t ∷ w) (λ k. members_lend_functions n ms k w) (method_stops ms m (t ∷ w))

pub functions_lend_names : FunctionsLendSignatures function_form
functions_lend_names = functions_lend_signatures function_form

pub functions_lend_blocks : FunctionsLendStatements function_form
functions_lend_blocks = functions_lend_statements function_form

pub methods_lend_names : FunctionsLendSignatures method_form
methods_lend_names = functions_lend_signatures method_form

pub methods_lend_blocks : FunctionsLendStatements method_form
methods_lend_blocks = functions_lend_statements method_form
