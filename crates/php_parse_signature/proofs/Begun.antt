-- What the machine of signatures has read begins the spelling of a proper signature.
use Rattle.std.proofs.Common.{◌≡◌, Bool, true, false, Option, Some, None, List, [], ◌∷◌, ◌++◌, refl, sym, ◌∙◌, ap, subst, append_assoc}
use Rattle.std.proofs.lemmas.List.{append-nil}
use Rattle.php_token.specs.declared.kind.Keyword.TheVariants as word
use Rattle.php_token.specs.declared.kind.Punct.TheVariants as mark
use Rattle.php_ast.specs.Symbol.{Symbol, keyword, punct}
use Rattle.php_ast.specs.expression.Spelling.{spell}
use Rattle.php_ast.specs.expression.Proper.{Proper}
use Rattle.php_ast.specs.statement.Tree.{empty, then_also}
use Rattle.php_ast.specs.statement.Spelling.{separator, commas, symbol_if, spell_value}
use Rattle.php_ast.specs.statement.Proper.{Each, IfAny, is_empty}
use Rattle.php_ast.specs.declaration.Tree.{Param, Signature}
use Rattle.php_ast.specs.declaration.Spelling.{spell_declared, spell_param, spell_signature}
use Rattle.php_ast.specs.declaration.Proper.{IsProperParam, IsProperSignature}
use Rattle.php_grammar.specs.declared.closer.Closer.TheVariants as ender
use Rattle.php_grammar.specs.expression.Role.{Continuation, closes, continuation, is_paren, is_right_paren, is_colon}
use Rattle.php_grammar.specs.expression.Machine.{Nothing, Form, OpenForms, instance_of_open, State, expects, past_static, past_yield, pick, advance, halt, halt_yield, is_last, missing_end, read, read_from, or_halt}
use Rattle.php_grammar.specs.Run.{either, if_some, if_nothing, whole_before}
use Rattle.php_grammar.specs.statement.Role.{Ending, closer, as_word, no_ending, ending_of, ending, is_assign}
use Rattle.php_grammar.specs.declaration.SignatureMachine.{ParamRole, at_base, at_variable, at_question, at_reference, at_variadic, at_other, param_role, Params, Declared, SignatureState, due_signature, due_param, past_question, past_type, past_reference, past_variadic, past_param, in_default, past_params, due_result, past_result_question, past_signature, with_default, marked_step, reference_step, variadic_step, param_step, question_step, param_end, result_step, nullable_result_step, advance_signature, closing, halt_signature}
use Rattle.php_grammar.proofs.expression.Appended.{spell_append}
use Rattle.php_grammar.proofs.expression.LawProofs.{reading_begins}
use Rattle.php_grammar.proofs.expression.Roles.{closer_symbol, Says, continuation_says}
use Rattle.php_parse_expression.proofs.Walked.{halt_unread}
use Rattle.php_parse_expression.proofs.Wholes.{cancel, semicolon, semicolon_none}
use Rattle.php_parse_signature.specs.Answer.{spell_front}
use Rattle.php_parse_signature.proofs.Roles.{RoleSays, role_says}
use Rattle.php_parse_signature.proofs.Tokens.{paren_is, end_is, colon_is, assign_is}

-- ---- the value of a parameter

-- The machine of expressions has read these symbols.
pub record Inside (m : State) (u : List Symbol) : Type 0 where
  pub reads : (z : List Symbol) → read (u ++ z) ≡ read_from m z

inside_more : (m x : State) (u : List Symbol) (t : Symbol) → advance m t ≡ Some x → Inside m u → Inside x (u ++ t ∷ [])
inside_more m x u t is i = record {
  reads = λ z. ap read (append_assoc u (t ∷ []) z) ∙ i.reads (t ∷ z) ∙ ap (λ o. or_halt o (λ n. read_from n z) (halt m (t ∷ z))) is;
}

-- where it halts in front of a symbol
halted : (m : State) (u : List Symbol) (t : Symbol) → advance m t ≡ None → Inside m u → read (u ++ t ∷ []) ≡ halt m (t ∷ [])
halted m u t is i = i.reads (t ∷ []) ∙ ap (λ o. or_halt o (λ n. read_from n []) (halt m (t ∷ []))) is

pub record Whole (e : Form) (u missing : List Symbol) : Type 0 where
  pub proper : Proper e
  pub spelled : spell e [] ≡ u ++ missing

whole_halted : (m : State) (u : List Symbol) (t : Symbol) → advance m t ≡ None → Inside m u → Whole (halt m (t ∷ [])).tree u (halt m (t ∷ [])).missing
whole_halted m u t is i =
    let b = reading_begins (u ++ t ∷ []) in
    let r = halted m u t is i in
    let done_is : b.done ≡ u = cancel b.done u (t ∷ []) (ap (λ z. b.done ++ z) (sym (ap (λ x. x.unread) r ∙ halt_unread m (t ∷ []))) ∙ sym b.whole) in
    record {
      proper = subst Proper (ap (λ x. x.tree) r) b.proper;
      spelled = ap (λ x. spell x.tree []) (sym r) ∙ b.spelled ∙ ap (λ z. z ++ (read (u ++ t ∷ [])).missing) done_is ∙ ap (λ x. u ++ x.missing) r;
    }

whole_by : (missing u : List Symbol) (a e : Form) → if_nothing missing a ≡ Some e → Whole a u missing → Whole e u []
whole_by [] u a e is h = let same : a ≡ e = cc in subst (λ x. Whole x u []) same h
whole_by (t ∷ missing) u a e is h = cc

-- an expression that is whole in front of a symbol
ended_whole : (m : State) (u : List Symbol) (t : Symbol) (e : Form) → advance m t ≡ None → Inside m u → whole_before m t ≡ Some e → Whole e u []
ended_whole m u t e is i h = whole_by (halt m (t ∷ [])).missing u (halt m (t ∷ [])).tree e h (whole_halted m u t is i)

-- A `)` allows what a `;` allows.
last_same : (missing : List Symbol) → is_last semicolon missing ≡ is_last closing missing
last_same [] = refl
last_same (t ∷ missing) = refl

yield_tree : (b : Bool) (s : OpenForms) (v w : List Symbol) → (halt_yield b s v).tree ≡ (halt_yield b s w).tree
yield_tree true s v w = refl
yield_tree false s v w = refl

yield_missing : (b : Bool) (s : OpenForms) (v w : List Symbol) → (halt_yield b s v).missing ≡ (halt_yield b s w).missing
yield_missing true s v w = refl
yield_missing false s v w = refl

tree_same : (m : State) → (halt m semicolon).tree ≡ (halt m closing).tree
tree_same (past_static (instance_of_open l ∷ s)) = refl
tree_same (past_yield s) = ap (λ b. (halt_yield b s semicolon).tree) (last_same (missing_end s)) ∙ yield_tree (is_last closing (missing_end s)) s semicolon closing
tree_same _ = refl

missing_same : (m : State) → (halt m semicolon).missing ≡ (halt m closing).missing
missing_same (past_static (instance_of_open l ∷ s)) = refl
missing_same (past_yield s) = ap (λ b. (halt_yield b s semicolon).missing) (last_same (missing_end s)) ∙ yield_missing (is_last closing (missing_end s)) s semicolon closing
missing_same _ = refl

closed_whole : (m : State) (u : List Symbol) → Inside m u → Whole (halt m closing).tree u (halt m closing).missing
closed_whole m u i =
    let w = whole_halted m u (punct mark.Semicolon) (semicolon_none m) i in
    record {
      proper = subst Proper (tree_same m) w.proper;
      spelled = ap (λ e. spell e []) (sym (tree_same m)) ∙ w.spelled ∙ ap (λ z. u ++ z) (missing_same m);
    }

whole_front : (e : Form) (u z : List Symbol) → Whole e u [] → u ++ z ≡ spell e z
whole_front e u z w = ap (λ x. x ++ z) (sym (w.spelled ∙ append-nil u)) ∙ sym (spell_append e [] z)

-- ---- what was read, in front of what follows

-- the parenthesis, and parameters with the comma behind them
abbrev pub opened_params : Params → List Symbol → List Symbol
opened_params params w = punct mark.LeftParen ∷ commas spell_param params (separator (punct mark.Comma) params w)

abbrev pub closed_params : Params → List Symbol → List Symbol
closed_params params w = punct mark.LeftParen ∷ commas spell_param params (punct mark.RightParen ∷ w)

abbrev pub AreProperParams : Params → Type 0
AreProperParams params = Each IsProperParam params

-- Where the symbols that f puts in front have been read, this holds of the state.
abbrev pub Begun : SignatureState → (List Symbol → List Symbol) → Type 0
Begun due_signature f = (z : List Symbol) → f z ≡ z
Begun (due_param params) f = AreProperParams params × ((z : List Symbol) → f z ≡ opened_params params z)
Begun (past_question params) f = AreProperParams params × ((z : List Symbol) → f z ≡ opened_params params (punct mark.Question ∷ z))
Begun (past_type params declared) f = AreProperParams params × ((z : List Symbol) → f z ≡ opened_params params (spell_declared declared z))
Begun (past_reference params declared) f =
    AreProperParams params × ((z : List Symbol) → f z ≡ opened_params params (spell_declared declared (punct mark.Ampersand ∷ z)))
Begun (past_variadic params declared r) f =
    AreProperParams params × ((z : List Symbol) → f z ≡ opened_params params (spell_declared declared (symbol_if r (punct mark.Ampersand) (punct mark.Ellipsis ∷ z))))
Begun (past_param params p) f = AreProperParams params × (p.default ≡ None) × ((z : List Symbol) → f z ≡ opened_params params (spell_front p z))
Begun (in_default params p m) f =
    AreProperParams params × (u : List Symbol) × Inside m u × ((z : List Symbol) → f z ≡ opened_params params (spell_front p (punct mark.Assign ∷ (u ++ z))))
Begun (past_params params) f = AreProperParams params × ((z : List Symbol) → f z ≡ closed_params params z)
Begun (due_result params) f = AreProperParams params × ((z : List Symbol) → f z ≡ closed_params params (punct mark.Colon ∷ z))
Begun (past_result_question params) f = AreProperParams params × ((z : List Symbol) → f z ≡ closed_params params (punct mark.Colon ∷ punct mark.Question ∷ z))
Begun (past_signature s) f = IsProperSignature s × ((z : List Symbol) → f z ≡ spell_signature s z)

-- if there is a state
abbrev pub BegunIf : Option SignatureState → (List Symbol → List Symbol) → Type 0
BegunIf None f = Unit {0}
BegunIf (Some m) f = Begun m f

-- ---- one symbol more

abbrev with_one : (List Symbol → List Symbol) → Symbol → List Symbol → List Symbol
with_one f t z = f (t ∷ z)

marked_on : (params : Params) (declared : Declared) (x : ParamRole) (t : Symbol) (f : List Symbol → List Symbol) → RoleSays x t
    → AreProperParams params → ((z : List Symbol) → f z ≡ opened_params params (spell_declared declared z)) → BegunIf (marked_step params declared x) (with_one f t)
marked_on params declared at_reference t f says p h = (p, λ z. h (t ∷ z) ∙ ap (λ y. opened_params params (spell_declared declared (y ∷ z))) says)
marked_on params declared at_variadic t f says p h = (p, λ z. h (t ∷ z) ∙ ap (λ y. opened_params params (spell_declared declared (y ∷ z))) says)
marked_on params declared (at_variable text) t f says p h = (p, refl, λ z. h (t ∷ z) ∙ ap (λ y. opened_params params (spell_declared declared (y ∷ z))) says)
marked_on params declared _ t f says p h = tt

reference_on : (params : Params) (declared : Declared) (x : ParamRole) (t : Symbol) (f : List Symbol → List Symbol) → RoleSays x t
    → AreProperParams params → ((z : List Symbol) → f z ≡ opened_params params (spell_declared declared (punct mark.Ampersand ∷ z))) → BegunIf (reference_step params declared x) (with_one f t)
reference_on params declared at_variadic t f says p h = (p, λ z. h (t ∷ z) ∙ ap (λ y. opened_params params (spell_declared declared (punct mark.Ampersand ∷ y ∷ z))) says)
reference_on params declared (at_variable text) t f says p h =
    (p, refl, λ z. h (t ∷ z) ∙ ap (λ y. opened_params params (spell_declared declared (punct mark.Ampersand ∷ y ∷ z))) says)
reference_on params declared _ t f says p h = tt

variadic_on : (params : Params) (declared : Declared) (r : Bool) (x : ParamRole) (t : Symbol) (f : List Symbol → List Symbol) → RoleSays x t → AreProperParams params
    → ((z : List Symbol) → f z ≡ opened_params params (spell_declared declared (symbol_if r (punct mark.Ampersand) (punct mark.Ellipsis ∷ z))))
    → BegunIf (variadic_step params declared r x) (with_one f t)
variadic_on params declared r (at_variable text) t f says p h =
    (p, refl, λ z. h (t ∷ z) ∙ ap (λ y. opened_params params (spell_declared declared (symbol_if r (punct mark.Ampersand) (punct mark.Ellipsis ∷ y ∷ z)))) says)
variadic_on params declared r _ t f says p h = tt

question_on : (params : Params) (x : ParamRole) (t : Symbol) (f : List Symbol → List Symbol) → RoleSays x t
    → AreProperParams params → ((z : List Symbol) → f z ≡ opened_params params (punct mark.Question ∷ z)) → BegunIf (question_step params x) (with_one f t)
question_on params (at_base base) t f says p h = (p, λ z. h (t ∷ z) ∙ ap (λ y. opened_params params (punct mark.Question ∷ y)) (sym (says z)))
question_on params _ t f says p h = tt

param_on : (params : Params) (x : ParamRole) (t : Symbol) (f : List Symbol → List Symbol) → RoleSays x t
    → AreProperParams params → ((z : List Symbol) → f z ≡ opened_params params z) → BegunIf (param_step params x) (with_one f t)
param_on params at_question t f says p h = (p, λ z. h (t ∷ z) ∙ ap (λ y. opened_params params (y ∷ z)) says)
param_on params (at_base base) t f says p h = (p, λ z. h (t ∷ z) ∙ ap (opened_params params) (sym (says z)))
param_on params at_reference t f says p h = marked_on params None at_reference t f says p h
param_on params at_variadic t f says p h = marked_on params None at_variadic t f says p h
param_on params (at_variable text) t f says p h = marked_on params None (at_variable text) t f says p h
param_on params at_other t f says p h = tt

result_on : (params : Params) (x : ParamRole) (t : Symbol) (f : List Symbol → List Symbol) → RoleSays x t
    → AreProperParams params → ((z : List Symbol) → f z ≡ closed_params params (punct mark.Colon ∷ z)) → BegunIf (result_step params x) (with_one f t)
result_on params at_question t f says p h = (p, λ z. h (t ∷ z) ∙ ap (λ y. closed_params params (punct mark.Colon ∷ y ∷ z)) says)
result_on params (at_base base) t f says p h = (p, λ z. h (t ∷ z) ∙ ap (λ y. closed_params params (punct mark.Colon ∷ y)) (sym (says z)))
result_on params _ t f says p h = tt

nullable_on : (params : Params) (x : ParamRole) (t : Symbol) (f : List Symbol → List Symbol) → RoleSays x t
    → AreProperParams params → ((z : List Symbol) → f z ≡ closed_params params (punct mark.Colon ∷ punct mark.Question ∷ z)) → BegunIf (nullable_result_step params x) (with_one f t)
nullable_on params (at_base base) t f says p h = (p, λ z. h (t ∷ z) ∙ ap (λ y. closed_params params (punct mark.Colon ∷ punct mark.Question ∷ y)) (sym (says z)))
nullable_on params _ t f says p h = tt

-- ---- the end of a parameter

abbrev EndingSays : Ending → Symbol → Type 0
EndingSays (closer c) t = t ≡ closer_symbol c
EndingSays _ t = Unit {0}

ending_of_says : (x : Continuation) (t : Symbol) → Says x t → EndingSays (ending_of x) t
ending_of_says (closes c) t says = says
ending_of_says _ t says = tt

ending_says : (t : Symbol) → EndingSays (ending t) t
ending_says (keyword word.As) = tt
ending_says t = ending_of_says (continuation t) t (continuation_says t)

-- a whole parameter
end_on : (params : Params) (p : Param Nothing) (e : Ending) (t : Symbol) (f : List Symbol → List Symbol) → EndingSays e t → AreProperParams params → IsProperParam p
    → ((z : List Symbol) → f z ≡ opened_params params (spell_param p z)) → BegunIf (param_end (then_also params p) e) (with_one f t)
end_on params p (closer ender.Comma) t f says proper own h = ((proper, own), λ z. h (t ∷ z) ∙ ap (λ y. opened_params params (spell_param p (y ∷ z))) says)
end_on params p (closer ender.Paren) t f says proper own h = ((proper, own), λ z. h (t ∷ z) ∙ ap (λ y. opened_params params (spell_param p (y ∷ z))) says)
end_on params p (closer _) t f says proper own h = tt
end_on params p as_word t f says proper own h = tt
end_on params p no_ending t f says proper own h = tt

inside_none : Inside (expects []) []
inside_none = record { reads = λ z. refl }

name_on : (b : Bool) (params : Params) (p : Param Nothing) (o : Option SignatureState) (t : Symbol) (f : List Symbol → List Symbol) → is_assign t ≡ b → AreProperParams params
    → ((z : List Symbol) → f z ≡ opened_params params (spell_front p z)) → BegunIf o (with_one f t) → BegunIf (pick b (Some (in_default params p (expects []))) o) (with_one f t)
name_on true params p o t f is proper h other = (proper, [], inside_none, λ z. h (t ∷ z) ∙ ap (λ y. opened_params params (spell_front p (y ∷ z))) (assign_is t is))
name_on false params p o t f is proper h other = other

whole_param : (p : Param Nothing) → p.default ≡ None → IsProperParam p
whole_param p h = subst IfAny (sym h) tt

param_spelled : (p : Param Nothing) (z : List Symbol) → p.default ≡ None → spell_front p z ≡ spell_param p z
param_spelled p z h = ap (λ v. spell_front p (spell_value v z)) (sym h)

-- an expression that is over
value_ended : (params : Params) (p : Param Nothing) (o : Option Form) (m : State) (u : List Symbol) (t : Symbol) (f : List Symbol → List Symbol) → advance m t ≡ None → whole_before m t ≡ o → AreProperParams params → Inside m u
    → ((z : List Symbol) → f z ≡ opened_params params (spell_front p (punct mark.Assign ∷ (u ++ z))))
    → BegunIf (if_some o (λ e. param_end (then_also params (with_default p e)) (ending t))) (with_one f t)
value_ended params p None m u t f is whole proper i h = tt
value_ended params p (Some e) m u t f is whole proper i h =
    let w = ended_whole m u t e is i whole in
    end_on params (with_default p e) (ending t) t f (ending_says t) proper w.proper
    (λ z. h z ∙ ap (λ y. opened_params params (spell_front p (punct mark.Assign ∷ y))) (whole_front e u z w))

value_on : (params : Params) (p : Param Nothing) (o : Option State) (m : State) (u : List Symbol) (t : Symbol) (f : List Symbol → List Symbol) → advance m t ≡ o → AreProperParams params → Inside m u
    → ((z : List Symbol) → f z ≡ opened_params params (spell_front p (punct mark.Assign ∷ (u ++ z))))
    → BegunIf (either (if_some o (λ n. Some (in_default params p n))) (if_some (whole_before m t) (λ e. param_end (then_also params (with_default p e)) (ending t)))) (with_one f t)
value_on params p (Some x) m u t f is proper i h =
    (proper, u ++ t ∷ [], inside_more m x u t is i, λ z. h (t ∷ z) ∙ ap (λ y. opened_params params (spell_front p (punct mark.Assign ∷ y))) (sym (append_assoc u (t ∷ []) z)))
value_on params p None m u t f is proper i h = value_ended params p (whole_before m t) m u t f is refl proper i h

-- ---- all states

open_on : (b : Bool) (t : Symbol) (f : List Symbol → List Symbol) → is_paren t ≡ b → ((z : List Symbol) → f z ≡ z) → BegunIf (pick b (Some (due_param empty)) None) (with_one f t)
open_on true t f is h = (tt, λ z. h (t ∷ z) ∙ ap (λ y. y ∷ z) (paren_is t is))
open_on false t f is h = tt

colon_on : (b : Bool) (params : Params) (t : Symbol) (f : List Symbol → List Symbol) → is_colon t ≡ b → AreProperParams params → ((z : List Symbol) → f z ≡ closed_params params z)
    → BegunIf (pick b (Some (due_result params)) None) (with_one f t)
colon_on true params t f is proper h = (proper, λ z. h (t ∷ z) ∙ ap (λ y. closed_params params (y ∷ z)) (colon_is t is))
colon_on false params t f is proper h = tt

due_on : (b : Bool) (params : Params) (o : Option SignatureState) (t : Symbol) (f : List Symbol → List Symbol) → is_right_paren t ≡ b → AreProperParams params
    → ((z : List Symbol) → f z ≡ opened_params params z) → BegunIf o (with_one f t) → BegunIf (pick b (pick (is_empty params) (Some (past_params params)) None) o) (with_one f t)
due_on true empty o t f is proper h other = (tt, λ z. h (t ∷ z) ∙ ap (λ y. punct mark.LeftParen ∷ y ∷ z) (end_is t is))
due_on true (then_also params p) o t f is proper h other = tt
due_on false params o t f is proper h other = other

pub begun_on : (m : SignatureState) (t : Symbol) (f : List Symbol → List Symbol) → Begun m f → BegunIf (advance_signature m t) (with_one f t)
begun_on due_signature t f b = open_on (is_paren t) t f refl b
begun_on (due_param params) t f b = due_on (is_right_paren t) params (param_step params (param_role t)) t f refl b.0 b.1 (param_on params (param_role t) t f (role_says t) b.0 b.1)
begun_on (past_question params) t f b = question_on params (param_role t) t f (role_says t) b.0 b.1
begun_on (past_type params declared) t f b = marked_on params declared (param_role t) t f (role_says t) b.0 b.1
begun_on (past_reference params declared) t f b = reference_on params declared (param_role t) t f (role_says t) b.0 b.1
begun_on (past_variadic params declared r) t f b = variadic_on params declared r (param_role t) t f (role_says t) b.0 b.1
begun_on (past_param params p) t f b =
    name_on (is_assign t) params p (param_end (then_also params p) (ending t)) t f refl b.0 b.2
    (end_on params p (ending t) t f (ending_says t) b.0 (whole_param p b.1) (λ z. b.2 z ∙ ap (opened_params params) (param_spelled p z b.1)))
begun_on (in_default params p m) t f b = value_on params p (advance m t) m b.1 t f refl b.0 b.2 b.3
begun_on (past_params params) t f b = colon_on (is_colon t) params t f refl b.0 b.1
begun_on (due_result params) t f b = result_on params (param_role t) t f (role_says t) b.0 b.1
begun_on (past_result_question params) t f b = nullable_on params (param_role t) t f (role_says t) b.0 b.1
begun_on (past_signature s) t f b = tt

-- ---- where it halts

pub record HaltsWell (s : Signature Nothing) (spelling : List Symbol) : Type 0 where
  pub proper : IsProperSignature s
  pub spelled : spell_signature s [] ≡ spelling

due_halts : (params : Params) (w : List Symbol) (f : List Symbol → List Symbol) → AreProperParams params → ((z : List Symbol) → f z ≡ opened_params params z)
    → HaltsWell (halt_signature (due_param params) w).tree (f (halt_signature (due_param params) w).missing)
due_halts empty w f proper h = record { proper = tt; spelled = sym (h closing) }
due_halts (then_also params p) w f proper h = record { proper = (proper, tt); spelled = sym (h (halt_signature (due_param (then_also params p)) w).missing) }

value_halts : (params : Params) (p : Param Nothing) (m : State) (w u : List Symbol) (f : List Symbol → List Symbol) → AreProperParams params → Inside m u
    → ((z : List Symbol) → f z ≡ opened_params params (spell_front p (punct mark.Assign ∷ (u ++ z))))
    → HaltsWell (halt_signature (in_default params p m) w).tree (f (halt_signature (in_default params p m) w).missing)
value_halts params p m w u f proper i h =
    let c = closed_whole m u i in
    let r = halt m closing in
    record {
      proper = (proper, c.proper);
      spelled = ap (λ y. opened_params params (spell_front p (punct mark.Assign ∷ y)))
          (spell_append (halt m closing).tree [] closing ∙ ap (λ y. y ++ closing) c.spelled ∙ append_assoc u (halt m closing).missing closing
          ∙ ap (λ y. u ++ ((halt m closing).missing ++ y)) (sym (halt_unread m closing)))
          ∙ sym (h ((halt m closing).missing ++ (halt m closing).unread));
    }

pub begun_halts : (m : SignatureState) (w : List Symbol) (f : List Symbol → List Symbol) → Begun m f → HaltsWell (halt_signature m w).tree (f (halt_signature m w).missing)
begun_halts due_signature w f b = record { proper = tt; spelled = sym (b (halt_signature due_signature w).missing) }
begun_halts (due_param params) w f b = due_halts params w f b.0 b.1
begun_halts (past_question params) w f b = record { proper = (b.0, tt); spelled = sym (b.1 (halt_signature (past_question params) w).missing) }
begun_halts (past_type params declared) w f b = record { proper = (b.0, tt); spelled = sym (b.1 (halt_signature (past_type params declared) w).missing) }
begun_halts (past_reference params declared) w f b = record { proper = (b.0, tt); spelled = sym (b.1 (halt_signature (past_reference params declared) w).missing) }
begun_halts (past_variadic params declared r) w f b = record { proper = (b.0, tt); spelled = sym (b.1 (halt_signature (past_variadic params declared r) w).missing) }
begun_halts (past_param params p) w f b =
    record { proper = (b.0, whole_param p b.1); spelled = ap (opened_params params) (sym (param_spelled p closing b.1)) ∙ sym (b.2 closing) }
begun_halts (in_default params p m) w f b = value_halts params p m w b.1 f b.0 b.2 b.3
begun_halts (past_params params) w f b = record { proper = b.0; spelled = sym (b.1 []) }
begun_halts (due_result params) w f b = record { proper = b.0; spelled = sym (b.1 (halt_signature (due_result params) w).missing) }
begun_halts (past_result_question params) w f b = record { proper = b.0; spelled = sym (b.1 (halt_signature (past_result_question params) w).missing) }
begun_halts (past_signature s) w f b = record { proper = b.0; spelled = sym (b.1 []) }
