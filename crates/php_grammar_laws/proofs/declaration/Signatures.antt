-- The laws of the machine of signatures.
use Rattle.std.proofs.Common.{◌≡◌, ◌≢◌, Bool, Some, None, List, [], ◌∷◌, ◌++◌, refl, sym, ◌∙◌, ap, subst}
use Rattle.php_token.specs.declared.kind.Keyword.{Keyword}
use Rattle.php_token.specs.declared.kind.Keyword.TheVariants as word
use Rattle.php_token.specs.declared.kind.Punct.{Punct}
use Rattle.php_token.specs.declared.kind.Punct.TheVariants as mark
use Rattle.php_ast.specs.Symbol as symbol
use Rattle.php_ast.specs.Symbol.{Symbol, keyword, punct}
use Rattle.php_ast.specs.statement.Tree.{empty, then_also}
use Rattle.php_ast.specs.statement.Spelling.{separator, commas, symbol_if, spell_dollar, spell_value}
use Rattle.php_ast.specs.statement.Proper.{is_empty, Each, IfAny}
use Rattle.php_ast.specs.declaration.Tree.{Base, of_name, of_array, of_callable, Type_of, Param, Signature}
use Rattle.php_ast.specs.declaration.Spelling.{spell_base, spell_type, spell_declared, spell_param, spell_result, spell_signature}
use Rattle.php_ast.specs.declaration.Proper.{IsProperParam, IsProperSignature}
use Rattle.php_grammar.specs.declared.closer.Closer.TheVariants as ender
use Rattle.php_grammar.specs.Begins.{BeginsSignature}
use Rattle.php_grammar.specs.expression.Role.{is_paren, is_right_paren, is_colon}
use Rattle.php_grammar.specs.expression.Machine.{Nothing, State, expects, any_symbol, pick, halt}
use Rattle.php_grammar.specs.statement.Role.{Ending, closer, ending, is_assign}
use Rattle.php_grammar.specs.declaration.Laws.{SpellsSignature, SignatureEnds, ResultEnds}
use Rattle.php_grammar.specs.declaration.SignatureMachine.{ParamRole, at_base, at_variable, at_question, at_reference, at_variadic, at_other, param_keyword, param_punct, param_role, Params, Declared, SignatureState, due_signature, due_param, past_question, past_type, past_reference, past_variadic, past_param, in_default, past_params, due_result, past_result_question, past_signature, with_default, marked_step, reference_step, variadic_step, param_step, question_step, due_param_step, param_end, result_step, nullable_result_step, advance_signature, closing, with_param, due_param_rest, any_word, halt_signature, read_signature}
use Rattle.php_grammar.proofs.expression.Roles.{paren_says, right_paren_says, colon_says}
use Rattle.php_grammar.proofs.expression.Sound.{symbols_so_far}
use Rattle.php_grammar.proofs.declaration.SignatureBack.{signatures_read_back, signature_halts}
use Rattle.php_grammar_laws.specs.Signatures.{BeginsAsSignature}
use Rattle.php_grammar_laws.proofs.Stops.{LeavesUnread, stops_exactly_by, unfinished_by}
use Rattle.php_grammar_laws.proofs.Appends.{Appends, both, before, in_front, if_appends, value_appends, separated_appends}
use Rattle.php_grammar_laws.proofs.Wholes.{IsInner, through_leads, halts_inside, HaltsInside}
use Rattle.php_grammar_laws.proofs.Begins.{Front, Same, with_one, next, Leads, pick_leads, Begins, begins_by}
use Rattle.php_grammar_laws.proofs.Says.{EndingSays, ending_says, test_is, assign_says}
use Rattle.php_grammar_laws.proofs.statement.Steps.{nothing_read}
use Rattle.php_grammar_laws.proofs.statement.Laws.{inside_spells}

-- ---- what the roles say

abbrev base_symbol : Base Nothing → Symbol
base_symbol (of_name n) = symbol.name n.text
base_symbol of_array = keyword word.Array
base_symbol of_callable = keyword word.Callable

base_spells : (base : Base Nothing) (w : List Symbol) → spell_base base w ≡ base_symbol base ∷ w
base_spells (of_name n) w = refl
base_spells of_array w = refl
base_spells of_callable w = refl

abbrev ParamSays : ParamRole → Symbol → Type 0
ParamSays (at_base base) t = t ≡ base_symbol base
ParamSays (at_variable text) t = t ≡ symbol.variable text
ParamSays at_question t = t ≡ punct mark.Question
ParamSays at_reference t = t ≡ punct mark.Ampersand
ParamSays at_variadic t = t ≡ punct mark.Ellipsis
ParamSays at_other t = Unit {0}

param_keyword_says : (k : Keyword) → ParamSays (param_keyword k) (keyword k)
param_keyword_says word.Array = refl
param_keyword_says word.Callable = refl
param_keyword_says _ = tt

param_punct_says : (p : Punct) → ParamSays (param_punct p) (punct p)
param_punct_says mark.Question = refl
param_punct_says mark.Ampersand = refl
param_punct_says mark.Ellipsis = refl
param_punct_says _ = tt

param_says : (t : Symbol) → ParamSays (param_role t) t
param_says (symbol.name text) = refl
param_says (symbol.variable text) = refl
param_says (keyword k) = param_keyword_says k
param_says (punct p) = param_punct_says p
param_says _ = tt

-- ---- what the states stand for

abbrev params_front : Params → Front
params_front params w = punct mark.LeftParen ∷ commas spell_param params (separator (punct mark.Comma) params w)

abbrev closed_front : Params → Front
closed_front params w = punct mark.LeftParen ∷ commas spell_param params (punct mark.RightParen ∷ w)

-- a parameter without its value
abbrev named_front : Param Nothing → Front
named_front p w = spell_declared p.declared (symbol_if p.is_reference (punct mark.Ampersand) (symbol_if p.is_variadic (punct mark.Ellipsis) (spell_dollar p.name w)))

abbrev state_front : SignatureState → Front
state_front due_signature w = w
state_front (due_param params) w = params_front params w
state_front (past_question params) w = params_front params (punct mark.Question ∷ w)
state_front (past_type params declared) w = params_front params (spell_declared declared w)
state_front (past_reference params declared) w = params_front params (spell_declared declared (punct mark.Ampersand ∷ w))
state_front (past_variadic params declared is_reference) w = params_front params (spell_declared declared (symbol_if is_reference (punct mark.Ampersand) (punct mark.Ellipsis ∷ w)))
state_front (past_param params p) w = params_front params (named_front p w)
state_front (in_default params p m) w = params_front params (named_front p (punct mark.Assign ∷ symbols_so_far m w))
state_front (past_params params) w = closed_front params w
state_front (due_result params) w = closed_front params (punct mark.Colon ∷ w)
state_front (past_result_question params) w = closed_front params (punct mark.Colon ∷ punct mark.Question ∷ w)
state_front (past_signature s) w = spell_signature s w

abbrev SoundParams : Params → Type 0
SoundParams params = Each IsProperParam params

abbrev SoundState : SignatureState → Type 0
SoundState due_signature = Unit {0}
SoundState (due_param params) = SoundParams params
SoundState (past_question params) = SoundParams params
SoundState (past_type params declared) = SoundParams params
SoundState (past_reference params declared) = SoundParams params
SoundState (past_variadic params declared is_reference) = SoundParams params
SoundState (past_param params p) = SoundParams params × (p.default ≡ None)
SoundState (in_default params p m) = SoundParams params × IsInner m
SoundState (past_params params) = SoundParams params
SoundState (due_result params) = SoundParams params
SoundState (past_result_question params) = SoundParams params
SoundState (past_signature s) = IsProperSignature s

abbrev pub ReachedSignature : SignatureState → Front → Type 0
ReachedSignature m f = SoundState m × Same (state_front m) f

-- ---- steps

marked_leads : (x : ParamRole) (params : Params) (declared : Declared) (t : Symbol) (f : Front) → ParamSays x t → SoundParams params → Same (λ w. params_front params (spell_declared declared w)) f
    → Leads ReachedSignature (with_one f t) (marked_step params declared x)
marked_leads at_reference params declared t f is h same = (h, λ w. next (λ v. params_front params (spell_declared declared v)) f t _ is same w)
marked_leads at_variadic params declared t f is h same = (h, λ w. next (λ v. params_front params (spell_declared declared v)) f t _ is same w)
marked_leads (at_variable text) params declared t f is h same = ((h, refl), λ w. next (λ v. params_front params (spell_declared declared v)) f t _ is same w)
marked_leads _ params declared t f is h same = tt

reference_leads : (x : ParamRole) (params : Params) (declared : Declared) (t : Symbol) (f : Front) → ParamSays x t → SoundParams params
    → Same (λ w. params_front params (spell_declared declared (punct mark.Ampersand ∷ w))) f → Leads ReachedSignature (with_one f t) (reference_step params declared x)
reference_leads at_variadic params declared t f is h same = (h, λ w. next (λ v. params_front params (spell_declared declared (punct mark.Ampersand ∷ v))) f t _ is same w)
reference_leads (at_variable text) params declared t f is h same = ((h, refl), λ w. next (λ v. params_front params (spell_declared declared (punct mark.Ampersand ∷ v))) f t _ is same w)
reference_leads _ params declared t f is h same = tt

variadic_leads : (x : ParamRole) (params : Params) (declared : Declared) (r : Bool) (t : Symbol) (f : Front) → ParamSays x t → SoundParams params
    → Same (λ w. params_front params (spell_declared declared (symbol_if r (punct mark.Ampersand) (punct mark.Ellipsis ∷ w)))) f → Leads ReachedSignature (with_one f t) (variadic_step params declared r x)
variadic_leads (at_variable text) params declared r t f is h same =
    ((h, refl), λ w. next (λ v. params_front params (spell_declared declared (symbol_if r (punct mark.Ampersand) (punct mark.Ellipsis ∷ v)))) f t _ is same w)
variadic_leads _ params declared r t f is h same = tt

-- a base behind something
based : (base : Base Nothing) (g f : Front) (t : Symbol) → t ≡ base_symbol base → Same g f → (w : List Symbol) → g (spell_base base w) ≡ f (t ∷ w)
based base g f t is same w = ap g (base_spells base w) ∙ next g f t (base_symbol base) is same w

param_leads : (x : ParamRole) (params : Params) (t : Symbol) (f : Front) → ParamSays x t → SoundParams params → Same (params_front params) f → Leads ReachedSignature (with_one f t) (param_step params x)
param_leads at_question params t f is h same = (h, λ w. next (params_front params) f t _ is same w)
param_leads (at_base base) params t f is h same = (h, λ w. based base (params_front params) f t is same w)
param_leads x params t f is h same = marked_leads x params None t f is h same

question_leads : (x : ParamRole) (params : Params) (t : Symbol) (f : Front) → ParamSays x t → SoundParams params → Same (λ w. params_front params (punct mark.Question ∷ w)) f
    → Leads ReachedSignature (with_one f t) (question_step params x)
question_leads (at_base base) params t f is h same = (h, λ w. based base (λ v. params_front params (punct mark.Question ∷ v)) f t is same w)
question_leads _ params t f is h same = tt

ended_params : (params : Params) (t : Symbol) (f : Front) → t ≡ punct mark.RightParen → SoundParams params → Same (params_front params) f
    → Leads ReachedSignature (with_one f t) (pick (is_empty params) (Some (past_params params)) None)
ended_params empty t f is h same = (h, λ w. next (params_front empty) f t _ is same w)
ended_params (then_also params p) t f is h same = tt

due_param_leads : (params : Params) (t : Symbol) (f : Front) → SoundParams params → Same (params_front params) f → Leads ReachedSignature (with_one f t) (due_param_step params t)
due_param_leads params t f h same =
    pick_leads ReachedSignature (with_one f t) (is_right_paren t) (pick (is_empty params) (Some (past_params params)) None) (param_step params (param_role t))
    (λ b. ended_params params t f (test_is (is_right_paren t) t (punct mark.RightParen) (right_paren_says t) b) h same) (λ b. param_leads (param_role t) params t f (param_says t) h same)

param_end_leads : (x : Ending) (params : Params) (p : Param Nothing) (t : Symbol) (f : Front) → EndingSays x t → SoundParams (then_also params p) → Same (λ w. params_front params (spell_param p w)) f
    → Leads ReachedSignature (with_one f t) (param_end (then_also params p) x)
param_end_leads (closer ender.Comma) params p t f is h same = (h, λ w. next (λ v. params_front params (spell_param p v)) f t _ is same w)
param_end_leads (closer ender.Paren) params p t f is h same = (h, λ w. next (λ v. params_front params (spell_param p v)) f t _ is same w)
param_end_leads _ params p t f is h same = tt

lacks_value : (p : Param Nothing) (w : List Symbol) → p.default ≡ None → spell_param p w ≡ named_front p w
lacks_value p w is = ap (λ d. named_front p (spell_value d w)) is

proper_param : (p : Param Nothing) → p.default ≡ None → IsProperParam p
proper_param p is = subst IfAny (sym is) tt

result_leads : (x : ParamRole) (params : Params) (t : Symbol) (f : Front) → ParamSays x t → SoundParams params → Same (λ w. closed_front params (punct mark.Colon ∷ w)) f
    → Leads ReachedSignature (with_one f t) (result_step params x)
result_leads at_question params t f is h same = (h, λ w. next (λ v. closed_front params (punct mark.Colon ∷ v)) f t _ is same w)
result_leads (at_base base) params t f is h same = (h, λ w. based base (λ v. closed_front params (punct mark.Colon ∷ v)) f t is same w)
result_leads _ params t f is h same = tt

nullable_leads : (x : ParamRole) (params : Params) (t : Symbol) (f : Front) → ParamSays x t → SoundParams params → Same (λ w. closed_front params (punct mark.Colon ∷ punct mark.Question ∷ w)) f
    → Leads ReachedSignature (with_one f t) (nullable_result_step params x)
nullable_leads (at_base base) params t f is h same = (h, λ w. based base (λ v. closed_front params (punct mark.Colon ∷ punct mark.Question ∷ v)) f t is same w)
nullable_leads _ params t f is h same = tt

pub signature_leads : (m : SignatureState) (f : Front) (t : Symbol) → ReachedSignature m f → Leads ReachedSignature (with_one f t) (advance_signature m t)
signature_leads due_signature f t h =
    pick_leads ReachedSignature (with_one f t) (is_paren t) (Some (due_param empty)) None
    (λ b. (tt, λ w. next (λ v. v) f t (punct mark.LeftParen) (test_is (is_paren t) t (punct mark.LeftParen) (paren_says t) b) h.1 w)) (λ b. tt)
signature_leads (due_param params) f t h = due_param_leads params t f h.0 h.1
signature_leads (past_question params) f t h = question_leads (param_role t) params t f (param_says t) h.0 h.1
signature_leads (past_type params declared) f t h = marked_leads (param_role t) params declared t f (param_says t) h.0 h.1
signature_leads (past_reference params declared) f t h = reference_leads (param_role t) params declared t f (param_says t) h.0 h.1
signature_leads (past_variadic params declared r) f t h = variadic_leads (param_role t) params declared r t f (param_says t) h.0 h.1
signature_leads (past_param params p) f t h =
    pick_leads ReachedSignature (with_one f t) (is_assign t) (Some (in_default params p (expects []))) (param_end (then_also params p) (ending t))
    (λ b. ((h.0.0, nothing_read), λ w. next (λ v. params_front params (named_front p v)) f t (punct mark.Assign) (test_is (is_assign t) t (punct mark.Assign) (assign_says t) b) h.1 w))
    (λ b. param_end_leads (ending t) params p t f (ending_says t) (h.0.0, proper_param p h.0.1) (λ w. ap (params_front params) (lacks_value p w h.0.1) ∙ h.1 w))
signature_leads (in_default params p m) f t h =
    through_leads (Leads ReachedSignature (with_one f t)) m t (λ n. in_default params p n) (λ e. param_end (then_also params (with_default p e)) (ending t)) h.0.1
    (λ n i moves. ((h.0.0, i), λ w. ap (λ u. params_front params (named_front p (punct mark.Assign ∷ u))) (sym (moves w)) ∙ h.1 (t ∷ w)))
    (λ e whole spelled. param_end_leads (ending t) params (with_default p e) t f (ending_says t) (h.0.0, whole.proper)
    (λ w. ap (λ u. params_front params (named_front p (punct mark.Assign ∷ u))) (sym (spelled w)) ∙ h.1 w))
    tt
signature_leads (past_params params) f t h =
    pick_leads ReachedSignature (with_one f t) (is_colon t) (Some (due_result params)) None
    (λ b. (h.0, λ w. next (closed_front params) f t (punct mark.Colon) (test_is (is_colon t) t (punct mark.Colon) (colon_says t) b) h.1 w)) (λ b. tt)
signature_leads (due_result params) f t h = result_leads (param_role t) params t f (param_says t) h.0 h.1
signature_leads (past_result_question params) f t h = nullable_leads (param_role t) params t f (param_says t) h.0 h.1
signature_leads (past_signature s) f t h = tt

-- ---- halting

rest_spelled : (params : Params) (f : Front) (w : List Symbol) → SoundParams params → Same (params_front params) f → SpellsSignature (due_param_rest params w).tree (f (due_param_rest params w).missing)
rest_spelled empty f w h same = (tt, same closing)
rest_spelled (then_also params p) f w h same = ((h, tt), same (any_symbol ∷ closing))

default_spelled : (params : Params) (p : Param Nothing) (m : State) (f : Front) → SoundParams params → IsInner m → Same (λ w. params_front params (named_front p (punct mark.Assign ∷ symbols_so_far m w))) f
    → SpellsSignature (with_param params (with_default p (halt m closing).tree)) (f ((halt m closing).missing ++ (halt m closing).unread))
default_spelled params p m f h inner same =
    let i : HaltsInside m closing (halt m closing) = halts_inside m closing inner.sound in
    ((h, i.proper), ap (λ u. params_front params (named_front p (punct mark.Assign ∷ u))) (inside_spells m closing inner i) ∙ same ((halt m closing).missing ++ (halt m closing).unread))

pub signature_spelled : (m : SignatureState) (f : Front) (w : List Symbol) → ReachedSignature m f → SpellsSignature (halt_signature m w).tree (f (halt_signature m w).missing)
signature_spelled due_signature f w h = (tt, h.1 (punct mark.LeftParen ∷ closing))
signature_spelled (due_param params) f w h = rest_spelled params f w h.0 h.1
signature_spelled (past_question params) f w h = ((h.0, tt), h.1 (any_word ∷ any_symbol ∷ closing))
signature_spelled (past_type params declared) f w h = ((h.0, tt), h.1 (any_symbol ∷ closing))
signature_spelled (past_reference params declared) f w h = ((h.0, tt), h.1 (any_symbol ∷ closing))
signature_spelled (past_variadic params declared r) f w h = ((h.0, tt), h.1 (any_symbol ∷ closing))
signature_spelled (past_param params p) f w h = ((h.0.0, proper_param p h.0.1), ap (params_front params) (lacks_value p closing h.0.1) ∙ h.1 closing)
signature_spelled (in_default params p m) f w h = default_spelled params p m f h.0.0 h.0.1 h.1
signature_spelled (past_params params) f w h = (h.0, h.1 [])
signature_spelled (due_result params) f w h = (h.0, h.1 (any_word ∷ []))
signature_spelled (past_result_question params) f w h = (h.0, h.1 (any_word ∷ []))
signature_spelled (past_signature s) f w h = (h.0, h.1 [])

-- ---- in front of anything

base_appends : (base : Base Nothing) → Appends (spell_base base)
base_appends (of_name n) = record { at = λ v w. refl }
base_appends of_array = record { at = λ v w. refl }
base_appends of_callable = record { at = λ v w. refl }

type_appends : (x : Type_of Nothing) → Appends (spell_type x)
type_appends x = record { at = λ v w. (both (if_appends x.is_nullable (punct mark.Question)) (base_appends x.base)).at v w }

declared_appends : (x : Declared) → Appends (spell_declared x)
declared_appends None = record { at = λ v w. refl }
declared_appends (Some x) = record { at = λ v w. (type_appends x).at v w }

param_appends : (p : Param Nothing) → Appends (spell_param p)
param_appends p =
    record {
      at = λ v w. (both (declared_appends p.declared) (both (if_appends p.is_reference (punct mark.Ampersand)) (both (if_appends p.is_variadic (punct mark.Ellipsis))
          (before (symbol.variable p.name.text) (value_appends p.default))))).at v w;
    }

result_appends : (x : Declared) → Appends (spell_result x)
result_appends None = record { at = λ v w. refl }
result_appends (Some x) = record { at = λ v w. (before (punct mark.Colon) (type_appends x)).at v w }

pub signature_appends : (s : Signature Nothing) → Appends (spell_signature s)
signature_appends s =
    record { at = λ v w. (before (punct mark.LeftParen) (both (separated_appends (punct mark.Comma) spell_param param_appends s.params) (before (punct mark.RightParen) (result_appends s.result)))).at v w }

-- ---- laws

pub leaves : LeavesUnread SignatureState (Signature Nothing) halt_signature
leaves = signature_halts.unread

pub reading_begins : (w : List Symbol) → BeginsAsSignature w (read_signature w)
reading_begins w =
    let b : Begins SpellsSignature (λ v. v) w (read_signature w) =
    begins_by advance_signature halt_signature SpellsSignature ReachedSignature leaves signature_spelled signature_leads w due_signature (λ v. v) (tt, λ v. refl) in
    record { proper = b.spelled.0; done = b.done; whole = b.whole; spelled = b.spelled.1 }

pub unfinished : (w v : List Symbol) (s : Signature Nothing) → SpellsSignature s w → SignatureEnds s v → (read_signature (w ++ v)).missing ≢ [] → ⊥
unfinished w v s h ends lacks =
    unfinished_by (read_signature (w ++ v)) s v
    (ap (λ u. read_signature (u ++ v)) (sym h.1) ∙ ap read_signature (sym (in_front (signature_appends s) v)) ∙ signatures_read_back s v h.0 ends) lacks

pub ends_at_end : (x : Declared) → ResultEnds x []
ends_at_end None = tt
ends_at_end (Some x) = tt

pub all_read : (w : List Symbol) (s : Signature Nothing) → SpellsSignature s w → read_signature w ≡ record { tree = s; missing = []; unread = [] }
all_read w s h = ap read_signature (sym h.1) ∙ signatures_read_back s [] h.0 (ends_at_end s.result)

pub stops_exactly : (w done : List Symbol) (t : Symbol) (v : List Symbol) → w ≡ done ++ t ∷ v → (read_signature w).unread ≡ t ∷ v → BeginsSignature (done ++ t ∷ []) → ⊥
stops_exactly w done t v is h b =
    stops_exactly_by advance_signature halt_signature leaves due_signature w done t v b.rest is h (ap (λ r. r.unread) (all_read ((done ++ t ∷ []) ++ b.rest) b.tree b.spelled))
