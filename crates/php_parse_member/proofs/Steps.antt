-- How the machine of members moves.
use Rattle.std.proofs.Common.{◌≡◌, ◌≢◌, ◌≤◌, ◌<◌, ℕ, suc, ◌+◌, true, false, Some, None, List, [], ◌∷◌, refl, sym, ◌∙◌, ap, subst, arith}
use Rattle.php_token.specs.Token.{Token}
use Rattle.php_ast.specs.declared.declaration.ModifierWord.{ModifierWord}
use Rattle.php_ast.specs.Symbol.{Symbol}
use Rattle.php_ast.specs.statement.Tree.{empty, then_also}
use Rattle.php_ast.specs.declaration.Tree.{Member}
use Rattle.php_ast.specs.declaration.Placed.{size_joined, size_modifier}
use Rattle.php_grammar.specs.expression.Machine.{Nothing}
use Rattle.php_grammar.specs.declaration.Depth.{member_depth_at}
use Rattle.php_grammar.specs.declaration.FunctionMachine.{method_form, Routine, past_function}
use Rattle.php_grammar.specs.declaration.MemberMachine.{MemberRole, at_modifier, at_function, at_class_constants, at_use, at_variable, at_other, member_role, Word, Modifiers, with_modifier, MemberState, past_modifiers, due_constant, due_property, in_method, past_member, first_step, due_property_step, method_of, advance_member, halt_member}
use Rattle.php_grammar_laws.specs.Walks.{whole, short, deep, outcome, resumed, walk_function, walk_member}
use Rattle.php_grammar_laws.proofs.Instances.{members_lend_functions}
use Rattle.php_reader.specs.declared.fail.Stop.{Stop}
use Rattle.php_reader.specs.declared.fail.Stop.TheVariants.{Syntax, TooDeep, NoMemory}
use Rattle.php_reader.specs.Seen.{Shows, rest}
use Rattle.php_parse_member.specs.declared.lead.Lead.{Lead}
use Rattle.php_parse_member.specs.declared.lead.Lead.TheVariants as lead
use Rattle.php_parse_member.specs.LeadView.{lead_view, head_lead, SeesLead}
use Rattle.php_parse_member.specs.Walk.{Leads, Halts}
use Rattle.php_parse_member.specs.Answer.{Fails, IsNoModifier}
use Rattle.php_parse_member.proofs.Moves.{go, sinks, sticks, alike, resumed_stopped}

-- one symbol
pub step : {room : ℕ} {x : List Symbol} {from : MemberState} (to : MemberState) (t : Symbol) (w : List Symbol) → x ≡ t ∷ w → advance_member from t ≡ Some to → member_depth_at from t + 1 ≤ room → Leads walk_member room from x to w
step {room} {x} {from} to t w is on low =
    record { same = λ n at. ap (walk_member n from) is ∙ go advance_member member_depth_at halt_member n from to t w on (omega (arith, low, at)) }

pub sink : {room : ℕ} {x : List Symbol} {from : MemberState} (to : MemberState) (t : Symbol) (w : List Symbol) → x ≡ t ∷ w → advance_member from t ≡ Some to → room ≤ member_depth_at from t → Halts walk_member true room from x x
sink {room} {x} {from} to t w is on low =
    record { same = λ n at. ap (walk_member n from) is ∙ sinks advance_member member_depth_at halt_member n from to t w on (omega (arith, low, at)) ∙ ap deep (sym is) }

-- where nothing goes on
abbrev pub NoStep : MemberState → List Symbol → Type 0
NoStep from [] = Unit {0}
NoStep from (t ∷ w) = advance_member from t ≡ None

stuck_by : (n : ℕ) (from : MemberState) (x : List Symbol) → ((v : List Symbol) → outcome (halt_member from v) ≡ short v) → NoStep from x → walk_member n from x ≡ short x
stuck_by n from [] lacks h = lacks []
stuck_by n from (t ∷ w) lacks h = sticks advance_member member_depth_at halt_member n from t w h ∙ lacks (t ∷ w)

pub stuck : {room : ℕ} (from : MemberState) (x : List Symbol) → ((v : List Symbol) → outcome (halt_member from v) ≡ short v) → NoStep from x → Halts walk_member false room from x x
stuck from x lacks h = record { same = λ n at. stuck_by n from x lacks h }

-- a member that is over
pub over : (n : ℕ) (m : Member Nothing) (v : List Symbol) → walk_member n (past_member m) v ≡ whole m v
over n m [] = refl
over n m (t ∷ v) = refl

pub comes : {room : ℕ} {from : MemberState} {w v : List Symbol} (m : Member Nothing) → Leads walk_member room from w (past_member m) v → (n : ℕ) → room ≡ suc n → walk_member n from w ≡ whole m v
comes {room} {from} {w} {v} m reads n is = reads.same n is ∙ over n m v

-- ---- what a member begins with

pub constants_begin : {room : ℕ} {x : List Symbol} (ms : Modifiers) (t : Symbol) (w : List Symbol) → x ≡ t ∷ w → member_role t ≡ at_class_constants → 1 ≤ room → Leads walk_member room (past_modifiers ms) x (due_constant ms empty) w
constants_begin empty t w is role low = step (due_constant empty empty) t w is (ap (first_step empty) role) (omega (arith, low))
constants_begin (then_also ms m) t w is role low = step (due_constant (then_also ms m) empty) t w is (ap (first_step (then_also ms m)) role) (omega (arith, low))

pub method_begins : {room : ℕ} {x : List Symbol} (ms : Modifiers) (t : Symbol) (w : List Symbol) → x ≡ t ∷ w → member_role t ≡ at_function → 1 ≤ room → Leads walk_member room (past_modifiers ms) x (in_method ms past_function) w
method_begins empty t w is role low = step (in_method empty past_function) t w is (ap (first_step empty) role) (omega (arith, low))
method_begins (then_also ms m) t w is role low = step (in_method (then_also ms m) past_function) t w is (ap (first_step (then_also ms m)) role) (omega (arith, low))

pub modifier_reads : {room : ℕ} {x : List Symbol} (ms : Modifiers) (word : ModifierWord) (t : Symbol) (w : List Symbol) → x ≡ t ∷ w → member_role t ≡ at_modifier word → 1 ≤ room
    → Leads walk_member room (past_modifiers ms) x (past_modifiers (with_modifier ms word)) w
modifier_reads empty word t w is role low = step (past_modifiers (with_modifier empty word)) t w is (ap (first_step empty) role) (omega (arith, low))
modifier_reads (then_also ms m) word t w is role low = step (past_modifiers (with_modifier (then_also ms m) word)) t w is (ap (first_step (then_also ms m)) role) (omega (arith, low))

-- Behind a modifier a variable is a property; the state that waits for one does the same with it.
properties_by : (room at place : ℕ) (ms : Modifiers) (text : List ℕ) (x : List Symbol) (t : Symbol) (w : List Symbol) → x ≡ t ∷ w → member_role t ≡ at_variable text → at < place → at + size_joined size_modifier ms ≡ place
    → Leads walk_member room (past_modifiers ms) x (due_property ms empty) x
properties_by room at place empty text x t w is role some sized = absurd (omega (arith, some, sized))
properties_by room at place (then_also ms m) text x t w is role some sized = record {
  same = λ n here. ap (walk_member n (past_modifiers (then_also ms m))) is
      ∙ alike advance_member member_depth_at halt_member n (past_modifiers (then_also ms m)) (due_property (then_also ms m) empty) t w
      (ap (first_step (then_also ms m)) role ∙ sym (ap (due_property_step (then_also ms m) empty) role)) refl refl
      ∙ ap (walk_member n (due_property (then_also ms m) empty)) (sym is);
}

pub properties_begin : {room : ℕ} {x : List Symbol} (at place : ℕ) (ms : Modifiers) (text : List ℕ) (t : Symbol) (w : List Symbol) → x ≡ t ∷ w → member_role t ≡ at_variable text → at < place → at + size_joined size_modifier ms ≡ place
    → Leads walk_member room (past_modifiers ms) x (due_property ms empty) x
properties_begin {room} {x} at place ms text t w is role some sized = properties_by room at place ms text x t w is role some sized

-- ---- methods

pub method_comes : {room : ℕ} {x w v : List Symbol} (ms : Modifiers) (f : Routine Word) → Leads walk_member room (past_modifiers empty) x (in_method ms past_function) w
    → ((n : ℕ) → room ≡ suc n → walk_function method_form n past_function w ≡ whole f v) → (n : ℕ) → room ≡ suc n → walk_member n (past_modifiers empty) x ≡ whole (method_of ms f) v
method_comes {room} {x} {w} {v} ms f reads read n is =
    reads.same n is ∙ members_lend_functions n ms past_function w ∙ ap (resumed (λ z. whole (method_of ms z))) (read n is)

pub method_fails : (room : ℕ) (ms : Modifiers) (tokens : List Token) (at : ℕ) (e : Stop) → Fails (walk_function method_form) room past_function (rest tokens at) tokens at e → Fails walk_member room (in_method ms past_function) (rest tokens at) tokens at e
method_fails room ms tokens at (Syntax k) f = record {
  halts = record { same = λ n is. members_lend_functions n ms past_function (rest tokens at) ∙ resumed_stopped false _ (walk_function method_form n past_function (rest tokens at)) (rest tokens k) (f.halts.same n is) };
  ahead = f.ahead;
  within = f.within;
}
method_fails room ms tokens at (TooDeep k) f = record {
  halts = record { same = λ n is. members_lend_functions n ms past_function (rest tokens at) ∙ resumed_stopped true _ (walk_function method_form n past_function (rest tokens at)) (rest tokens k) (f.halts.same n is) };
  ahead = f.ahead;
  within = f.within;
}
method_fails room ms tokens at NoMemory f = tt

-- ---- what no member begins with

abbrev pub NoLead : Modifiers → MemberRole → Type 0
NoLead ms (at_modifier w) = ⊥
NoLead ms at_function = ⊥
NoLead ms at_class_constants = ⊥
NoLead empty at_use = ⊥
NoLead (then_also ms m) (at_variable text) = ⊥
NoLead ms x = Unit {0}

first_none : (ms : Modifiers) (x : MemberRole) → NoLead ms x → first_step ms x ≡ None
first_none empty (at_modifier w) h = absurd h
first_none empty at_function h = absurd h
first_none empty at_class_constants h = absurd h
first_none empty at_use h = absurd h
first_none empty (at_variable text) h = refl
first_none empty at_other h = refl
first_none (then_also ms m) (at_modifier w) h = absurd h
first_none (then_also ms m) at_function h = absurd h
first_none (then_also ms m) at_class_constants h = absurd h
first_none (then_also ms m) at_use h = refl
first_none (then_also ms m) (at_variable text) h = absurd h
first_none (then_also ms m) at_other h = refl

first_stuck : (ms : Modifiers) (w : List Symbol) → NoLead ms (head_lead w) → NoStep (past_modifiers ms) w
first_stuck ms [] h = tt
first_stuck ms (t ∷ w) h = first_none ms (member_role t) h

first_lacks : (ms : Modifiers) (v : List Symbol) → outcome (halt_member (past_modifiers ms) v) ≡ short v
first_lacks empty v = refl
first_lacks (then_also ms m) v = refl

pub none_begins : {room : ℕ} {w : List Symbol} (ms : Modifiers) → NoLead ms (head_lead w) → Halts walk_member false room (past_modifiers ms) w w
none_begins {room} {w} ms h = stuck (past_modifiers ms) w (λ v. first_lacks ms v) (first_stuck ms w h)

-- from what the parser saw, by whether a modifier was read
pub use_late : (at place : ℕ) (ms : Modifiers) (x : MemberRole) → at + size_joined size_modifier ms ≡ place → at < place → x ≡ at_use → NoLead ms x
use_late at place empty x sized late is = absurd (omega (arith, sized, late))
use_late at place (then_also ms m) x sized late is = subst (λ z. NoLead (then_also ms m) z) (sym is) tt

pub variable_early : (at place : ℕ) (ms : Modifiers) (text : List ℕ) (x : MemberRole) → at + size_joined size_modifier ms ≡ place → place ≤ at → x ≡ at_variable text → NoLead ms x
variable_early at place empty text x sized early is = subst (λ z. NoLead empty z) (sym is) tt
variable_early at place (then_also ms m) text x sized early is = absurd (omega (arith, sized, early))

pub other_lead : (ms : Modifiers) (x : MemberRole) → x ≡ at_other → NoLead ms x
other_lead empty x is = subst (λ z. NoLead empty z) (sym is) tt
other_lead (then_also ms m) x is = subst (λ z. NoLead (then_also ms m) z) (sym is) tt

pub lead_is : (tokens : List Token) (at : ℕ) (x : MemberRole) → Shows member_role tokens at x → head_lead (rest tokens at) ≡ x
lead_is tokens at x o = ap head_lead o.stands.is ∙ o.role_is

pub other_behind : (tokens : List Token) (at : ℕ) (ms : Modifiers) (x : Lead) (text : List ℕ) → SeesLead tokens at (lead_view x text) → IsNoModifier x → x ≢ lead.Function → x ≢ lead.Constants → x ≢ lead.Use → x ≢ lead.Variable
    → NoLead ms (head_lead (rest tokens at))
other_behind tokens at ms (lead.Modifier w) text o none a b c d = absurd none
other_behind tokens at ms lead.Function text o none a b c d = absurd (a refl)
other_behind tokens at ms lead.Constants text o none a b c d = absurd (b refl)
other_behind tokens at ms lead.Use text o none a b c d = absurd (c refl)
other_behind tokens at ms lead.Variable text o none a b c d = absurd (d refl)
other_behind tokens at ms lead.Other text o none a b c d = other_lead ms (head_lead (rest tokens at)) o
