-- The laws of the machine of members.
use Rattle.std.proofs.Common.{◌≡◌, ◌≢◌, ℕ, false, Option, Some, None, List, [], ◌∷◌, ◌++◌, refl, sym, ◌∙◌, ap, subst}
use Rattle.php_token.specs.declared.kind.Keyword.{Keyword}
use Rattle.php_token.specs.declared.kind.Keyword.TheVariants as word
use Rattle.php_token.specs.declared.kind.Punct.{Punct}
use Rattle.php_token.specs.declared.kind.Punct.TheVariants as mark
use Rattle.php_ast.specs.declared.declaration.Visibility.{Visibility}
use Rattle.php_ast.specs.Symbol as symbol
use Rattle.php_ast.specs.Symbol.{Symbol, keyword, punct}
use Rattle.php_ast.specs.expression.Tree as tree
use Rattle.php_ast.specs.expression.Proper.{IsWord}
use Rattle.php_ast.specs.expression.Spelling.{member_symbol}
use Rattle.php_ast.specs.statement.Tree.{Sequence, empty, then_also, Name, Variable}
use Rattle.php_ast.specs.statement.Spelling.{separator, commas, spell_name, spell_variable}
use Rattle.php_ast.specs.statement.Proper.{is_empty, Each, IfAny}
use Rattle.php_ast.specs.declaration.Tree.{Modifier, ClassConstant, Rule, renames, prefers, Member, uses, uses_by, class_constants, method, properties}
use Rattle.php_ast.specs.declaration.Spelling.{joined, modifier_word, spell_modifier, visibility_word, spell_visibility, spell_alias, spell_origin, spell_rule, spell_class_constant, spell_member}
use Rattle.php_ast.specs.declaration.Proper.{is_visibility_word, IsProperRule, IsProperConstant, IsProperMember}
use Rattle.php_grammar.specs.declared.closer.Closer.TheVariants as ender
use Rattle.php_grammar.specs.Run.{either, if_some, ReadingOf}
use Rattle.php_grammar.specs.expression.Role.{is_left_brace, word_of}
use Rattle.php_grammar.specs.expression.Machine.{Nothing, State, expects, any_symbol, pick, halt}
use Rattle.php_grammar.specs.statement.Role.{Ending, closer, ending, is_assign, is_semicolon, is_right_brace, name_text}
use Rattle.php_grammar.specs.statement.Machine.{named_here}
use Rattle.php_grammar.specs.statement.Reading.{any_name, end_symbol}
use Rattle.php_grammar.specs.declaration.SignatureMachine.{any_word}
use Rattle.php_grammar.specs.declaration.FunctionMachine.{method_form, Routine, FunctionState, advance_function, halt_function}
use Rattle.php_grammar.specs.declaration.MemberMachine.{MemberRole, at_modifier, at_function, at_class_constants, at_use, at_variable, at_other, member_keyword, member_role, visibility_of_keyword, visibility_of, RuleRole, by_as, by_instead_of, by_colons, by_no_rule, rule_role, Word, Names, Modifiers, Rules, NamesIn, of_use, of_instead, MemberState, past_modifiers, due_trait, past_trait, due_constant, past_constant, in_constant, due_property, past_property, in_property, in_method, due_rule, past_first_word, past_colons, past_second_word, past_as, past_visibility, due_rule_end, past_member, with_rule, first_step, name_here, word_here, listed_step, constant_end, property_end, with_constant, with_property, due_property_step, method_of, first_word_step, second_word_step, rule_end, visibility_step, advance_member, first_rest, names_member, names_rest, rule_rest, any_class_word, halt_member, read_member}
use Rattle.php_grammar.proofs.expression.Roles.{left_brace_says, WordSays, word_says}
use Rattle.php_grammar.proofs.expression.Sound.{symbols_so_far}
use Rattle.php_grammar.proofs.declaration.MemberBack.{member_halts, members_read_back}
use Rattle.php_grammar_laws.specs.Functions.{spell_routine, SpellsRoutine}
use Rattle.php_grammar_laws.specs.Members.{SpellsMember, BeginsMember, BeginsAsMember}
use Rattle.php_grammar_laws.proofs.Stops.{LeavesUnread, stops_exactly_by, unfinished_by}
use Rattle.php_grammar_laws.proofs.Appends.{Appends, nothing, both, before, behind, in_front, expression_appends, name_appends, variable_appends, separated_appends}
use Rattle.php_grammar_laws.proofs.Wholes.{IsInner, through_leads, halts_inside, HaltsInside}
use Rattle.php_grammar_laws.proofs.Begins.{Front, Same, with_one, next, Leads, either_leads, pick_leads, Begins, begins_by, one_appends, lent_leads}
use Rattle.php_grammar_laws.proofs.Says.{EndingSays, ending_says, test_is, assign_says, semicolon_says, right_brace_says, NameSays, name_says}
use Rattle.php_grammar_laws.proofs.statement.Steps.{nothing_read}
use Rattle.php_grammar_laws.proofs.statement.Laws.{inside_spells}
use Rattle.php_grammar_laws.proofs.declaration.Functions.{ReachedFunction, function_leads, function_spelled, method_names, behind_nothing, routine_appends}

-- ---- what the roles say

abbrev RoleSays : MemberRole → Symbol → Type 0
RoleSays (at_modifier w) t = t ≡ keyword (modifier_word w)
RoleSays at_function t = t ≡ keyword word.Function
RoleSays at_class_constants t = t ≡ keyword word.Const
RoleSays at_use t = t ≡ keyword word.Use
RoleSays (at_variable text) t = t ≡ symbol.variable text
RoleSays at_other t = Unit {0}

keyword_says : (k : Keyword) → RoleSays (member_keyword k) (keyword k)
keyword_says word.Public = refl
keyword_says word.Protected = refl
keyword_says word.Private = refl
keyword_says word.Static = refl
keyword_says word.Abstract = refl
keyword_says word.Final = refl
keyword_says word.Var = refl
keyword_says word.Function = refl
keyword_says word.Const = refl
keyword_says word.Use = refl
keyword_says _ = tt

role_says : (t : Symbol) → RoleSays (member_role t) t
role_says (symbol.variable text) = refl
role_says (keyword k) = keyword_says k
role_says _ = tt

abbrev SeenSays : Option Visibility → Symbol → Type 0
SeenSays (Some v) t = t ≡ keyword (visibility_word v)
SeenSays None t = Unit {0}

seen_keyword_says : (k : Keyword) → SeenSays (visibility_of_keyword k) (keyword k)
seen_keyword_says word.Public = refl
seen_keyword_says word.Protected = refl
seen_keyword_says word.Private = refl
seen_keyword_says _ = tt

seen_says : (t : Symbol) → SeenSays (visibility_of t) t
seen_says (keyword k) = seen_keyword_says k
seen_says _ = tt

abbrev RuleSays : RuleRole → Symbol → Type 0
RuleSays by_as t = t ≡ keyword word.As
RuleSays by_instead_of t = t ≡ keyword word.InsteadOf
RuleSays by_colons t = t ≡ punct mark.DoubleColon
RuleSays by_no_rule t = Unit {0}

rule_keyword_says : (k : Keyword) → RuleSays (rule_role (keyword k)) (keyword k)
rule_keyword_says word.As = refl
rule_keyword_says word.InsteadOf = refl
rule_keyword_says _ = tt

rule_punct_says : (p : Punct) → RuleSays (rule_role (punct p)) (punct p)
rule_punct_says mark.DoubleColon = refl
rule_punct_says _ = tt

rule_says : (t : Symbol) → RuleSays (rule_role t) t
rule_says (keyword k) = rule_keyword_says k
rule_says (punct p) = rule_punct_says p
rule_says _ = tt

-- a word that is no visibility
no_keyword_seen : (k : Keyword) → visibility_of_keyword k ≡ None → is_visibility_word {S = Nothing} (tree.reserved tt k) ≡ false
no_keyword_seen word.Public h = cc
no_keyword_seen word.Protected h = cc
no_keyword_seen word.Private h = cc
no_keyword_seen _ h = refl

not_seen : (w : Word) → visibility_of (member_symbol w) ≡ None → is_visibility_word w ≡ false
not_seen (tree.named note text) h = refl
not_seen (tree.reserved note k) h = no_keyword_seen k h
not_seen (tree.held note text) h = refl

-- ---- what the states stand for

abbrev rules_front : Rules → Front
rules_front r w = keyword word.Use ∷ commas spell_name r.traits (punct mark.LeftBrace ∷ joined spell_rule r.rules w)

abbrev list_front : NamesIn → Front
list_front of_use w = keyword word.Use ∷ w
list_front (of_instead r origin n) w = rules_front r (spell_name origin (punct mark.DoubleColon ∷ member_symbol n ∷ keyword word.InsteadOf ∷ w))

abbrev constants_front : Modifiers → Sequence (ClassConstant Nothing) → Front
constants_front ms items w = joined spell_modifier ms (keyword word.Const ∷ commas spell_class_constant items (separator (punct mark.Comma) items w))

abbrev properties_front : Modifiers → Sequence (Variable Nothing) → Front
properties_front ms items w = joined spell_modifier ms (commas spell_variable items (separator (punct mark.Comma) items w))

-- a rule without its `;`
abbrev rule_front : Rule Nothing → Front
rule_front (renames note origin n seen alias) w = spell_origin origin (member_symbol n ∷ keyword word.As ∷ spell_visibility seen (spell_alias alias w))
rule_front (prefers note origin n others) w = spell_name origin (punct mark.DoubleColon ∷ member_symbol n ∷ keyword word.InsteadOf ∷ commas spell_name others w)

abbrev method_front : Modifiers → Front
method_front ms w = joined spell_modifier ms (keyword word.Function ∷ w)

abbrev state_front : MemberState → Front
state_front (past_modifiers ms) w = joined spell_modifier ms w
state_front (due_trait list names) w = list_front list (commas spell_name names (separator (punct mark.Comma) names w))
state_front (past_trait list names) w = list_front list (commas spell_name names w)
state_front (due_constant ms items) w = constants_front ms items w
state_front (past_constant ms items n) w = constants_front ms items (member_symbol n ∷ w)
state_front (in_constant ms items n m) w = constants_front ms items (member_symbol n ∷ punct mark.Assign ∷ symbols_so_far m w)
state_front (due_property ms items) w = properties_front ms items w
state_front (past_property ms items n) w = properties_front ms items (symbol.variable n.text ∷ w)
state_front (in_property ms items n m) w = properties_front ms items (symbol.variable n.text ∷ punct mark.Assign ∷ symbols_so_far m w)
-- with what the machine of functions stands for behind it
state_front (in_method ms m) w = method_front ms w
state_front (due_rule r) w = rules_front r w
state_front (past_first_word r n) w = rules_front r (member_symbol n ∷ w)
state_front (past_colons r origin) w = rules_front r (spell_name origin (punct mark.DoubleColon ∷ w))
state_front (past_second_word r origin n) w = rules_front r (spell_name origin (punct mark.DoubleColon ∷ member_symbol n ∷ w))
state_front (past_as r origin n) w = rules_front r (spell_origin origin (member_symbol n ∷ keyword word.As ∷ w))
state_front (past_visibility r origin n seen) w = rules_front r (spell_origin origin (member_symbol n ∷ keyword word.As ∷ keyword (visibility_word seen) ∷ w))
state_front (due_rule_end r rule) w = rules_front r (rule_front rule w)
state_front (past_member m) w = spell_member m w

abbrev SoundRules : Rules → Type 0
SoundRules r = (is_empty r.traits ≡ false) × Each IsProperRule r.rules

abbrev SoundNamesIn : NamesIn → Type 0
SoundNamesIn of_use = Unit {0}
SoundNamesIn (of_instead r origin n) = SoundRules r × IsWord n

abbrev SoundProperties : Modifiers → Sequence (Variable Nothing) → Type 0
SoundProperties ms items = (is_empty ms ≡ false) × Each (λ x. IfAny x.value) items

abbrev SoundState : MemberState → Type 0
SoundState (past_modifiers ms) = Unit {0}
SoundState (due_trait list names) = SoundNamesIn list
SoundState (past_trait list names) = SoundNamesIn list × (is_empty names ≡ false)
SoundState (due_constant ms items) = Each IsProperConstant items
SoundState (past_constant ms items n) = Each IsProperConstant items × IsWord n
SoundState (in_constant ms items n m) = Each IsProperConstant items × IsWord n × IsInner m
SoundState (due_property ms items) = SoundProperties ms items
SoundState (past_property ms items n) = SoundProperties ms items
SoundState (in_property ms items n m) = SoundProperties ms items × IsInner m
SoundState (in_method ms m) = Unit {0}
SoundState (due_rule r) = SoundRules r
SoundState (past_first_word r n) = SoundRules r × IsWord n
SoundState (past_colons r origin) = SoundRules r
SoundState (past_second_word r origin n) = SoundRules r × IsWord n
SoundState (past_as r origin n) = SoundRules r × IsWord n
SoundState (past_visibility r origin n seen) = SoundRules r × IsWord n
SoundState (due_rule_end r rule) = SoundRules r × IsProperRule rule
SoundState (past_member m) = IsProperMember m

pub record InMethod (ms : Modifiers) (m : FunctionState Word) (f : Front) : Type 0 where
  pub inner : Front
  pub appends : Appends inner
  pub reached : ReachedFunction method_form m inner
  pub same : Same (λ w. method_front ms (inner w)) f

abbrev pub ReachedMember : MemberState → Front → Type 0
ReachedMember (in_method ms m) f = InMethod ms m f
ReachedMember m f = SoundState m × Same (state_front m) f

-- ---- steps

text_by : (o : Option (List ℕ)) (m : Name Nothing → MemberState) (g f : Front) (t : Symbol) → NameSays o t → Same g f
    → ((text : List ℕ) → Same (λ w. g (symbol.name text ∷ w)) (with_one f t) → Leads ReachedMember (with_one f t) (Some (m (named_here text))))
    → Leads ReachedMember (with_one f t) (if_some o (λ text. Some (m (named_here text))))
text_by None m g f t says same h = tt
text_by (Some text) m g f t says same h = h text (λ w. next g f t (symbol.name text) says same w)

name_leads : (m : Name Nothing → MemberState) (g f : Front) (t : Symbol) → Same g f → ((text : List ℕ) → Same (λ w. g (symbol.name text ∷ w)) (with_one f t) → Leads ReachedMember (with_one f t) (Some (m (named_here text))))
    → Leads ReachedMember (with_one f t) (name_here t m)
name_leads m g f t same h = text_by (name_text t) m g f t (name_says t) same h

word_by : (o : Option Word) (m : Word → MemberState) (g f : Front) (t : Symbol) → WordSays o t → Same g f
    → ((n : Word) → IsWord n → t ≡ member_symbol n → Same (λ w. g (member_symbol n ∷ w)) (with_one f t) → Leads ReachedMember (with_one f t) (Some (m n))) → Leads ReachedMember (with_one f t) (if_some o (λ n. Some (m n)))
word_by None m g f t says same h = tt
word_by (Some n) m g f t says same h = h n says.1 says.0 (λ w. next g f t (member_symbol n) says.0 same w)

word_leads : (m : Word → MemberState) (g f : Front) (t : Symbol) → Same g f
    → ((n : Word) → IsWord n → t ≡ member_symbol n → Same (λ w. g (member_symbol n ∷ w)) (with_one f t) → Leads ReachedMember (with_one f t) (Some (m n))) → Leads ReachedMember (with_one f t) (word_here t m)
word_leads m g f t same h = word_by (word_of t) m g f t (word_says t) same h

first_leads : (x : MemberRole) (ms : Modifiers) (t : Symbol) (f : Front) → RoleSays x t → Same (λ w. joined spell_modifier ms w) f → Leads ReachedMember (with_one f t) (first_step ms x)
first_leads (at_modifier w) ms t f is same = (tt, λ v. next (λ u. joined spell_modifier ms u) f t _ is same v)
first_leads at_function ms t f is same =
    record { inner = λ w. w; appends = nothing; reached = λ w. refl; same = λ w. next (λ u. joined spell_modifier ms u) f t (keyword word.Function) is same w }
first_leads at_class_constants ms t f is same = (tt, λ w. next (λ u. joined spell_modifier ms u) f t _ is same w)
first_leads at_use empty t f is same = (tt, λ w. next (λ u. u) f t _ is same w)
first_leads at_use (then_also ms m) t f is same = tt
first_leads (at_variable text) (then_also ms m) t f is same = ((refl, tt), λ w. next (λ u. joined spell_modifier (then_also ms m) u) f t _ is same w)
first_leads (at_variable text) empty t f is same = tt
first_leads at_other empty t f is same = tt
first_leads at_other (then_also ms m) t f is same = tt

brace_leads : (names : Names) (t : Symbol) (f : Front) → is_empty names ≡ false → Same (λ w. list_front of_use (commas spell_name names w)) f
    → Leads ReachedMember (with_one f t) (pick (is_left_brace t) (Some (due_rule (record { traits = names; rules = empty }))) None)
brace_leads names t f some same =
    pick_leads ReachedMember (with_one f t) (is_left_brace t) (Some (due_rule (record { traits = names; rules = empty }))) None
    (λ b. ((some, tt), λ w. next (λ v. list_front of_use (commas spell_name names v)) f t (punct mark.LeftBrace) (test_is (is_left_brace t) t (punct mark.LeftBrace) (left_brace_says t) b) same w)) (λ b. tt)

comma_front : (list : NamesIn) (names : Names) (w : List Symbol) → is_empty names ≡ false → state_front (due_trait list names) w ≡ list_front list (commas spell_name names (punct mark.Comma ∷ w))
comma_front list empty w some = cc
comma_front list (then_also names n) w some = refl

listed_leads : (list : NamesIn) (x : Ending) (names : Names) (t : Symbol) (f : Front) → EndingSays x t → SoundNamesIn list → is_empty names ≡ false
    → Same (λ w. list_front list (commas spell_name names w)) f → Leads ReachedMember (with_one f t) (listed_step list names t x)
listed_leads list (closer ender.Comma) names t f is h some same =
    (h, λ w. comma_front list names w some ∙ next (λ v. list_front list (commas spell_name names v)) f t (punct mark.Comma) is same w)
listed_leads of_use (closer ender.Semicolon) names t f is h some same = (some, λ w. next (λ v. list_front of_use (commas spell_name names v)) f t _ is same w)
listed_leads (of_instead r origin n) (closer ender.Semicolon) names t f is h some same =
    ((h.0.0, (h.0.1, (h.1, some))), λ w. next (λ v. list_front (of_instead r origin n) (commas spell_name names v)) f t _ is same w)
listed_leads of_use _ names t f is h some same = brace_leads names t f some same
listed_leads (of_instead r origin n) _ names t f is h some same = tt

constant_end_leads : (x : Ending) (ms : Modifiers) (items : Sequence (ClassConstant Nothing)) (c : ClassConstant Nothing) (t : Symbol) (f : Front) → EndingSays x t → Each IsProperConstant (then_also items c)
    → Same (λ w. constants_front ms items (spell_class_constant c w)) f → Leads ReachedMember (with_one f t) (constant_end ms (then_also items c) x)
constant_end_leads (closer ender.Comma) ms items c t f is h same = (h, λ w. next (λ v. constants_front ms items (spell_class_constant c v)) f t _ is same w)
constant_end_leads (closer ender.Semicolon) ms items c t f is h same = ((refl, h), λ w. next (λ v. constants_front ms items (spell_class_constant c v)) f t _ is same w)
constant_end_leads _ ms items c t f is h same = tt

property_end_leads : (x : Ending) (ms : Modifiers) (items : Sequence (Variable Nothing)) (c : Variable Nothing) (t : Symbol) (f : Front) → EndingSays x t → SoundProperties ms (then_also items c)
    → Same (λ w. properties_front ms items (spell_variable c w)) f → Leads ReachedMember (with_one f t) (property_end ms (then_also items c) x)
property_end_leads (closer ender.Comma) ms items c t f is h same = (h, λ w. next (λ v. properties_front ms items (spell_variable c v)) f t _ is same w)
property_end_leads (closer ender.Semicolon) ms items c t f is h same = ((h.0, refl, h.1), λ w. next (λ v. properties_front ms items (spell_variable c v)) f t _ is same w)
property_end_leads _ ms items c t f is h same = tt

due_property_leads : (x : MemberRole) (ms : Modifiers) (items : Sequence (Variable Nothing)) (t : Symbol) (f : Front) → RoleSays x t → SoundProperties ms items → Same (properties_front ms items) f
    → Leads ReachedMember (with_one f t) (due_property_step ms items x)
due_property_leads (at_variable text) ms items t f is h same = (h, λ w. next (properties_front ms items) f t _ is same w)
due_property_leads _ ms items t f is h same = tt

first_word_leads : (x : RuleRole) (r : Rules) (n : Word) (t : Symbol) (f : Front) → RuleSays x t → SoundRules r → IsWord n → Same (λ w. rules_front r (member_symbol n ∷ w)) f
    → Leads ReachedMember (with_one f t) (first_word_step r n x)
first_word_leads by_as r n t f is h p same = ((h, p), λ w. next (λ v. rules_front r (member_symbol n ∷ v)) f t _ is same w)
first_word_leads by_colons r (tree.named note text) t f is h p same = (h, λ w. next (λ v. rules_front r (member_symbol (tree.named note text) ∷ v)) f t _ is same w)
first_word_leads by_colons r (tree.reserved note k) t f is h p same = tt
first_word_leads by_colons r (tree.held note text) t f is h p same = tt
first_word_leads _ r (tree.named note text) t f is h p same = tt
first_word_leads _ r (tree.reserved note k) t f is h p same = tt
first_word_leads _ r (tree.held note text) t f is h p same = tt

second_word_leads : (x : RuleRole) (r : Rules) (origin : Name Nothing) (n : Word) (t : Symbol) (f : Front) → RuleSays x t → SoundRules r → IsWord n
    → Same (λ w. rules_front r (spell_name origin (punct mark.DoubleColon ∷ member_symbol n ∷ w))) f → Leads ReachedMember (with_one f t) (second_word_step r origin n x)
second_word_leads by_as r origin n t f is h p same = ((h, p), λ w. next (λ v. rules_front r (spell_name origin (punct mark.DoubleColon ∷ member_symbol n ∷ v))) f t _ is same w)
second_word_leads by_instead_of r origin n t f is h p same = ((h, p), λ w. next (λ v. rules_front r (spell_name origin (punct mark.DoubleColon ∷ member_symbol n ∷ v))) f t _ is same w)
second_word_leads _ r origin n t f is h p same = tt

rule_ends : (rule : Rule Nothing) (w : List Symbol) → spell_rule rule w ≡ rule_front rule (punct mark.Semicolon ∷ w)
rule_ends (renames note origin n seen alias) w = refl
rule_ends (prefers note origin n others) w = refl

rule_end_leads : (r : Rules) (rule : Rule Nothing) (t : Symbol) (f : Front) → SoundRules r → IsProperRule rule → Same (λ w. rules_front r (rule_front rule w)) f → Leads ReachedMember (with_one f t) (rule_end r rule t)
rule_end_leads r rule t f h p same =
    pick_leads ReachedMember (with_one f t) (is_semicolon t) (Some (due_rule (with_rule r rule))) None
    (λ b. ((h.0, (h.1, p)), λ w. ap (rules_front r) (rule_ends rule w) ∙ next (λ v. rules_front r (rule_front rule v)) f t (punct mark.Semicolon) (test_is (is_semicolon t) t (punct mark.Semicolon) (semicolon_says t) b) same w))
    (λ b. tt)

as_by : (o : Option Visibility) (r : Rules) (origin : Option (Name Nothing)) (n : Word) (t : Symbol) (f : Front) → visibility_of t ≡ o → SeenSays o t → SoundRules r → IsWord n
    → Same (λ w. rules_front r (spell_origin origin (member_symbol n ∷ keyword word.As ∷ w))) f
    → Leads ReachedMember (with_one f t)
    (either (if_some o (λ seen. Some (past_visibility r origin n seen))) (either (word_here t (λ alias. due_rule_end r (renames tt origin n None (Some alias)))) (rule_end r (renames tt origin n None None) t)))
as_by (Some seen) r origin n t f is says h p same = ((h, p), λ w. next (λ v. rules_front r (spell_origin origin (member_symbol n ∷ keyword word.As ∷ v))) f t (keyword (visibility_word seen)) says same w)
as_by None r origin n t f is says h p same =
    either_leads ReachedMember (with_one f t) (word_here t (λ alias. due_rule_end r (renames tt origin n None (Some alias)))) (rule_end r (renames tt origin n None None) t)
    (word_leads (λ alias. due_rule_end r (renames tt origin n None (Some alias))) (λ w. rules_front r (spell_origin origin (member_symbol n ∷ keyword word.As ∷ w))) f t same
    (λ alias q at s. ((h, (p, (q, not_seen alias (ap visibility_of (sym at) ∙ is)))), s)))
    (rule_end_leads r (renames tt origin n None None) t f h (p, tt) same)

visibility_leads : (r : Rules) (origin : Option (Name Nothing)) (n : Word) (seen : Visibility) (t : Symbol) (f : Front) → SoundRules r → IsWord n
    → Same (λ w. rules_front r (spell_origin origin (member_symbol n ∷ keyword word.As ∷ keyword (visibility_word seen) ∷ w))) f → Leads ReachedMember (with_one f t) (visibility_step r origin n seen t)
visibility_leads r origin n seen t f h p same =
    either_leads ReachedMember (with_one f t) (word_here t (λ alias. due_rule_end r (renames tt origin n (Some seen) (Some alias)))) (rule_end r (renames tt origin n (Some seen) None) t)
    (word_leads (λ alias. due_rule_end r (renames tt origin n (Some seen) (Some alias))) (λ w. rules_front r (spell_origin origin (member_symbol n ∷ keyword word.As ∷ keyword (visibility_word seen) ∷ w))) f t same
    (λ alias q at s. ((h, (p, q)), s)))
    (rule_end_leads r (renames tt origin n (Some seen) None) t f h (p, tt) same)

pub member_leads : (m : MemberState) (f : Front) (t : Symbol) → ReachedMember m f → Leads ReachedMember (with_one f t) (advance_member m t)
member_leads (past_modifiers ms) f t h = first_leads (member_role t) ms t f (role_says t) h.1
member_leads (due_trait list names) f t h =
    name_leads (λ n. past_trait list (then_also names n)) (λ w. list_front list (commas spell_name names (separator (punct mark.Comma) names w))) f t h.1 (λ text s. ((h.0, refl), s))
member_leads (past_trait list names) f t h = listed_leads list (ending t) names t f (ending_says t) h.0.0 h.0.1 h.1
member_leads (due_constant ms items) f t h = word_leads (past_constant ms items) (constants_front ms items) f t h.1 (λ n q at s. ((h.0, q), s))
member_leads (past_constant ms items n) f t h =
    pick_leads ReachedMember (with_one f t) (is_assign t) (Some (in_constant ms items n (expects []))) None
    (λ b. ((h.0.0, h.0.1, nothing_read), λ w. next (λ v. constants_front ms items (member_symbol n ∷ v)) f t (punct mark.Assign) (test_is (is_assign t) t (punct mark.Assign) (assign_says t) b) h.1 w)) (λ b. tt)
member_leads (in_constant ms items n m) f t h =
    through_leads (Leads ReachedMember (with_one f t)) m t (λ k. in_constant ms items n k) (λ e. constant_end ms (with_constant items n e) (ending t)) h.0.2
    (λ k i moves. ((h.0.0, h.0.1, i), λ w. ap (λ u. constants_front ms items (member_symbol n ∷ punct mark.Assign ∷ u)) (sym (moves w)) ∙ h.1 (t ∷ w)))
    (λ e whole spelled. constant_end_leads (ending t) ms items (record { name = n; value = e }) t f (ending_says t) (h.0.0, (h.0.1, whole.proper))
    (λ w. ap (λ u. constants_front ms items (member_symbol n ∷ punct mark.Assign ∷ u)) (sym (spelled w)) ∙ h.1 w))
    tt
member_leads (due_property ms items) f t h = due_property_leads (member_role t) ms items t f (role_says t) h.0 h.1
member_leads (past_property ms items n) f t h =
    pick_leads ReachedMember (with_one f t) (is_assign t) (Some (in_property ms items n (expects []))) (property_end ms (with_property items n None) (ending t))
    (λ b. ((h.0, nothing_read), λ w. next (λ v. properties_front ms items (symbol.variable n.text ∷ v)) f t (punct mark.Assign) (test_is (is_assign t) t (punct mark.Assign) (assign_says t) b) h.1 w))
    (λ b. property_end_leads (ending t) ms items (record { name = n; value = None }) t f (ending_says t) (h.0.0, (h.0.1, tt)) h.1)
member_leads (in_property ms items n m) f t h =
    through_leads (Leads ReachedMember (with_one f t)) m t (λ k. in_property ms items n k) (λ e. property_end ms (with_property items n (Some e)) (ending t)) h.0.1
    (λ k i moves. ((h.0.0, i), λ w. ap (λ u. properties_front ms items (symbol.variable n.text ∷ punct mark.Assign ∷ u)) (sym (moves w)) ∙ h.1 (t ∷ w)))
    (λ e whole spelled. property_end_leads (ending t) ms items (record { name = n; value = Some e }) t f (ending_says t) (h.0.0.0, (h.0.0.1, whole.proper))
    (λ w. ap (λ u. properties_front ms items (symbol.variable n.text ∷ punct mark.Assign ∷ u)) (sym (spelled w)) ∙ h.1 w))
    tt
member_leads (in_method ms m) f t h =
    lent_leads (advance_function method_form) (ReachedFunction method_form) (Leads ReachedMember (with_one f t)) (function_leads method_form) m h.inner t (λ k. in_method ms k) h.reached
    (λ k g. record { inner = with_one h.inner t; appends = one_appends t h.appends; reached = g; same = λ w. h.same (t ∷ w) }) tt
member_leads (due_rule r) f t h =
    pick_leads ReachedMember (with_one f t) (is_right_brace t) (Some (past_member (uses_by tt r.traits r.rules))) (word_here t (past_first_word r))
    (λ b. (h.0, λ w. next (rules_front r) f t (punct mark.RightBrace) (test_is (is_right_brace t) t (punct mark.RightBrace) (right_brace_says t) b) h.1 w))
    (λ b. word_leads (past_first_word r) (rules_front r) f t h.1 (λ n q at s. ((h.0, q), s)))
member_leads (past_first_word r n) f t h = first_word_leads (rule_role t) r n t f (rule_says t) h.0.0 h.0.1 h.1
member_leads (past_colons r origin) f t h = word_leads (past_second_word r origin) (λ w. rules_front r (spell_name origin (punct mark.DoubleColon ∷ w))) f t h.1 (λ n q at s. ((h.0, q), s))
member_leads (past_second_word r origin n) f t h = second_word_leads (rule_role t) r origin n t f (rule_says t) h.0.0 h.0.1 h.1
member_leads (past_as r origin n) f t h = as_by (visibility_of t) r origin n t f refl (seen_says t) h.0.0 h.0.1 h.1
member_leads (past_visibility r origin n seen) f t h = visibility_leads r origin n seen t f h.0.0 h.0.1 h.1
member_leads (due_rule_end r rule) f t h = rule_end_leads r rule t f h.0.0 h.0.1 h.1
member_leads (past_member m) f t h = tt

-- ---- halting

first_spelled : (ms : Modifiers) (f : Front) (w : List Symbol) → Same (λ v. joined spell_modifier ms v) f → SpellsMember (first_rest ms w).tree (f (first_rest ms w).missing)
first_spelled empty f w same = (refl, same (keyword word.Use ∷ any_word ∷ end_symbol ∷ []))
first_spelled (then_also ms m) f w same = ((refl, refl, (tt, tt)), same (any_symbol ∷ end_symbol ∷ []))

names_spelled : (list : NamesIn) (names : Names) (f : Front) → SoundNamesIn list → is_empty names ≡ false → Same (λ w. list_front list (commas spell_name names w)) f → SpellsMember (names_member list names) (f (names_rest list))
names_spelled of_use names f h some same = (some, same (end_symbol ∷ []))
names_spelled (of_instead r origin n) names f h some same = ((h.0.0, (h.0.1, (h.1, some))), same (end_symbol ∷ punct mark.RightBrace ∷ []))

rule_spelled : (r : Rules) (rule : Rule Nothing) (f : Front) → SoundRules r → IsProperRule rule → Same (λ w. rules_front r (rule_front rule w)) f
    → SpellsMember (uses_by tt r.traits (then_also r.rules rule)) (f rule_rest)
rule_spelled r rule f h p same = ((h.0, (h.1, p)), ap (rules_front r) (rule_ends rule (punct mark.RightBrace ∷ [])) ∙ same rule_rest)

-- what names a method is its word
word_is : (o : Option Word) (t : Symbol) (n : Word) → WordSays o t → o ≡ Some n → (t ≡ member_symbol n) × IsWord n
word_is None t n says is = cc
word_is (Some x) t n says is = subst (λ o. WordSays o t) is says

pub method_spelled : (ms : Modifiers) (x : Routine Word) (u : List Symbol) → SpellsRoutine method_form x u → SpellsMember (method_of ms x) (method_front ms u)
method_spelled ms x u h =
    let named : (h.name ≡ member_symbol x.name) × IsWord x.name = word_is (word_of h.name) h.name x.name (word_says h.name) h.named in
    ((named.1, h.signature, h.body), ap (λ t. method_front ms (spell_routine t x [])) (sym named.0) ∙ ap (method_front ms) h.spelled)

constant_spelled : (ms : Modifiers) (items : Sequence (ClassConstant Nothing)) (n : Word) (m : State) (f : Front) → Each IsProperConstant items → IsWord n → IsInner m
    → Same (λ w. constants_front ms items (member_symbol n ∷ punct mark.Assign ∷ symbols_so_far m w)) f
    → SpellsMember (class_constants ms (with_constant items n (halt m (end_symbol ∷ [])).tree)) (f ((halt m (end_symbol ∷ [])).missing ++ (halt m (end_symbol ∷ [])).unread))
constant_spelled ms items n m f h p inner same =
    let rest : List Symbol = end_symbol ∷ [] in
    let i : HaltsInside m rest (halt m rest) = halts_inside m rest inner.sound in
    ((refl, (h, (p, i.proper))), ap (λ u. constants_front ms items (member_symbol n ∷ punct mark.Assign ∷ u)) (inside_spells m rest inner i) ∙ same ((halt m rest).missing ++ (halt m rest).unread))

property_spelled : (ms : Modifiers) (items : Sequence (Variable Nothing)) (n : Name Nothing) (m : State) (f : Front) → SoundProperties ms items → IsInner m
    → Same (λ w. properties_front ms items (symbol.variable n.text ∷ punct mark.Assign ∷ symbols_so_far m w)) f
    → SpellsMember (properties ms (with_property items n (Some (halt m (end_symbol ∷ [])).tree))) (f ((halt m (end_symbol ∷ [])).missing ++ (halt m (end_symbol ∷ [])).unread))
property_spelled ms items n m f h inner same =
    let rest : List Symbol = end_symbol ∷ [] in
    let i : HaltsInside m rest (halt m rest) = halts_inside m rest inner.sound in
    ((h.0, refl, (h.1, i.proper)), ap (λ u. properties_front ms items (symbol.variable n.text ∷ punct mark.Assign ∷ u)) (inside_spells m rest inner i) ∙ same ((halt m rest).missing ++ (halt m rest).unread))

pub member_spelled : (m : MemberState) (f : Front) (w : List Symbol) → ReachedMember m f → SpellsMember (halt_member m w).tree (f (halt_member m w).missing)
member_spelled (past_modifiers ms) f w h = first_spelled ms f w h.1
member_spelled (due_trait list names) f w h =
    names_spelled list (then_also names any_name) (λ v. f (any_word ∷ v)) h.0 refl (λ v. h.1 (any_word ∷ v))
member_spelled (past_trait list names) f w h = names_spelled list names f h.0.0 h.0.1 h.1
member_spelled (due_constant ms items) f w h = ((refl, (h.0, (tt, tt))), h.1 (any_word ∷ punct mark.Assign ∷ any_symbol ∷ end_symbol ∷ []))
member_spelled (past_constant ms items n) f w h = ((refl, (h.0.0, (h.0.1, tt))), h.1 (punct mark.Assign ∷ any_symbol ∷ end_symbol ∷ []))
member_spelled (in_constant ms items n m) f w h = constant_spelled ms items n m f h.0.0 h.0.1 h.0.2 h.1
member_spelled (due_property ms items) f w h = ((h.0.0, refl, (h.0.1, tt)), h.1 (any_symbol ∷ end_symbol ∷ []))
member_spelled (past_property ms items n) f w h = ((h.0.0, refl, (h.0.1, tt)), h.1 (end_symbol ∷ []))
member_spelled (in_property ms items n m) f w h = property_spelled ms items n m f h.0.0 h.0.1 h.1
member_spelled (in_method ms m) f w h =
    let r : ReadingOf (Routine Word) = halt_function method_form m w in
    let good : SpellsMember (method_of ms r.tree) (method_front ms (h.inner r.missing)) = method_spelled ms r.tree (h.inner r.missing) (function_spelled method_form method_names m h.inner w h.reached) in
    (good.0, good.1 ∙ h.same r.missing ∙ ap f (sym (behind_nothing r.missing)))
member_spelled (due_rule r) f w h = (h.0, h.1 (punct mark.RightBrace ∷ []))
member_spelled (past_first_word r n) f w h = rule_spelled r (renames tt None n None None) (λ v. f (keyword word.As ∷ v)) h.0.0 (h.0.1, tt) (λ v. h.1 (keyword word.As ∷ v))
member_spelled (past_colons r origin) f w h =
    rule_spelled r (renames tt (Some origin) any_class_word None None) (λ v. f (any_word ∷ keyword word.As ∷ v)) h.0 (tt, tt) (λ v. h.1 (any_word ∷ keyword word.As ∷ v))
member_spelled (past_second_word r origin n) f w h = rule_spelled r (renames tt (Some origin) n None None) (λ v. f (keyword word.As ∷ v)) h.0.0 (h.0.1, tt) (λ v. h.1 (keyword word.As ∷ v))
member_spelled (past_as r origin n) f w h = rule_spelled r (renames tt origin n None None) f h.0.0 (h.0.1, tt) h.1
member_spelled (past_visibility r origin n seen) f w h = rule_spelled r (renames tt origin n (Some seen) None) f h.0.0 (h.0.1, tt) h.1
member_spelled (due_rule_end r rule) f w h = rule_spelled r rule f h.0.0 h.0.1 h.1
member_spelled (past_member m) f w h = (h.0, h.1 [])

-- ---- in front of anything

pub joined_appends : {A : Type 0} (each : A → Front) → ((x : A) → Appends (each x)) → (xs : Sequence A) → Appends (joined each xs)
joined_appends each a empty = record { at = λ v w. refl }
joined_appends each a (then_also xs x) = record { at = λ v w. (both (joined_appends each a xs) (a x)).at v w }

modifier_appends : (x : Modifier Nothing) → Appends (spell_modifier x)
modifier_appends x = record { at = λ v w. refl }

origin_appends : (x : Option (Name Nothing)) → Appends (spell_origin x)
origin_appends None = record { at = λ v w. refl }
origin_appends (Some n) = record { at = λ v w. refl }

seen_appends : (x : Option Visibility) → Appends (spell_visibility x)
seen_appends None = record { at = λ v w. refl }
seen_appends (Some v) = record { at = λ u w. refl }

alias_appends : (x : Option Word) → Appends (spell_alias x)
alias_appends None = record { at = λ v w. refl }
alias_appends (Some n) = record { at = λ v w. refl }

rule_appends : (x : Rule Nothing) → Appends (spell_rule x)
rule_appends (renames note origin n seen alias) =
    record { at = λ v w. (both (origin_appends origin) (before (member_symbol n) (before (keyword word.As) (both (seen_appends seen) (behind (punct mark.Semicolon) (alias_appends alias)))))).at v w }
rule_appends (prefers note origin n others) =
    record {
      at = λ v w. (before (symbol.name origin.text) (before (punct mark.DoubleColon) (before (member_symbol n) (before (keyword word.InsteadOf)
          (behind (punct mark.Semicolon) (separated_appends (punct mark.Comma) spell_name name_appends others)))))).at v w;
    }

constant_appends : (x : ClassConstant Nothing) → Appends (spell_class_constant x)
constant_appends x = record { at = λ v w. (before (member_symbol x.name) (before (punct mark.Assign) (expression_appends x.value))).at v w }

pub names_appends : (names : Names) → Appends (commas spell_name names)
names_appends names = separated_appends (punct mark.Comma) spell_name name_appends names

pub member_appends : (m : Member Nothing) → Appends (spell_member m)
member_appends (uses note names) = record { at = λ v w. (before (keyword word.Use) (behind (punct mark.Semicolon) (names_appends names))).at v w }
member_appends (uses_by note names rules) =
    record { at = λ v w. (before (keyword word.Use) (both (names_appends names) (before (punct mark.LeftBrace) (behind (punct mark.RightBrace) (joined_appends spell_rule rule_appends rules))))).at v w }
member_appends (class_constants ms items) =
    record {
      at = λ v w. (both (joined_appends spell_modifier modifier_appends ms) (before (keyword word.Const)
          (behind (punct mark.Semicolon) (separated_appends (punct mark.Comma) spell_class_constant constant_appends items)))).at v w;
    }
member_appends (method x) =
    record {
      at = λ v w. (both (joined_appends spell_modifier modifier_appends x.modifiers) (before (keyword word.Function)
          (routine_appends (member_symbol x.name) (record { is_reference = x.is_reference; name = x.name; signature = x.signature; body = x.body })))).at v w;
    }
member_appends (properties ms items) =
    record { at = λ v w. (both (joined_appends spell_modifier modifier_appends ms) (behind (punct mark.Semicolon) (separated_appends (punct mark.Comma) spell_variable variable_appends items))).at v w }

-- ---- laws

pub leaves : LeavesUnread MemberState (Member Nothing) halt_member
leaves = member_halts.unread

pub reading_begins : (w : List Symbol) → BeginsAsMember w (read_member w)
reading_begins w =
    let b : Begins SpellsMember (λ v. v) w (read_member w) =
    begins_by advance_member halt_member SpellsMember ReachedMember leaves member_spelled member_leads w (past_modifiers empty) (λ v. v) (tt, λ v. refl) in
    record { proper = b.spelled.0; done = b.done; whole = b.whole; spelled = b.spelled.1 }

spelled_read : (w v : List Symbol) (m : Member Nothing) → SpellsMember m w → read_member (w ++ v) ≡ record { tree = m; missing = []; unread = v }
spelled_read w v m h = ap (λ u. read_member (u ++ v)) (sym h.1) ∙ ap read_member (sym (in_front (member_appends m) v)) ∙ members_read_back m v h.0

pub one_member : (a b : Member Nothing) (w : List Symbol) → SpellsMember a w → SpellsMember b w → a ≡ b
one_member a b w p q = ap (λ r. r.tree) (sym (spelled_read w [] a p) ∙ spelled_read w [] b q)

pub unfinished : (w v : List Symbol) (m : Member Nothing) → SpellsMember m w → (read_member (w ++ v)).missing ≢ [] → ⊥
unfinished w v m h lacks = unfinished_by (read_member (w ++ v)) m v (spelled_read w v m h) lacks

pub all_read : (w : List Symbol) (m : Member Nothing) → SpellsMember m w → read_member w ≡ record { tree = m; missing = []; unread = [] }
all_read w m h = ap read_member (sym h.1) ∙ members_read_back m [] h.0

pub stops_exactly : (w done : List Symbol) (t : Symbol) (v : List Symbol) → w ≡ done ++ t ∷ v → (read_member w).unread ≡ t ∷ v → BeginsMember (done ++ t ∷ []) → ⊥
stops_exactly w done t v is h b =
    stops_exactly_by advance_member halt_member leaves (past_modifiers empty) w done t v b.rest is h (ap (λ r. r.unread) (all_read ((done ++ t ∷ []) ++ b.rest) b.tree b.spelled))
