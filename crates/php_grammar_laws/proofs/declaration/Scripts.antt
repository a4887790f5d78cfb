-- The laws of the machine of scripts.
use Rattle.std.proofs.Common.{◌≡◌, ◌≢◌, ℕ, Option, Some, None, List, [], ◌∷◌, ◌++◌, refl, sym, ◌∙◌, ap}
use Rattle.php_token.specs.declared.kind.Keyword.{Keyword}
use Rattle.php_token.specs.declared.kind.Keyword.TheVariants as word
use Rattle.php_token.specs.declared.kind.Punct.{Punct}
use Rattle.php_token.specs.declared.kind.Punct.TheVariants as mark
use Rattle.php_ast.specs.Symbol as symbol
use Rattle.php_ast.specs.Symbol.{Symbol, keyword, punct}
use Rattle.php_ast.specs.statement.Tree.{Sequence, empty, then_also, Name, Statement, Statements}
use Rattle.php_ast.specs.statement.Spelling.{separator, commas, symbol_if, spell_name, spell_statement}
use Rattle.php_ast.specs.statement.Proper.{Each, AreProper}
use Rattle.php_ast.specs.declaration.Tree.{Member, Item, of_statement, Script}
use Rattle.php_ast.specs.declaration.Spelling.{joined, spell_signature, spell_block, spell_method_body, spell_member, class_modifier_word, spell_class_word, spell_parent, spell_names, spell_members, spell_item}
use Rattle.php_ast.specs.declaration.Proper.{IsProperMethodBody, IsProperMember, IsProperItem}
use Rattle.php_grammar.specs.Begins.{BeginsScript}
use Rattle.php_grammar.specs.Run.{if_some, ReadingOf}
use Rattle.php_grammar.specs.expression.Machine.{Nothing}
use Rattle.php_grammar.specs.statement.Role.{is_right_brace, name_text}
use Rattle.php_grammar.specs.statement.Forms.{StatementState, due_statement}
use Rattle.php_grammar.specs.statement.Laws.{SpellsStatement}
use Rattle.php_grammar.specs.statement.Machine.{advance_statement, named_here}
use Rattle.php_grammar.specs.statement.Reading.{halt_statement, any_name, braces}
use Rattle.php_grammar.specs.declaration.Laws.{SpellsScript}
use Rattle.php_grammar.specs.declaration.SignatureMachine.{any_word}
use Rattle.php_grammar.specs.declaration.FunctionMachine.{function_form, Routine, FunctionState, advance_function, halt_function}
use Rattle.php_grammar.specs.declaration.MemberMachine.{MemberState, past_modifiers, advance_member, halt_member}
use Rattle.php_grammar.specs.declaration.ScriptMachine.{ItemRole, at_function, at_class, at_class_word, at_interface, at_trait, at_statement, item_keyword, item_role, HeadingRole, by_extends, by_implements, by_comma, by_members, by_no_heading, heading_role, Items, ClassWords, Heading, class_heading, interface_heading, trait_heading, Kind, class_kind, interface_kind, trait_kind, ScriptState, due_item, in_statement, in_function, past_class_words, due_heading_name, past_heading, due_parent, due_interface, due_member, in_member, item_of, block_of, function_of, with_item, item_begun, item_step, class_word_step, begun_heading, with_interface, heading_step, name_here, member_begun, member_step, advance_script, halt_script, read_script}
use Rattle.php_grammar.proofs.declaration.ScriptBack.{scripts_read_back}
use Rattle.php_grammar_laws.specs.Functions.{MayLack, spell_routine, SpellsRoutine}
use Rattle.php_grammar_laws.specs.Members.{SpellsMember}
use Rattle.php_grammar_laws.specs.Scripts.{BeginsAsScript}
use Rattle.php_grammar_laws.proofs.Stops.{LeavesUnread, stops_exactly_by, unfinished_by}
use Rattle.php_grammar_laws.proofs.Appends.{Appends, nothing, before, statement_appends}
use Rattle.php_grammar_laws.proofs.Begins.{Front, Same, with_one, next, Leads, pick_leads, Begins, begins_by, front_ends, one_appends, lent_leads, inner_leads}
use Rattle.php_grammar_laws.proofs.Says.{test_is, right_brace_says, NameSays, name_says}
use Rattle.php_grammar_laws.proofs.statement.Sound.{Reached}
use Rattle.php_grammar_laws.proofs.statement.Places.{steps_lead}
use Rattle.php_grammar_laws.proofs.statement.Laws.{halts_spelled}
use Rattle.php_grammar_laws.proofs.declaration.Functions.{ReachedFunction, function_leads, function_spelled, function_names, behind_nothing, whole_front, routine_appends}
use Rattle.php_grammar_laws.proofs.declaration.Members.{ReachedMember, member_leads, member_spelled, member_appends}

-- ---- what the roles say

abbrev ItemSays : ItemRole → Symbol → Type 0
ItemSays at_function t = t ≡ keyword word.Function
ItemSays at_class t = t ≡ keyword word.Class
ItemSays (at_class_word w) t = t ≡ keyword (class_modifier_word w)
ItemSays at_interface t = t ≡ keyword word.Interface
ItemSays at_trait t = t ≡ keyword word.Trait
ItemSays at_statement t = Unit {0}

item_keyword_says : (k : Keyword) → ItemSays (item_keyword k) (keyword k)
item_keyword_says word.Function = refl
item_keyword_says word.Class = refl
item_keyword_says word.Abstract = refl
item_keyword_says word.Final = refl
item_keyword_says word.Interface = refl
item_keyword_says word.Trait = refl
item_keyword_says _ = tt

item_says : (t : Symbol) → ItemSays (item_role t) t
item_says (keyword k) = item_keyword_says k
item_says _ = tt

abbrev HeadingSays : HeadingRole → Symbol → Type 0
HeadingSays by_extends t = t ≡ keyword word.Extends
HeadingSays by_implements t = t ≡ keyword word.Implements
HeadingSays by_comma t = t ≡ punct mark.Comma
HeadingSays by_members t = t ≡ punct mark.LeftBrace
HeadingSays by_no_heading t = Unit {0}

heading_keyword_says : (k : Keyword) → HeadingSays (heading_role (keyword k)) (keyword k)
heading_keyword_says word.Extends = refl
heading_keyword_says word.Implements = refl
heading_keyword_says _ = tt

heading_punct_says : (p : Punct) → HeadingSays (heading_role (punct p)) (punct p)
heading_punct_says mark.Comma = refl
heading_punct_says mark.LeftBrace = refl
heading_punct_says _ = tt

heading_says : (t : Symbol) → HeadingSays (heading_role t) t
heading_says (keyword k) = heading_keyword_says k
heading_says (punct p) = heading_punct_says p
heading_says _ = tt

-- ---- what the states stand for

abbrev items_front : Items → Front
items_front items w = joined spell_item items w

abbrev kind_front : Kind → Front
kind_front (class_kind words) w = joined spell_class_word words (keyword word.Class ∷ w)
kind_front interface_kind w = keyword word.Interface ∷ w
kind_front trait_kind w = keyword word.Trait ∷ w

abbrev parent_front : ClassWords → Name Nothing → Option (Name Nothing) → Front
parent_front words n parent w = joined spell_class_word words (keyword word.Class ∷ spell_name n (spell_parent parent w))

abbrev heading_front : Heading → Front
heading_front (class_heading words n parent interfaces) w = parent_front words n parent (spell_names word.Implements interfaces w)
heading_front (interface_heading n parents) w = keyword word.Interface ∷ spell_name n (spell_names word.Extends parents w)
heading_front (trait_heading n) w = keyword word.Trait ∷ spell_name n w

-- where a further interface is due
abbrev further_front : Heading → Front
further_front (class_heading words n parent interfaces) w = parent_front words n parent (keyword word.Implements ∷ commas spell_name interfaces (separator (punct mark.Comma) interfaces w))
further_front (interface_heading n parents) w = keyword word.Interface ∷ spell_name n (keyword word.Extends ∷ commas spell_name parents (separator (punct mark.Comma) parents w))
further_front (trait_heading n) w = w

-- a trait has none
abbrev HasInterfaces : Heading → Type 0
HasInterfaces (trait_heading n) = ⊥
HasInterfaces _ = Unit {0}

abbrev members_front : Heading → Sequence (Member Nothing) → Front
members_front heading members w = heading_front heading (punct mark.LeftBrace ∷ joined spell_member members w)

abbrev SoundItems : Items → Type 0
SoundItems items = Each IsProperItem items

-- a machine of statements, functions or members inside
pub record Within (M : Type 0) (P : M → Front → Type 0) (m : M) (g f : Front) : Type 0 where
  pub inner : Front
  pub appends : Appends inner
  pub reached : P m inner
  pub same : Same (λ w. g (inner w)) f

abbrev pub ReachedScript : ScriptState → Front → Type 0
ReachedScript (due_item items) f = SoundItems items × Same (items_front items) f
ReachedScript (in_statement items m) f = SoundItems items × Within StatementState Reached m (items_front items) f
ReachedScript (in_function items m) f = SoundItems items × Within (FunctionState (Name Nothing)) (ReachedFunction function_form) m (λ w. items_front items (keyword word.Function ∷ w)) f
ReachedScript (past_class_words items words) f = SoundItems items × Same (λ w. items_front items (joined spell_class_word words w)) f
ReachedScript (due_heading_name items kind) f = SoundItems items × Same (λ w. items_front items (kind_front kind w)) f
ReachedScript (past_heading items heading) f = SoundItems items × Same (λ w. items_front items (heading_front heading w)) f
ReachedScript (due_parent items words n) f = SoundItems items × Same (λ w. items_front items (parent_front words n None (keyword word.Extends ∷ w))) f
ReachedScript (due_interface items heading) f = SoundItems items × HasInterfaces heading × Same (λ w. items_front items (further_front heading w)) f
ReachedScript (due_member items heading members) f = SoundItems items × Each IsProperMember members × Same (λ w. items_front items (members_front heading members w)) f
ReachedScript (in_member items heading members m) f =
    SoundItems items × Each IsProperMember members × Within MemberState ReachedMember m (λ w. items_front items (members_front heading members w)) f

within_more : {M : Type 0} (P : M → Front → Type 0) (m k : M) (g f : Front) (t : Symbol) → (h : Within M P m g f) → P k (with_one h.inner t) → Within M P k g (with_one f t)
within_more P m k g f t h reached = record { inner = with_one h.inner t; appends = one_appends t h.appends; reached = reached; same = λ w. h.same (t ∷ w) }

within_first : {M : Type 0} (P : M → Front → Type 0) (k : M) (g f : Front) (t : Symbol) → P k (with_one (λ w. w) t) → Same g f → Within M P k g (with_one f t)
within_first P k g f t reached same = record { inner = with_one (λ w. w) t; appends = one_appends t nothing; reached = reached; same = λ w. same (t ∷ w) }

-- ---- items

-- the item of members behind a heading
item_spells : (heading : Heading) (members : Sequence (Member Nothing)) (w : List Symbol) → spell_item (item_of heading members) w ≡ heading_front heading (spell_members members w)
item_spells (class_heading words n parent interfaces) members w = refl
item_spells (interface_heading n parents) members w = refl
item_spells (trait_heading n) members w = refl

item_proper : (heading : Heading) (members : Sequence (Member Nothing)) → Each IsProperMember members → IsProperItem (item_of heading members)
item_proper (class_heading words n parent interfaces) members h = h
item_proper (interface_heading n parents) members h = h
item_proper (trait_heading n) members h = h

-- a function always has a block
block_spells : (x : Option (Statements Nothing)) (w : List Symbol) → MayLack function_form x → spell_method_body x w ≡ spell_block (block_of x) w
block_spells None w may = cc
block_spells (Some ss) w may = refl

block_proper : (x : Option (Statements Nothing)) → MayLack function_form x → IsProperMethodBody x → AreProper (block_of x)
block_proper None may h = tt
block_proper (Some ss) may h = h

name_is : (o : Option (List ℕ)) (t : Symbol) (n : Name Nothing) → NameSays o t → if_some o (λ text. Some (named_here text)) ≡ Some n → t ≡ symbol.name n.text
name_is None t n says is = cc
name_is (Some text) t n says is = let same : named_here text ≡ n = cc in says ∙ ap (λ x. symbol.name x.text) same

function_item : (x : Routine (Name Nothing)) (u : List Symbol) → SpellsRoutine function_form x u → IsProperItem (function_of x) × (spell_item (function_of x) [] ≡ keyword word.Function ∷ u)
function_item x u h =
    let named : h.name ≡ symbol.name x.name.text = name_is (name_text h.name) h.name x.name (name_says h.name) h.named in (
      (h.signature, block_proper x.body h.may_lack h.body),
      ap (λ v. keyword word.Function ∷ symbol_if x.is_reference (punct mark.Ampersand) (symbol.name x.name.text ∷ spell_signature x.signature v)) (sym (block_spells x.body [] h.may_lack))
          ∙ ap (λ t. keyword word.Function ∷ spell_routine t x []) (sym named) ∙ ap (λ v. keyword word.Function ∷ v) h.spelled,
    )

function_appends : (x : Routine (Name Nothing)) → Appends (spell_item (function_of x))
function_appends x =
    record { at = λ v w. (before (keyword word.Function) (routine_appends (symbol.name x.name.text) (record { is_reference = x.is_reference; name = x.name; signature = x.signature; body = Some (block_of x.body) }))).at v w }

-- ---- steps

begun_leads : (x : ItemRole) (items : Items) (t : Symbol) (f : Front) → ItemSays x t → SoundItems items → Same (items_front items) f → Leads ReachedScript (with_one f t) (item_begun items x t)
begun_leads at_function items t f is h same =
    (h, record { inner = λ w. w; appends = nothing; reached = λ w. refl; same = λ w. next (items_front items) f t (keyword word.Function) is same w })
begun_leads at_class items t f is h same = (h, λ w. next (items_front items) f t _ is same w)
begun_leads (at_class_word x) items t f is h same = (h, λ w. next (items_front items) f t _ is same w)
begun_leads at_interface items t f is h same = (h, λ w. next (items_front items) f t _ is same w)
begun_leads at_trait items t f is h same = (h, λ w. next (items_front items) f t _ is same w)
begun_leads at_statement items t f is h same =
    lent_leads advance_statement Reached (Leads ReachedScript (with_one f t)) steps_lead (due_statement []) (λ w. w) t (λ k. in_statement items k) (tt, λ w. refl)
    (λ k g. (h, within_first Reached k (items_front items) f t g same)) tt

item_leads : (items : Items) (t : Symbol) (f : Front) → SoundItems items → Same (items_front items) f → Leads ReachedScript (with_one f t) (item_step items t)
item_leads items t f h same = begun_leads (item_role t) items t f (item_says t) h same

class_word_leads : (x : ItemRole) (items : Items) (words : ClassWords) (t : Symbol) (f : Front) → ItemSays x t → SoundItems items → Same (λ w. items_front items (joined spell_class_word words w)) f
    → Leads ReachedScript (with_one f t) (class_word_step items words x)
class_word_leads (at_class_word x) items words t f is h same = (h, λ w. next (λ v. items_front items (joined spell_class_word words v)) f t _ is same w)
class_word_leads at_class items words t f is h same = (h, λ w. next (λ v. items_front items (joined spell_class_word words v)) f t _ is same w)
class_word_leads _ items words t f is h same = tt

text_by : (o : Option (List ℕ)) (m : Name Nothing → ScriptState) (g f : Front) (t : Symbol) → NameSays o t → Same g f
    → ((n : Name Nothing) → Same (λ w. g (symbol.name n.text ∷ w)) (with_one f t) → Leads ReachedScript (with_one f t) (Some (m n))) → Leads ReachedScript (with_one f t) (if_some o (λ text. Some (m (named_here text))))
text_by None m g f t says same h = tt
text_by (Some text) m g f t says same h = h (named_here text) (λ w. next g f t (symbol.name text) says same w)

name_leads : (m : Name Nothing → ScriptState) (g f : Front) (t : Symbol) → Same g f → ((n : Name Nothing) → Same (λ w. g (symbol.name n.text ∷ w)) (with_one f t) → Leads ReachedScript (with_one f t) (Some (m n)))
    → Leads ReachedScript (with_one f t) (name_here t m)
name_leads m g f t same h = text_by (name_text t) m g f t (name_says t) same h

kind_spells : (kind : Kind) (n : Name Nothing) (w : List Symbol) → heading_front (begun_heading kind n) w ≡ kind_front kind (symbol.name n.text ∷ w)
kind_spells (class_kind words) n w = refl
kind_spells interface_kind n w = refl
kind_spells trait_kind n w = refl

further_spells : (heading : Heading) (n : Name Nothing) (w : List Symbol) → HasInterfaces heading → heading_front (with_interface heading n) w ≡ further_front heading (symbol.name n.text ∷ w)
further_spells (class_heading words c parent interfaces) n w h = refl
further_spells (interface_heading c parents) n w h = refl
further_spells (trait_heading c) n w h = absurd h

heading_leads : (x : HeadingRole) (items : Items) (heading : Heading) (t : Symbol) (f : Front) → HeadingSays x t → SoundItems items → Same (λ w. items_front items (heading_front heading w)) f
    → Leads ReachedScript (with_one f t) (heading_step items heading x)
heading_leads by_members items heading t f is h same = (h, tt, λ w. next (λ v. items_front items (heading_front heading v)) f t _ is same w)
heading_leads by_extends items (class_heading words n None empty) t f is h same = (h, λ w. next (λ v. items_front items (heading_front (class_heading words n None empty) v)) f t _ is same w)
heading_leads by_extends items (class_heading words n None (then_also xs x)) t f is h same = tt
heading_leads by_extends items (class_heading words n (Some p) empty) t f is h same = tt
heading_leads by_extends items (class_heading words n (Some p) (then_also xs x)) t f is h same = tt
heading_leads by_extends items (interface_heading n empty) t f is h same = (h, tt, λ w. next (λ v. items_front items (heading_front (interface_heading n empty) v)) f t _ is same w)
heading_leads by_extends items (interface_heading n (then_also xs x)) t f is h same = tt
heading_leads by_extends items (trait_heading n) t f is h same = tt
heading_leads by_implements items (class_heading words n None empty) t f is h same = (h, tt, λ w. next (λ v. items_front items (heading_front (class_heading words n None empty) v)) f t _ is same w)
heading_leads by_implements items (class_heading words n (Some p) empty) t f is h same = (h, tt, λ w. next (λ v. items_front items (heading_front (class_heading words n (Some p) empty) v)) f t _ is same w)
heading_leads by_implements items (class_heading words n None (then_also xs x)) t f is h same = tt
heading_leads by_implements items (class_heading words n (Some p) (then_also xs x)) t f is h same = tt
heading_leads by_implements items (interface_heading n empty) t f is h same = tt
heading_leads by_implements items (interface_heading n (then_also xs x)) t f is h same = tt
heading_leads by_implements items (trait_heading n) t f is h same = tt
heading_leads by_comma items (class_heading words n None (then_also xs x)) t f is h same =
    (h, tt, λ w. next (λ v. items_front items (heading_front (class_heading words n None (then_also xs x)) v)) f t _ is same w)
heading_leads by_comma items (class_heading words n (Some p) (then_also xs x)) t f is h same =
    (h, tt, λ w. next (λ v. items_front items (heading_front (class_heading words n (Some p) (then_also xs x)) v)) f t _ is same w)
heading_leads by_comma items (class_heading words n None empty) t f is h same = tt
heading_leads by_comma items (class_heading words n (Some p) empty) t f is h same = tt
heading_leads by_comma items (interface_heading n empty) t f is h same = tt
heading_leads by_comma items (interface_heading n (then_also xs x)) t f is h same = (h, tt, λ w. next (λ v. items_front items (heading_front (interface_heading n (then_also xs x)) v)) f t _ is same w)
heading_leads by_comma items (trait_heading n) t f is h same = tt
heading_leads by_no_heading items (class_heading words n None empty) t f is h same = tt
heading_leads by_no_heading items (class_heading words n None (then_also xs x)) t f is h same = tt
heading_leads by_no_heading items (class_heading words n (Some p) empty) t f is h same = tt
heading_leads by_no_heading items (class_heading words n (Some p) (then_also xs x)) t f is h same = tt
heading_leads by_no_heading items (interface_heading n empty) t f is h same = tt
heading_leads by_no_heading items (interface_heading n (then_also xs x)) t f is h same = tt
heading_leads by_no_heading items (trait_heading n) t f is h same = tt

member_step_leads : (items : Items) (heading : Heading) (members : Sequence (Member Nothing)) (t : Symbol) (f : Front) → SoundItems items → Each IsProperMember members
    → Same (λ w. items_front items (members_front heading members w)) f → Leads ReachedScript (with_one f t) (member_step items heading members t)
member_step_leads items heading members t f h p same =
    pick_leads ReachedScript (with_one f t) (is_right_brace t) (Some (due_item (with_item items heading members))) (member_begun items heading members (past_modifiers empty) t)
    (λ b. (
      (h, item_proper heading members p),
      λ w. ap (items_front items) (item_spells heading members w)
          ∙ next (λ v. items_front items (members_front heading members v)) f t (punct mark.RightBrace) (test_is (is_right_brace t) t (punct mark.RightBrace) (right_brace_says t) b) same w,
    ))
    (λ b. lent_leads advance_member ReachedMember (Leads ReachedScript (with_one f t)) member_leads (past_modifiers empty) (λ w. w) t (λ k. in_member items heading members k) (tt, λ w. refl)
    (λ k g. (h, p, within_first ReachedMember k (λ w. items_front items (members_front heading members w)) f t g same)) tt)

pub script_leads : (m : ScriptState) (f : Front) (t : Symbol) → ReachedScript m f → Leads ReachedScript (with_one f t) (advance_script m t)
script_leads (due_item items) f t h = item_leads items t f h.0 h.1
script_leads (in_statement items m) f t h =
    inner_leads advance_statement halt_statement SpellsStatement Reached (Leads ReachedScript (with_one f t)) halts_spelled steps_lead m h.1.inner t
    (λ k. in_statement items k) (λ a. item_step (then_also items (of_statement a)) t) h.1.reached
    (λ k g. (h.0, within_more Reached m k (items_front items) f t h.1 g))
    (λ a good. item_leads (then_also items (of_statement a)) t f (h.0, good.0)
    (λ w. ap (items_front items) (whole_front spell_statement a h.1.inner (statement_appends a) h.1.appends good.1 w) ∙ h.1.same w))
    tt
script_leads (in_function items m) f t h =
    inner_leads (advance_function function_form) (halt_function function_form) (SpellsRoutine function_form) (ReachedFunction function_form) (Leads ReachedScript (with_one f t))
    (function_spelled function_form function_names) (function_leads function_form) m h.1.inner t
    (λ k. in_function items k) (λ x. item_step (then_also items (function_of x)) t) h.1.reached
    (λ k g. (h.0, within_more (ReachedFunction function_form) m k (λ w. items_front items (keyword word.Function ∷ w)) f t h.1 g))
    (λ x good. item_leads (then_also items (function_of x)) t f (h.0, (function_item x (h.1.inner []) good).0)
    (λ w. ap (items_front items) (whole_front (λ y. spell_item (function_of y)) x (λ v. keyword word.Function ∷ h.1.inner v) (function_appends x) (before (keyword word.Function) h.1.appends)
    (function_item x (h.1.inner []) good).1 w) ∙ h.1.same w))
    tt
script_leads (past_class_words items words) f t h = class_word_leads (item_role t) items words t f (item_says t) h.0 h.1
script_leads (due_heading_name items kind) f t h =
    name_leads (λ n. past_heading items (begun_heading kind n)) (λ w. items_front items (kind_front kind w)) f t h.1 (λ n s. (h.0, λ w. ap (items_front items) (kind_spells kind n w) ∙ s w))
script_leads (past_heading items heading) f t h = heading_leads (heading_role t) items heading t f (heading_says t) h.0 h.1
script_leads (due_parent items words c) f t h =
    name_leads (λ parent. past_heading items (class_heading words c (Some parent) empty)) (λ w. items_front items (parent_front words c None (keyword word.Extends ∷ w))) f t h.1 (λ n s. (h.0, s))
script_leads (due_interface items heading) f t h =
    name_leads (λ n. past_heading items (with_interface heading n)) (λ w. items_front items (further_front heading w)) f t h.2 (λ n s. (h.0, λ w. ap (items_front items) (further_spells heading n w h.1) ∙ s w))
script_leads (due_member items heading members) f t h = member_step_leads items heading members t f h.0 h.1 h.2
script_leads (in_member items heading members m) f t h =
    inner_leads advance_member halt_member SpellsMember ReachedMember (Leads ReachedScript (with_one f t)) member_spelled member_leads m h.2.inner t
    (λ k. in_member items heading members k) (λ x. member_step items heading (then_also members x) t) h.2.reached
    (λ k g. (h.0, h.1, within_more ReachedMember m k (λ w. items_front items (members_front heading members w)) f t h.2 g))
    (λ x good. member_step_leads items heading (then_also members x) t f h.0 (h.1, good.0)
    (λ w. ap (λ u. items_front items (members_front heading members u)) (whole_front spell_member x h.2.inner (member_appends x) h.2.appends good.1 w) ∙ h.2.same w))
    tt

-- ---- halting

-- items with one more, behind which nothing is left to read
one_more : (items : Items) (x : Item Nothing) (g f : Front) (missing : List Symbol) → SoundItems items → IsProperItem x → spell_item x [] ≡ g missing → Same (λ w. items_front items (g w)) f
    → SpellsScript (then_also items x) (f missing)
one_more items x g f missing h p is same = ((h, p), ap (items_front items) is ∙ same missing)

heading_stops : (items : Items) (heading : Heading) (members : Sequence (Member Nothing)) (f : Front) (u : List Symbol) → SoundItems items → Each IsProperMember members
    → items_front items (heading_front heading (spell_members members [])) ≡ f u → SpellsScript (with_item items heading members) (f u)
heading_stops items heading members f u h p is = ((h, item_proper heading members p), ap (items_front items) (item_spells heading members []) ∙ is)

pub script_spelled : (m : ScriptState) (f : Front) (w : List Symbol) → ReachedScript m f → SpellsScript (halt_script m w).tree (f (halt_script m w).missing)
script_spelled (due_item items) f w h = (h.0, h.1 [])
script_spelled (in_statement items m) f w h =
    let r : ReadingOf (Statement Nothing) = halt_statement m w in
    let good : SpellsStatement r.tree (h.1.inner r.missing) = halts_spelled m h.1.inner w h.1.reached in
    one_more items (of_statement r.tree) h.1.inner f (r.missing ++ []) h.0 good.0 (good.1 ∙ ap h.1.inner (sym (behind_nothing r.missing))) h.1.same
script_spelled (in_function items m) f w h =
    let r : ReadingOf (Routine (Name Nothing)) = halt_function function_form m w in
    let good : SpellsRoutine function_form r.tree (h.1.inner r.missing) = function_spelled function_form function_names m h.1.inner w h.1.reached in
    let x : IsProperItem (function_of r.tree) × (spell_item (function_of r.tree) [] ≡ keyword word.Function ∷ h.1.inner r.missing) = function_item r.tree (h.1.inner r.missing) good in
    one_more items (function_of r.tree) (λ v. keyword word.Function ∷ h.1.inner v) f (r.missing ++ []) h.0 x.0 (x.1 ∙ ap (λ u. keyword word.Function ∷ h.1.inner u) (sym (behind_nothing r.missing))) h.1.same
script_spelled (past_class_words items words) f w h =
    heading_stops items (begun_heading (class_kind words) any_name) empty f (keyword word.Class ∷ any_word ∷ braces []) h.0 tt (h.1 (keyword word.Class ∷ any_word ∷ braces []))
script_spelled (due_heading_name items kind) f w h =
    heading_stops items (begun_heading kind any_name) empty f (any_word ∷ braces []) h.0 tt (ap (items_front items) (kind_spells kind any_name (braces [])) ∙ h.1 (any_word ∷ braces []))
script_spelled (past_heading items heading) f w h = heading_stops items heading empty f (braces []) h.0 tt (h.1 (braces []))
script_spelled (due_parent items words n) f w h = heading_stops items (class_heading words n (Some any_name) empty) empty f (any_word ∷ braces []) h.0 tt (h.1 (any_word ∷ braces []))
script_spelled (due_interface items heading) f w h =
    heading_stops items (with_interface heading any_name) empty f (any_word ∷ braces []) h.0 tt (ap (items_front items) (further_spells heading any_name (braces []) h.1) ∙ h.2 (any_word ∷ braces []))
script_spelled (due_member items heading members) f w h = heading_stops items heading members f (punct mark.RightBrace ∷ []) h.0 h.1 (h.2 (punct mark.RightBrace ∷ []))
script_spelled (in_member items heading members m) f w h =
    let r : ReadingOf (Member Nothing) = halt_member m w in
    let rest : List Symbol = punct mark.RightBrace ∷ [] in
    let good : SpellsMember r.tree (h.2.inner r.missing) = member_spelled m h.2.inner w h.2.reached in
    heading_stops items heading (then_also members r.tree) f (r.missing ++ rest) h.0 (h.1, good.0)
    (ap (λ u. items_front items (members_front heading members u)) (front_ends spell_member r.tree h.2.inner r.missing rest (member_appends r.tree) h.2.appends good.1) ∙ h.2.same (r.missing ++ rest))

-- ---- laws

pub leaves : LeavesUnread ScriptState Items halt_script
leaves (due_item items) w = refl
leaves _ w = refl

pub reading_begins : (w : List Symbol) → BeginsAsScript w (read_script w)
reading_begins w =
    let b : Begins SpellsScript (λ v. v) w (read_script w) =
    begins_by advance_script halt_script SpellsScript ReachedScript leaves script_spelled script_leads w (due_item empty) (λ v. v) (tt, λ v. refl) in
    record { proper = b.spelled.0; done = b.done; whole = b.whole; spelled = b.spelled.1 }

pub all_read : (w : List Symbol) (items : Items) → SpellsScript items w → read_script w ≡ record { tree = items; missing = []; unread = [] }
all_read w items h = ap read_script (sym h.1) ∙ scripts_read_back items h.0

pub unfinished : (w : List Symbol) (items : Script Nothing) → SpellsScript items w → (read_script w).missing ≢ [] → ⊥
unfinished w items h lacks = unfinished_by (read_script w) items [] (all_read w items h) lacks

pub stops_exactly : (w done : List Symbol) (t : Symbol) (v : List Symbol) → w ≡ done ++ t ∷ v → (read_script w).unread ≡ t ∷ v → BeginsScript (done ++ t ∷ []) → ⊥
stops_exactly w done t v is h b =
    stops_exactly_by advance_script halt_script leaves (due_item empty) w done t v b.rest is h (ap (λ r. r.unread) (all_read ((done ++ t ∷ []) ++ b.rest) b.tree b.spelled))
