-- Completeness of the machine of scripts.
use Rattle.std.proofs.Common.{◌≡◌, Bool, true, false, Option, Some, None, List, [], ◌∷◌, refl, sym, ◌∙◌, ap}
use Rattle.php_token.specs.declared.kind.Keyword.{Keyword}
use Rattle.php_token.specs.declared.kind.Keyword.TheVariants as word
use Rattle.php_token.specs.declared.kind.Punct.TheVariants as mark
use Rattle.php_ast.specs.declared.declaration.ModifierWord.{ModifierWord}
use Rattle.php_ast.specs.declared.declaration.ModifierWord.TheVariants as modifier
use Rattle.php_ast.specs.declared.declaration.ClassModifier.{ClassModifier}
use Rattle.php_ast.specs.declared.declaration.ClassModifier.TheVariants as class_word
use Rattle.php_ast.specs.Symbol as symbol
use Rattle.php_ast.specs.Symbol.{Symbol, keyword, punct}
use Rattle.php_grammar.specs.expression.Machine.{Nothing, pick}
use Rattle.php_grammar.specs.Run.{ReadingOf, or_halted, run_of}
use Rattle.php_ast.specs.statement.Tree.{Sequence, empty, then_also, Name, Statement}
use Rattle.php_ast.specs.statement.Spelling.{commas, symbol_if, spell_name, spell_variable, spell_statement}
use Rattle.php_ast.specs.statement.Proper.{Each, IsProper}
use Rattle.php_ast.specs.declaration.Tree.{Modifier, Function, Member, uses, uses_by, class_constants, method, properties, Item, of_statement, of_function, of_class, of_interface, of_trait, Script}
use Rattle.php_ast.specs.declaration.Spelling.{joined, modifier_word, spell_modifier, class_modifier_word, spell_class_word, spell_parent, spell_names, spell_member, spell_members, spell_signature, spell_block, spell_function, spell_item, spell_script}
use Rattle.php_ast.specs.declaration.Proper.{IsProperFunction, IsProperMember, IsProperItem, IsProperScript}
use Rattle.php_grammar.specs.statement.Role.{is_right_brace}
use Rattle.php_grammar.specs.statement.Forms.{StatementState, due_statement}
use Rattle.php_grammar.specs.statement.Machine.{advance_statement}
use Rattle.php_grammar.specs.statement.Reading.{halt_statement}
use Rattle.php_grammar.specs.declaration.FunctionMachine.{function_form, Routine, routine, FunctionState, past_function, advance_function, halt_function}
use Rattle.php_grammar.specs.declaration.MemberMachine.{MemberState, past_modifiers, advance_member, halt_member, MemberRole, at_modifier, at_function as at_method, at_class_constants, at_use, member_role, first_step}
use Rattle.php_grammar.specs.declaration.ScriptMachine.{Items, Names, ClassWords, Heading, class_heading, interface_heading, trait_heading, ScriptState, due_item, in_statement, in_function, past_class_words, past_heading, due_interface, due_member, in_member, ItemRole, at_statement, item_role, item_keyword, with_item, function_of, item_begun, item_step, member_begun, member_step, advance_script, halt_script, read_script}
use Rattle.php_grammar.specs.declaration.Laws.{SpellsScript}
use Rattle.php_grammar.proofs.Machines.{Holds, IsSome, through_some, some_either, some_in, end_of_machine}
use Rattle.php_grammar.proofs.statement.Starts.{starts_statement, StartsStatement, begin_goes, statement_starts}
use Rattle.php_grammar.proofs.statement.Back.{Quiet, quiet_ends, starts_quiet}
use Rattle.php_grammar.proofs.statement.LawProofs.{statement_stops, statements_read_back}
use Rattle.php_grammar.proofs.declaration.FunctionBack.{function_halts, functions_read_back}
use Rattle.php_grammar.proofs.declaration.MemberBack.{member_halts, members_read_back}

abbrev run : ScriptState → List Symbol → ReadingOf Items
run = run_of advance_script halt_script

-- ---- the first symbol of a member

abbrev pub begins_member : MemberRole → Bool
begins_member (at_modifier x) = true
begins_member at_method = true
begins_member at_class_constants = true
begins_member at_use = true
begins_member _ = false

abbrev pub StartsMember : List Symbol → Type 0
StartsMember [] = ⊥
StartsMember (t ∷ w) = begins_member (member_role t) ≡ true

modifier_starts : (x : ModifierWord) (w : List Symbol) → StartsMember (keyword (modifier_word x) ∷ w)
modifier_starts modifier.Public w = refl
modifier_starts _ w = refl

modifiers_start : (ms : Sequence (Modifier Nothing)) (w : List Symbol) → StartsMember w → StartsMember (joined spell_modifier ms w)
modifiers_start empty w h = h
modifiers_start (then_also ms m) w h = modifiers_start ms (spell_modifier m w) (modifier_starts m.word w)

pub member_starts : (m : Member Nothing) (w : List Symbol) → IsProperMember m → StartsMember (spell_member m w)
member_starts (uses note names) w p = refl
member_starts (uses_by note names rules) w p = refl
member_starts (class_constants ms items) w p = modifiers_start ms _ refl
member_starts (method m) w p = modifiers_start m.modifiers _ refl
member_starts (properties empty variables) w p = let x : true ≡ false = p.0 in cc
member_starts (properties (then_also ms m) variables) w p = modifiers_start ms (spell_modifier m (commas spell_variable variables (punct mark.Semicolon ∷ w))) (modifier_starts m.word (commas spell_variable variables (punct mark.Semicolon ∷ w)))

pub first_goes : (t : Symbol) → begins_member (member_role t) ≡ true → IsSome (advance_member (past_modifiers empty) t)
first_goes t h = by_role (member_role t) h
  where
    by_role : (x : MemberRole) → begins_member x ≡ true → IsSome (first_step empty x)
    by_role (at_modifier x) h = tt
    by_role at_method h = tt
    by_role at_class_constants h = tt
    by_role at_use h = tt
    by_role _ h = cc

pub starts_no_brace : (t : Symbol) → begins_member (member_role t) ≡ true → is_right_brace t ≡ false
starts_no_brace (punct p) h = cc
starts_no_brace _ h = refl

-- ---- members

abbrev pub member_in : Items → Heading → Sequence (Member Nothing) → Holds MemberState ScriptState (Member Nothing) advance_member halt_member advance_script
member_in items heading ms = record { on = λ m. in_member items heading ms m; ended = λ t x. member_step items heading (then_also ms x) t; steps = λ m t. refl }

-- The symbols go on with members: with a further one, or their end.
abbrev pub ContinuesMembers : Items → Heading → List Symbol → Type 0
ContinuesMembers items heading [] = ⊥
ContinuesMembers items heading (t ∷ w) = (ms : Sequence (Member Nothing)) → IsSome (member_step items heading ms t)

member_goes : (items : Items) (heading : Heading) (ms : Sequence (Member Nothing)) (t : Symbol) (b : Bool) → is_right_brace t ≡ b → b ≡ false → begins_member (member_role t) ≡ true
    → IsSome (pick b (Some (due_item (with_item items heading ms))) (member_begun items heading ms (past_modifiers empty) t))
member_goes items heading ms t true is h go = cc
member_goes items heading ms t false is h go = some_in (λ m. in_member items heading ms m) (advance_member (past_modifiers empty) t) (first_goes t go)

pub starts_continue : (items : Items) (heading : Heading) (w : List Symbol) → StartsMember w → ContinuesMembers items heading w
starts_continue items heading [] h = absurd h
starts_continue items heading (t ∷ w) h = λ ms. member_goes items heading ms t (is_right_brace t) refl (starts_no_brace t h) h

member_entered : (items : Items) (heading : Heading) (ms : Sequence (Member Nothing)) (w : List Symbol) → StartsMember w
    → run (due_member items heading ms) w ≡ run (in_member items heading ms (past_modifiers empty)) w
member_entered items heading ms [] h = absurd h
member_entered items heading ms (t ∷ w) h =
    ap (λ b. or_halted (pick b (Some (due_item (with_item items heading ms))) (member_begun items heading ms (past_modifiers empty) t)) (λ k. run k w) (halt_script (due_member items heading ms) (t ∷ w)))
    (starts_no_brace t h)
    ∙ some_either (advance_member (past_modifiers empty) t) (λ m. in_member items heading ms m) _ (λ k. run k w) _ _ (first_goes t h)

members_read : (items : Items) (heading : Heading) (ms : Sequence (Member Nothing)) (w : List Symbol) → Each IsProperMember ms → ContinuesMembers items heading w
    → run (due_member items heading empty) (joined spell_member ms w) ≡ run (due_member items heading ms) w
members_read items heading empty w p h = refl
members_read items heading (then_also ms m) [] p h = absurd h
members_read items heading (then_also ms m) (t ∷ w) p h =
    members_read items heading ms (spell_member m (t ∷ w)) p.0 (starts_continue items heading (spell_member m (t ∷ w)) (member_starts m (t ∷ w) p.1))
    ∙ member_entered items heading ms (spell_member m (t ∷ w)) (member_starts m (t ∷ w) p.1)
    ∙ through_some advance_member halt_member advance_script halt_script member_halts (member_in items heading ms) (spell_member m (t ∷ w)) (past_modifiers empty) m t w
    (halt_script (due_member items heading (then_also ms m)) (t ∷ w)) (h (then_also ms m)) (members_read_back m (t ∷ w) p.1)

-- the whole of a group behind its heading
group_read : (items : Items) (heading : Heading) (ms : Sequence (Member Nothing)) (w : List Symbol) → Each IsProperMember ms
    → run (past_heading items heading) (spell_members ms w) ≡ run (due_item (with_item items heading ms)) w
group_read items heading ms w p = brace_read heading ∙ members_read items heading ms (punct mark.RightBrace ∷ w) p (λ xs. tt)
  where
    brace_read : (g : Heading) → run (past_heading items g) (spell_members ms w) ≡ run (due_member items g empty) (joined spell_member ms (punct mark.RightBrace ∷ w))
    brace_read (class_heading words n None empty) = refl
    brace_read (class_heading words n (Some parent) empty) = refl
    brace_read (class_heading words n None (then_also xs x)) = refl
    brace_read (class_heading words n (Some parent) (then_also xs x)) = refl
    brace_read (interface_heading n empty) = refl
    brace_read (interface_heading n (then_also xs x)) = refl
    brace_read (trait_heading n) = refl

-- ---- headings

abbrev pub words_led : Items → ClassWords → ScriptState
words_led items empty = due_item items
words_led items (then_also ws x) = past_class_words items (then_also ws x)

word_on : (items : Items) (ws : ClassWords) (x : ClassModifier) (w : List Symbol)
    → run (words_led items ws) (keyword (class_modifier_word x) ∷ w) ≡ run (past_class_words items (then_also ws (record { note = tt; word = x }))) w
word_on items empty class_word.Abstract w = refl
word_on items empty class_word.Final w = refl
word_on items (then_also ws y) class_word.Abstract w = refl
word_on items (then_also ws y) class_word.Final w = refl

words_read : (items : Items) (ws : ClassWords) (w : List Symbol) → run (due_item items) (joined spell_class_word ws w) ≡ run (words_led items ws) w
words_read items empty w = refl
words_read items (then_also ws x) w = words_read items ws (spell_class_word x w) ∙ word_on items ws x.word w

class_on : (items : Items) (ws : ClassWords) (n : Name Nothing) (w : List Symbol)
    → run (words_led items ws) (keyword word.Class ∷ spell_name n w) ≡ run (past_heading items (class_heading ws n None empty)) w
class_on items empty n w = refl
class_on items (then_also ws x) n w = refl

parent_read : (items : Items) (ws : ClassWords) (n : Name Nothing) (parent : Option (Name Nothing)) (w : List Symbol)
    → run (past_heading items (class_heading ws n None empty)) (spell_parent parent w) ≡ run (past_heading items (class_heading ws n parent empty)) w
parent_read items ws n None w = refl
parent_read items ws n (Some p) w = refl

interfaces_led : (items : Items) (ws : ClassWords) (n : Name Nothing) (parent : Option (Name Nothing)) (xs : Names) (x : Name Nothing) (w : List Symbol)
    → run (due_interface items (class_heading ws n parent empty)) (commas spell_name (then_also xs x) w) ≡ run (past_heading items (class_heading ws n parent (then_also xs x))) w
interfaces_led items ws n parent empty x w = refl
interfaces_led items ws n None (then_also xs y) x w = interfaces_led items ws n None xs y (punct mark.Comma ∷ spell_name x w)
interfaces_led items ws n (Some p) (then_also xs y) x w = interfaces_led items ws n (Some p) xs y (punct mark.Comma ∷ spell_name x w)

interfaces_read : (items : Items) (ws : ClassWords) (n : Name Nothing) (parent : Option (Name Nothing)) (xs : Names) (w : List Symbol)
    → run (past_heading items (class_heading ws n parent empty)) (spell_names word.Implements xs w) ≡ run (past_heading items (class_heading ws n parent xs)) w
interfaces_read items ws n parent empty w = refl
interfaces_read items ws n None (then_also xs x) w = interfaces_led items ws n None xs x w
interfaces_read items ws n (Some p) (then_also xs x) w = interfaces_led items ws n (Some p) xs x w

parents_led : (items : Items) (n : Name Nothing) (xs : Names) (x : Name Nothing) (w : List Symbol)
    → run (due_interface items (interface_heading n empty)) (commas spell_name (then_also xs x) w) ≡ run (past_heading items (interface_heading n (then_also xs x))) w
parents_led items n empty x w = refl
parents_led items n (then_also xs y) x w = parents_led items n xs y (punct mark.Comma ∷ spell_name x w)

parents_read : (items : Items) (n : Name Nothing) (xs : Names) (w : List Symbol)
    → run (past_heading items (interface_heading n empty)) (spell_names word.Extends xs w) ≡ run (past_heading items (interface_heading n xs)) w
parents_read items n empty w = refl
parents_read items n (then_also xs x) w = parents_led items n xs x w

-- ---- items

abbrev pub statement_in : Items → Holds StatementState ScriptState (Statement Nothing) advance_statement halt_statement advance_script
statement_in items = record { on = λ m. in_statement items m; ended = λ t a. item_step (then_also items (of_statement a)) t; steps = λ m t. refl }

abbrev pub function_in : Items → Holds (FunctionState (Name Nothing)) ScriptState (Routine (Name Nothing)) (advance_function function_form) (halt_function function_form) advance_script
function_in items = record { on = λ m. in_function items m; ended = λ t f. item_step (then_also items (function_of f)) t; steps = λ m t. refl }

keyword_statement : (k : Keyword) → starts_statement (keyword k) ≡ true → item_keyword k ≡ at_statement
keyword_statement word.Function h = cc
keyword_statement word.Class h = cc
keyword_statement word.Abstract h = cc
keyword_statement word.Final h = cc
keyword_statement word.Interface h = cc
keyword_statement word.Trait h = cc
keyword_statement _ h = refl

pub begins_statement : (t : Symbol) → starts_statement t ≡ true → item_role t ≡ at_statement
begins_statement (keyword k) h = keyword_statement k h
begins_statement _ h = refl

-- The symbols end, or go on with an item and with no statement before it.
pub record Continues (t : Symbol) (w : List Symbol) : Type 0 where
  pub quiet : Quiet (t ∷ w)
  pub goes : (items : Items) → IsSome (item_step items t)

abbrev pub ContinuesItems : List Symbol → Type 0
ContinuesItems [] = Unit {0}
ContinuesItems (t ∷ w) = Continues t w

statement_goes : (items : Items) (t : Symbol) (x : ItemRole) → x ≡ at_statement → starts_statement t ≡ true → IsSome (item_begun items x t)
statement_goes items t at_statement h go = some_in (λ m. in_statement items m) (advance_statement (due_statement []) t) (begin_goes [] t go)
statement_goes items t _ h go = tt

statement_continues : (w : List Symbol) → StartsStatement w → ContinuesItems w
statement_continues [] h = tt
statement_continues (t ∷ w) h = record { quiet = starts_quiet (t ∷ w) h; goes = λ items. statement_goes items t (item_role t) (begins_statement t h) h }

words_continue : (ws : ClassWords) (w : List Symbol) → ContinuesItems w → ContinuesItems (joined spell_class_word ws w)
words_continue empty w h = h
words_continue (then_also ws x) w h = words_continue ws (spell_class_word x w) (by_word x.word)
  where
    by_word : (x : ClassModifier) → ContinuesItems (keyword (class_modifier_word x) ∷ w)
    by_word class_word.Abstract = record { quiet = record { strength = refl; catching = refl }; goes = λ items. tt }
    by_word class_word.Final = record { quiet = record { strength = refl; catching = refl }; goes = λ items. tt }

pub item_continues : (x : Item Nothing) (w : List Symbol) → ContinuesItems (spell_item x w)
item_continues (of_statement a) w = statement_continues (spell_statement a w) (statement_starts a w)
item_continues (of_function f) w = record { quiet = record { strength = refl; catching = refl }; goes = λ items. tt }
item_continues (of_class c) w = words_continue c.modifiers _ (record { quiet = record { strength = refl; catching = refl }; goes = λ items. tt })
item_continues (of_interface i) w = record { quiet = record { strength = refl; catching = refl }; goes = λ items. tt }
item_continues (of_trait t) w = record { quiet = record { strength = refl; catching = refl }; goes = λ items. tt }

statement_entered : (items : Items) (w : List Symbol) → StartsStatement w → run (due_item items) w ≡ run (in_statement items (due_statement [])) w
statement_entered items [] h = absurd h
statement_entered items (t ∷ w) h =
    ap (λ x. or_halted (item_begun items x t) (λ k. run k w) (halt_script (due_item items) (t ∷ w))) (begins_statement t h)
    ∙ some_either (advance_statement (due_statement []) t) (λ m. in_statement items m) _ (λ k. run k w) _ _ (begin_goes [] t h)

statement_read : (items : Items) (a : Statement Nothing) (w : List Symbol) → IsProper a → ContinuesItems w → run (due_item items) (spell_statement a w) ≡ run (due_item (then_also items (of_statement a))) w
statement_read items a [] p h =
    statement_entered items (spell_statement a []) (statement_starts a [])
    ∙ end_of_machine advance_statement halt_statement advance_script halt_script (λ x. then_also items (of_statement x)) statement_stops (statement_in items) (λ m. refl) (spell_statement a [])
    (due_statement []) a (statements_read_back a [] p (quiet_ends a [] (record { strength = refl; catching = refl })))
statement_read items a (t ∷ w) p h =
    statement_entered items (spell_statement a (t ∷ w)) (statement_starts a (t ∷ w))
    ∙ through_some advance_statement halt_statement advance_script halt_script statement_stops (statement_in items) (spell_statement a (t ∷ w)) (due_statement []) a t w
    (halt_script (due_item (then_also items (of_statement a))) (t ∷ w)) (h.goes (then_also items (of_statement a))) (statements_read_back a (t ∷ w) p (quiet_ends a (t ∷ w) h.quiet))

abbrev pub behind_function : Function Nothing → List Symbol → List Symbol
behind_function f w = symbol_if f.is_reference (punct mark.Ampersand) (spell_name f.name (spell_signature f.signature (spell_block f.body w)))

function_read : (items : Items) (f : Function Nothing) (w : List Symbol) → IsProperFunction f → ContinuesItems w → run (due_item items) (spell_function f w) ≡ run (due_item (then_also items (of_function f))) w
function_read items f [] p h =
    end_of_machine (advance_function function_form) (halt_function function_form) advance_script halt_script (λ x. then_also items (function_of x)) (function_halts function_form) (function_in items)
    (λ m. refl) (behind_function f []) past_function (routine f.is_reference f.name f.signature (Some f.body))
    (functions_read_back function_form f.is_reference f.name (symbol.name f.name.text) f.signature (Some f.body) [] refl refl p.0 p.1 tt)
function_read items f (t ∷ w) p h =
    through_some (advance_function function_form) (halt_function function_form) advance_script halt_script (function_halts function_form) (function_in items) (behind_function f (t ∷ w)) past_function
    (routine f.is_reference f.name f.signature (Some f.body)) t w (halt_script (due_item (then_also items (of_function f))) (t ∷ w)) (h.goes (then_also items (of_function f)))
    (functions_read_back function_form f.is_reference f.name (symbol.name f.name.text) f.signature (Some f.body) (t ∷ w) refl refl p.0 p.1 tt)

item_read : (items : Items) (x : Item Nothing) (w : List Symbol) → IsProperItem x → ContinuesItems w → run (due_item items) (spell_item x w) ≡ run (due_item (then_also items x)) w
item_read items (of_statement a) w p h = statement_read items a w p h
item_read items (of_function f) w p h = function_read items f w p h
item_read items (of_class c) w p h =
    let members : List Symbol = spell_members c.members w in
    let rest : List Symbol = spell_names word.Implements c.interfaces members in
    words_read items c.modifiers (keyword word.Class ∷ spell_name c.name (spell_parent c.parent rest)) ∙ class_on items c.modifiers c.name (spell_parent c.parent rest)
    ∙ parent_read items c.modifiers c.name c.parent rest ∙ interfaces_read items c.modifiers c.name c.parent c.interfaces members
    ∙ group_read items (class_heading c.modifiers c.name c.parent c.interfaces) c.members w p
item_read items (of_interface i) w p h = parents_read items i.name i.parents (spell_members i.members w) ∙ group_read items (interface_heading i.name i.parents) i.members w p
item_read items (of_trait t) w p h = group_read items (trait_heading t.name) t.members w p

items_read : (items : Items) (w : List Symbol) → IsProperScript items → ContinuesItems w → run (due_item empty) (joined spell_item items w) ≡ run (due_item items) w
items_read empty w p h = refl
items_read (then_also items x) w p h = items_read items (spell_item x w) p.0 (item_continues x w) ∙ item_read items x w p.1 h

pub scripts_read_back : (items : Script Nothing) → IsProperScript items → read_script (spell_script items) ≡ record { tree = items; missing = []; unread = [] }
scripts_read_back items p = items_read items [] p tt

pub one_script : (a b : Script Nothing) (w : List Symbol) → SpellsScript a w → SpellsScript b w → a ≡ b
one_script a b w p q = ap (λ r. r.tree) (sym (scripts_read_back a p.0) ∙ ap read_script (p.1 ∙ sym q.1) ∙ scripts_read_back b q.0)
