-- The nesting that the machine of scripts counts is that of the tree.
use Rattle.std.proofs.Common.{◌≡◌, ℕ, ◌+◌, Bool, Option, Some, None, List, [], ◌∷◌, refl, sym, ◌∙◌, ap}
use Rattle.php_token.specs.declared.kind.Keyword.TheVariants as word
use Rattle.php_token.specs.declared.kind.Punct.TheVariants as mark
use Rattle.php_ast.specs.declared.declaration.ClassModifier.{ClassModifier}
use Rattle.php_ast.specs.declared.declaration.ClassModifier.TheVariants as class_word
use Rattle.php_ast.specs.Symbol as symbol
use Rattle.php_ast.specs.Symbol.{Symbol, keyword, punct}
use Rattle.php_grammar.specs.expression.Machine.{Nothing, pick}
use Rattle.php_grammar.specs.TooDeep.{taken, depths_taken}
use Rattle.php_ast.specs.statement.Tree.{Sequence, empty, then_also, Name, Statement, Statements}
use Rattle.php_ast.specs.statement.Spelling.{commas, spell_name, spell_statement}
use Rattle.php_ast.specs.statement.Nesting.{separated_nests, name_nests, nests_if, nests_statement}
use Rattle.php_ast.specs.statement.Proper.{Each, IsProper}
use Rattle.php_ast.specs.declaration.Tree.{Signature, Function, Member, Item, of_statement, of_function, of_class, of_interface, of_trait, Script}
use Rattle.php_ast.specs.declaration.Spelling.{joined, class_modifier_word, spell_class_word, spell_parent, spell_names, spell_member, spell_members, spell_function, spell_item, spell_script}
use Rattle.php_ast.specs.declaration.Nesting.{joined_nests, signature_nests, method_body_nests, function_nests, member_nests, class_word_nests, parent_nests, names_nests, members_nests, item_nests, script_nests}
use Rattle.php_ast.specs.declaration.Proper.{IsProperFunction, IsProperMember, IsProperItem, IsProperScript}
use Rattle.php_grammar.specs.statement.Role.{statement_beginning}
use Rattle.php_grammar.specs.statement.Forms.{StatementState, due_statement}
use Rattle.php_grammar.specs.statement.Machine.{advance_statement}
use Rattle.php_grammar.specs.statement.Reading.{halt_statement}
use Rattle.php_grammar.specs.statement.Depth.{begun_depth, statement_depth_at}
use Rattle.php_grammar.specs.statement.Laws.{StatementEnds}
use Rattle.php_grammar.specs.declaration.FunctionMachine.{function_form, Routine, routine, FunctionState, past_function, advance_function, halt_function}
use Rattle.php_grammar.specs.declaration.MemberMachine.{MemberState, past_modifiers, advance_member, halt_member}
use Rattle.php_grammar.specs.declaration.ScriptMachine.{Items, Names, ClassWords, Heading, class_heading, interface_heading, trait_heading, ScriptState, due_item, in_statement, past_class_words, past_heading, due_interface, due_member, in_member, with_item, item_begun, member_begun, advance_script}
use Rattle.php_grammar.specs.declaration.Depth.{function_depth_at, member_depth_at, script_depth_at, script_depths_read}
use Rattle.php_grammar.proofs.Deepened.{CountsInside, some_depths, some_entered, end_depths, shifted}
use Rattle.php_grammar.proofs.statement.Shifts.{shift_if, statement_shift}
use Rattle.php_grammar.proofs.declaration.Shifts.{signature_shift, body_shift, member_shift}
use Rattle.php_grammar.proofs.statement.Starts.{StartsStatement, begin_goes, statement_starts}
use Rattle.php_grammar.proofs.statement.Back.{quiet_ends}
use Rattle.php_grammar.proofs.statement.LawProofs.{statement_stops, statements_read_back}
use Rattle.php_grammar.proofs.statement.TraceBack.{statement_nesting}
use Rattle.php_grammar.proofs.declaration.FunctionBack.{function_halts, functions_read_back}
use Rattle.php_grammar.proofs.declaration.FunctionTrace.{begins_outside, function_nesting}
use Rattle.php_grammar.proofs.declaration.MemberBack.{member_halts, members_read_back}
use Rattle.php_grammar.proofs.declaration.MemberTrace.{member_nesting}
use Rattle.php_grammar.proofs.declaration.ScriptBack.{StartsMember, member_starts, first_goes, starts_no_brace, member_in, ContinuesMembers, starts_continue, words_led, statement_in, function_in, begins_statement, ContinuesItems, item_continues, behind_function}

abbrev trace : ScriptState → List Symbol → List ℕ
trace = depths_taken advance_script script_depth_at

-- ---- members

abbrev member_counts : (items : Items) (heading : Heading) (ms : Sequence (Member Nothing))
    → CountsInside MemberState ScriptState (Member Nothing) advance_member halt_member advance_script (member_in items heading ms) member_depth_at script_depth_at 1
member_counts items heading ms = record { counts = λ m t. refl }

member_entered : (items : Items) (heading : Heading) (ms : Sequence (Member Nothing)) (w : List Symbol) → StartsMember w
    → trace (due_member items heading ms) w ≡ trace (in_member items heading ms (past_modifiers empty)) w
member_entered items heading ms [] h = absurd h
member_entered items heading ms (t ∷ w) h =
    ap (λ b. taken (pick b (Some (due_item (with_item items heading ms))) (member_begun items heading ms (past_modifiers empty) t)) 1 (λ k. trace k w)) (starts_no_brace t h)
    ∙ some_entered (advance_member (past_modifiers empty) t) (λ m. in_member items heading ms m) _ 0 1 1 (λ k. trace k w) (first_goes t h) refl

members_trace : (items : Items) (heading : Heading) (ms : Sequence (Member Nothing)) (w : List Symbol) → Each IsProperMember ms → ContinuesMembers items heading w
    → trace (due_member items heading empty) (joined spell_member ms w) ≡ joined_nests member_nests ms 1 (trace (due_member items heading ms) w)
members_trace items heading empty w p h = refl
members_trace items heading (then_also ms m) [] p h = absurd h
members_trace items heading (then_also ms m) (t ∷ w) p h =
    let rest : List ℕ = trace (due_member items heading (then_also ms m)) (t ∷ w) in
    members_trace items heading ms (spell_member m (t ∷ w)) p.0 (starts_continue items heading (spell_member m (t ∷ w)) (member_starts m (t ∷ w) p.1))
    ∙ ap (joined_nests member_nests ms 1)
    (member_entered items heading ms (spell_member m (t ∷ w)) (member_starts m (t ∷ w) p.1)
    ∙ some_depths advance_member halt_member advance_script member_halts (member_in items heading ms) member_depth_at script_depth_at 1 (member_counts items heading ms)
    (spell_member m (t ∷ w)) (past_modifiers empty) m t w (h (then_also ms m)) (members_read_back m (t ∷ w) p.1)
    ∙ ap (λ u. shifted 1 u rest) (member_nesting m (t ∷ w) p.1) ∙ sym (member_shift m 0 1 [] rest))

group_trace : (items : Items) (heading : Heading) (ms : Sequence (Member Nothing)) (w : List Symbol) → Each IsProperMember ms
    → trace (past_heading items heading) (spell_members ms w) ≡ members_nests ms 0 (trace (due_item (with_item items heading ms)) w)
group_trace items heading ms w p = brace_trace heading ∙ ap (λ u. 0 ∷ u) (members_trace items heading ms (punct mark.RightBrace ∷ w) p (λ xs. tt))
  where
    brace_trace : (g : Heading) → trace (past_heading items g) (spell_members ms w) ≡ 0 ∷ trace (due_member items g empty) (joined spell_member ms (punct mark.RightBrace ∷ w))
    brace_trace (class_heading words n None empty) = refl
    brace_trace (class_heading words n (Some parent) empty) = refl
    brace_trace (class_heading words n None (then_also xs x)) = refl
    brace_trace (class_heading words n (Some parent) (then_also xs x)) = refl
    brace_trace (interface_heading n empty) = refl
    brace_trace (interface_heading n (then_also xs x)) = refl
    brace_trace (trait_heading n) = refl

-- ---- headings

word_trace : (items : Items) (ws : ClassWords) (x : ClassModifier) (w : List Symbol)
    → trace (words_led items ws) (keyword (class_modifier_word x) ∷ w) ≡ 0 ∷ trace (past_class_words items (then_also ws (record { note = tt; word = x }))) w
word_trace items empty class_word.Abstract w = refl
word_trace items empty class_word.Final w = refl
word_trace items (then_also ws y) class_word.Abstract w = refl
word_trace items (then_also ws y) class_word.Final w = refl

words_trace : (items : Items) (ws : ClassWords) (w : List Symbol) → trace (due_item items) (joined spell_class_word ws w) ≡ joined_nests class_word_nests ws 0 (trace (words_led items ws) w)
words_trace items empty w = refl
words_trace items (then_also ws x) w = words_trace items ws (spell_class_word x w) ∙ ap (joined_nests class_word_nests ws 0) (word_trace items ws x.word w)

class_trace : (items : Items) (ws : ClassWords) (n : Name Nothing) (w : List Symbol)
    → trace (words_led items ws) (keyword word.Class ∷ spell_name n w) ≡ 0 ∷ 0 ∷ trace (past_heading items (class_heading ws n None empty)) w
class_trace items empty n w = refl
class_trace items (then_also ws x) n w = refl

parent_trace : (items : Items) (ws : ClassWords) (n : Name Nothing) (parent : Option (Name Nothing)) (w : List Symbol)
    → trace (past_heading items (class_heading ws n None empty)) (spell_parent parent w) ≡ parent_nests parent 0 (trace (past_heading items (class_heading ws n parent empty)) w)
parent_trace items ws n None w = refl
parent_trace items ws n (Some p) w = refl

interfaces_led : (items : Items) (ws : ClassWords) (n : Name Nothing) (parent : Option (Name Nothing)) (xs : Names) (x : Name Nothing) (w : List Symbol)
    → trace (due_interface items (class_heading ws n parent empty)) (commas spell_name (then_also xs x) w)
    ≡ separated_nests name_nests (then_also xs x) 0 (trace (past_heading items (class_heading ws n parent (then_also xs x))) w)
interfaces_led items ws n parent empty x w = refl
interfaces_led items ws n None (then_also xs y) x w = interfaces_led items ws n None xs y (punct mark.Comma ∷ spell_name x w)
interfaces_led items ws n (Some p) (then_also xs y) x w = interfaces_led items ws n (Some p) xs y (punct mark.Comma ∷ spell_name x w)

interfaces_trace : (items : Items) (ws : ClassWords) (n : Name Nothing) (parent : Option (Name Nothing)) (xs : Names) (w : List Symbol)
    → trace (past_heading items (class_heading ws n parent empty)) (spell_names word.Implements xs w) ≡ names_nests xs 0 (trace (past_heading items (class_heading ws n parent xs)) w)
interfaces_trace items ws n parent empty w = refl
interfaces_trace items ws n None (then_also xs x) w = ap (λ u. 0 ∷ u) (interfaces_led items ws n None xs x w)
interfaces_trace items ws n (Some p) (then_also xs x) w = ap (λ u. 0 ∷ u) (interfaces_led items ws n (Some p) xs x w)

parents_led : (items : Items) (n : Name Nothing) (xs : Names) (x : Name Nothing) (w : List Symbol)
    → trace (due_interface items (interface_heading n empty)) (commas spell_name (then_also xs x) w)
    ≡ separated_nests name_nests (then_also xs x) 0 (trace (past_heading items (interface_heading n (then_also xs x))) w)
parents_led items n empty x w = refl
parents_led items n (then_also xs y) x w = parents_led items n xs y (punct mark.Comma ∷ spell_name x w)

parents_trace : (items : Items) (n : Name Nothing) (xs : Names) (w : List Symbol)
    → trace (past_heading items (interface_heading n empty)) (spell_names word.Extends xs w) ≡ names_nests xs 0 (trace (past_heading items (interface_heading n xs)) w)
parents_trace items n empty w = refl
parents_trace items n (then_also xs x) w = ap (λ u. 0 ∷ u) (parents_led items n xs x w)

-- ---- items

abbrev statement_counts : (items : Items)
    → CountsInside StatementState ScriptState (Statement Nothing) advance_statement halt_statement advance_script (statement_in items) statement_depth_at script_depth_at 0
statement_counts items = record { counts = λ m t. refl }

abbrev function_counts : (items : Items)
    → CountsInside (FunctionState (Name Nothing)) ScriptState (Routine (Name Nothing)) (advance_function function_form) (halt_function function_form) advance_script (function_in items) function_depth_at
    script_depth_at 0
function_counts items = record { counts = λ m t. refl }

statement_entered : (items : Items) (w : List Symbol) → StartsStatement w → trace (due_item items) w ≡ trace (in_statement items (due_statement [])) w
statement_entered items [] h = absurd h
statement_entered items (t ∷ w) h =
    let outside : begun_depth (statement_beginning t) [] ≡ 0 = begins_outside (statement_beginning t) in
    ap (λ x. taken (item_begun items x t) 0 (λ k. trace k w)) (begins_statement t h)
    ∙ some_entered (advance_statement (due_statement []) t) (λ m. in_statement items m) _ (begun_depth (statement_beginning t) []) 0 0 (λ k. trace k w) (begin_goes [] t h)
    (sym (ap (λ x. x + 0) outside))

statement_trace : (items : Items) (a : Statement Nothing) (w : List Symbol) → IsProper a → ContinuesItems w
    → trace (due_item items) (spell_statement a w) ≡ nests_statement a 0 (trace (due_item (then_also items (of_statement a))) w)
statement_trace items a [] p h =
    let ends : StatementEnds a [] = quiet_ends a [] (record { strength = refl; catching = refl }) in
    statement_entered items (spell_statement a []) (statement_starts a [])
    ∙ end_depths advance_statement halt_statement advance_script statement_stops (statement_in items) statement_depth_at script_depth_at 0 (statement_counts items) (spell_statement a []) (due_statement []) a
    (statements_read_back a [] p ends)
    ∙ ap (λ u. shifted 0 u []) (statement_nesting a [] p ends) ∙ sym (statement_shift a 0 0 [] [])
statement_trace items a (t ∷ w) p h =
    let ends : StatementEnds a (t ∷ w) = quiet_ends a (t ∷ w) h.quiet in
    let rest : List ℕ = trace (due_item (then_also items (of_statement a))) (t ∷ w) in
    statement_entered items (spell_statement a (t ∷ w)) (statement_starts a (t ∷ w))
    ∙ some_depths advance_statement halt_statement advance_script statement_stops (statement_in items) statement_depth_at script_depth_at 0 (statement_counts items) (spell_statement a (t ∷ w)) (due_statement []) a t w
    (h.goes (then_also items (of_statement a))) (statements_read_back a (t ∷ w) p ends)
    ∙ ap (λ u. shifted 0 u rest) (statement_nesting a (t ∷ w) p ends) ∙ sym (statement_shift a 0 0 [] rest)

-- what stands behind `function`, with other depths behind it
routine_shift : (r : Bool) (s : Signature Nothing) (body : Option (Statements Nothing)) (w : List ℕ)
    → shifted 0 (nests_if r 0 (0 ∷ signature_nests s 0 (method_body_nests body 0 []))) w ≡ nests_if r 0 (0 ∷ signature_nests s 0 (method_body_nests body 0 w))
routine_shift r s body w =
    sym (ap (λ u. nests_if r 0 (0 ∷ signature_nests s 0 u)) (body_shift body 0 0 [] w) ∙ ap (λ u. nests_if r 0 (0 ∷ u)) (signature_shift s 0 0 (method_body_nests body 0 []) w)
    ∙ shift_if r 0 0 (0 ∷ signature_nests s 0 (method_body_nests body 0 [])) w)

function_trace : (items : Items) (f : Function Nothing) (w : List Symbol) → IsProperFunction f → ContinuesItems w
    → trace (due_item items) (spell_function f w) ≡ function_nests f 0 (trace (due_item (then_also items (of_function f))) w)
function_trace items f [] p h =
    ap (λ u. 0 ∷ u)
    (end_depths (advance_function function_form) (halt_function function_form) advance_script (function_halts function_form) (function_in items) function_depth_at script_depth_at 0 (function_counts items)
    (behind_function f []) past_function (routine f.is_reference f.name f.signature (Some f.body))
    (functions_read_back function_form f.is_reference f.name (symbol.name f.name.text) f.signature (Some f.body) [] refl refl p.0 p.1 tt)
    ∙ ap (λ u. shifted 0 u []) (function_nesting function_form f.is_reference f.name (symbol.name f.name.text) f.signature (Some f.body) [] refl refl p.0 p.1 tt)
    ∙ routine_shift f.is_reference f.signature (Some f.body) [])
function_trace items f (t ∷ w) p h =
    let rest : List ℕ = trace (due_item (then_also items (of_function f))) (t ∷ w) in
    ap (λ u. 0 ∷ u)
    (some_depths (advance_function function_form) (halt_function function_form) advance_script (function_halts function_form) (function_in items) function_depth_at script_depth_at 0 (function_counts items)
    (behind_function f (t ∷ w)) past_function (routine f.is_reference f.name f.signature (Some f.body)) t w (h.goes (then_also items (of_function f)))
    (functions_read_back function_form f.is_reference f.name (symbol.name f.name.text) f.signature (Some f.body) (t ∷ w) refl refl p.0 p.1 tt)
    ∙ ap (λ u. shifted 0 u rest) (function_nesting function_form f.is_reference f.name (symbol.name f.name.text) f.signature (Some f.body) (t ∷ w) refl refl p.0 p.1 tt)
    ∙ routine_shift f.is_reference f.signature (Some f.body) rest)

item_trace : (items : Items) (x : Item Nothing) (w : List Symbol) → IsProperItem x → ContinuesItems w → trace (due_item items) (spell_item x w) ≡ item_nests x 0 (trace (due_item (then_also items x)) w)
item_trace items (of_statement a) w p h = statement_trace items a w p h
item_trace items (of_function f) w p h = function_trace items f w p h
item_trace items (of_class c) w p h =
    let members : List Symbol = spell_members c.members w in
    let rest : List Symbol = spell_names word.Implements c.interfaces members in
    words_trace items c.modifiers (keyword word.Class ∷ spell_name c.name (spell_parent c.parent rest))
    ∙ ap (joined_nests class_word_nests c.modifiers 0) (class_trace items c.modifiers c.name (spell_parent c.parent rest)
    ∙ ap (λ u. 0 ∷ 0 ∷ u) (parent_trace items c.modifiers c.name c.parent rest
    ∙ ap (parent_nests c.parent 0) (interfaces_trace items c.modifiers c.name c.parent c.interfaces members
    ∙ ap (names_nests c.interfaces 0) (group_trace items (class_heading c.modifiers c.name c.parent c.interfaces) c.members w p))))
item_trace items (of_interface i) w p h =
    ap (λ u. 0 ∷ 0 ∷ u) (parents_trace items i.name i.parents (spell_members i.members w) ∙ ap (names_nests i.parents 0) (group_trace items (interface_heading i.name i.parents) i.members w p))
item_trace items (of_trait t) w p h = ap (λ u. 0 ∷ 0 ∷ u) (group_trace items (trait_heading t.name) t.members w p)

items_trace : (items : Items) (w : List Symbol) → IsProperScript items → ContinuesItems w → trace (due_item empty) (joined spell_item items w) ≡ joined_nests item_nests items 0 (trace (due_item items) w)
items_trace empty w p h = refl
items_trace (then_also items x) w p h =
    items_trace items (spell_item x w) p.0 (item_continues x w) ∙ ap (joined_nests item_nests items 0) (item_trace items x w p.1 h)

pub script_nesting : (items : Script Nothing) → IsProperScript items → script_depths_read (spell_script items) ≡ script_nests items
script_nesting items p = items_trace items [] p tt
