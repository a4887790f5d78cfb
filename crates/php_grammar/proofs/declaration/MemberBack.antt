-- Completeness of the machine of members.
use Rattle.std.proofs.Common.{◌≡◌, true, false, Option, Some, None, List, [], ◌∷◌, ◌++◌, refl, ◌∙◌, ap}
use Rattle.php_token.specs.declared.kind.Keyword.{Keyword}
use Rattle.php_token.specs.declared.kind.Keyword.TheVariants as word
use Rattle.php_token.specs.declared.kind.Punct.TheVariants as mark
use Rattle.php_ast.specs.declared.declaration.ModifierWord.{ModifierWord}
use Rattle.php_ast.specs.declared.declaration.ModifierWord.TheVariants as modifier
use Rattle.php_ast.specs.declared.declaration.Visibility.{Visibility}
use Rattle.php_ast.specs.declared.declaration.Visibility.TheVariants as visibility
use Rattle.php_ast.specs.Symbol.{Symbol, keyword, punct}
use Rattle.php_ast.specs.expression.Tree as tree
use Rattle.php_ast.specs.expression.Spelling.{spell, member_symbol}
use Rattle.php_ast.specs.expression.Proper.{IsWord}
use Rattle.php_grammar.specs.expression.Role.{is_ampersand}
use Rattle.php_grammar.specs.expression.Machine.{Nothing, Form, pick}
use Rattle.php_grammar.specs.Run.{either, if_some, ReadingOf, reading, or_halted, run_of}
use Rattle.php_ast.specs.statement.Tree.{Sequence, empty, then_also, Name, Variable, Statements}
use Rattle.php_ast.specs.statement.Spelling.{commas, symbol_if, spell_name, spell_variable, spell_value}
use Rattle.php_ast.specs.statement.Proper.{Each, IfAny}
use Rattle.php_ast.specs.declaration.Tree.{Modifier, ClassConstant, Rule, renames, prefers, Member, uses, uses_by, class_constants, method, properties}
use Rattle.php_ast.specs.declaration.Spelling.{joined, modifier_word, spell_modifier, visibility_word, spell_visibility, spell_member_name, spell_alias, spell_origin, spell_rule, spell_class_constant, spell_member, spell_signature, spell_method_body}
use Rattle.php_ast.specs.declaration.Proper.{is_visibility, is_visibility_word, IsAlias, IsProperRule, IsProperConstant, IsProperMember}
use Rattle.php_grammar.specs.statement.Role.{ending, is_right_brace}
use Rattle.php_grammar.specs.declaration.FunctionMachine.{method_form, Routine, FunctionState, past_function, advance_function, halt_function}
use Rattle.php_grammar.specs.declaration.MemberMachine.{visibility_of_keyword, visibility_of, Word, Names, Modifiers, Rules, NamesIn, of_use, of_instead, MemberState, past_modifiers, due_trait, past_trait, due_constant, past_constant, in_constant, due_property, past_property, in_property, in_method, due_rule, past_first_word, past_colons, past_second_word, past_as, past_visibility, due_rule_end, past_member, with_rule, word_here, rule_end, constant_end, property_end, with_constant, with_property, method_of, advance_member, halt_member, read_member}
use Rattle.php_grammar.proofs.expression.Roles.{word_back}
use Rattle.php_grammar.proofs.Inside.{Reader, expression_read}
use Rattle.php_grammar.proofs.Machines.{Halts, Wraps, wrapped_machine}
use Rattle.php_grammar.proofs.statement.Parts.{at_semicolon, at_comma}
use Rattle.php_grammar.proofs.declaration.FunctionBack.{function_halts, MayLack, functions_read_back}

abbrev run : MemberState → List Symbol → ReadingOf (Member Nothing)
run = run_of advance_member halt_member

-- ---- halting

modifiers_unread : (ms : Modifiers) (w : List Symbol) → (halt_member (past_modifiers ms) w).unread ≡ w
modifiers_unread empty w = refl
modifiers_unread (then_also ms m) w = refl

modifiers_tree : (ms : Modifiers) (w : List Symbol) → (halt_member (past_modifiers ms) w).tree ≡ (halt_member (past_modifiers ms) []).tree
modifiers_tree empty w = refl
modifiers_tree (then_also ms m) w = refl

modifiers_missing : (ms : Modifiers) (w : List Symbol) → (halt_member (past_modifiers ms) w).missing ≡ (halt_member (past_modifiers ms) []).missing
modifiers_missing empty w = refl
modifiers_missing (then_also ms m) w = refl

member_unread : (m : MemberState) (w : List Symbol) → (halt_member m w).unread ≡ w
member_unread (past_modifiers ms) w = modifiers_unread ms w
member_unread (due_rule r) w = refl
member_unread _ w = refl

member_tree : (m : MemberState) (w : List Symbol) → (halt_member m w).tree ≡ (halt_member m []).tree
member_tree (past_modifiers ms) w = modifiers_tree ms w
member_tree (in_method ms m) w = ap (method_of ms) ((function_halts method_form).tree m w)
member_tree (due_rule r) w = refl
member_tree _ w = refl

member_missing : (m : MemberState) (w : List Symbol) → (halt_member m w).missing ≡ (halt_member m []).missing
member_missing (past_modifiers ms) w = modifiers_missing ms w
member_missing (in_method ms m) w = ap (λ u. u ++ []) ((function_halts method_form).missing m w)
member_missing (due_rule r) w = refl
member_missing _ w = refl

pub member_halts : Halts MemberState (Member Nothing) halt_member
member_halts = record { unread = member_unread; tree = member_tree; missing = member_missing }

-- ---- modifiers

modifier_read : (ms : Modifiers) (x : ModifierWord) (w : List Symbol) → run (past_modifiers ms) (keyword (modifier_word x) ∷ w) ≡ run (past_modifiers (then_also ms (record { note = tt; word = x }))) w
modifier_read ms modifier.Public w = refl
modifier_read ms _ w = refl

modifiers_read : (ms : Modifiers) (w : List Symbol) → run (past_modifiers empty) (joined spell_modifier ms w) ≡ run (past_modifiers ms) w
modifiers_read empty w = refl
modifiers_read (then_also ms m) w = modifiers_read ms (spell_modifier m w) ∙ modifier_read ms m.word w

-- ---- names

names_led : (list : NamesIn) (xs : Names) (x : Name Nothing) (w : List Symbol) → run (due_trait list empty) (commas spell_name (then_also xs x) w) ≡ run (past_trait list (then_also xs x)) w
names_led list empty x w = refl
names_led list (then_also xs y) x w = names_led list xs y (punct mark.Comma ∷ spell_name x w)

-- ---- words

advances : (m n : MemberState) (t : Symbol) (w : List Symbol) → advance_member m t ≡ Some n → run m (t ∷ w) ≡ run n w
advances m n t w is = ap (λ o. or_halted o (λ x. run x w) (halt_member m (t ∷ w))) is

word_goes : (n : Word) (f : Word → MemberState) → IsWord n → word_here (member_symbol n) f ≡ Some (f n)
word_goes n f h = ap (λ o. if_some o (λ x. Some (f x))) (word_back n h)

word_no_brace : (n : Word) → is_right_brace (member_symbol n) ≡ false
word_no_brace (tree.named note text) = refl
word_no_brace (tree.reserved note k) = refl
word_no_brace (tree.held note text) = refl

pub first_word : (r : Rules) (n : Word) → IsWord n → advance_member (due_rule r) (member_symbol n) ≡ Some (past_first_word r n)
first_word r n h =
    ap (λ b. pick b (Some (past_member (uses_by tt r.traits r.rules))) (word_here (member_symbol n) (past_first_word r))) (word_no_brace n) ∙ word_goes n (past_first_word r) h

pub second_word : (r : Rules) (origin : Name Nothing) (n : Word) → IsWord n → advance_member (past_colons r origin) (member_symbol n) ≡ Some (past_second_word r origin n)
second_word r origin n h = word_goes n (past_second_word r origin) h

no_visibility : (k : Keyword) → is_visibility k ≡ false → visibility_of_keyword k ≡ None
no_visibility word.Public h = cc
no_visibility word.Protected h = cc
no_visibility word.Private h = cc
no_visibility _ h = refl

word_no_visibility : (n : Word) → is_visibility_word n ≡ false → visibility_of (member_symbol n) ≡ None
word_no_visibility (tree.named note text) h = refl
word_no_visibility (tree.reserved note k) h = no_visibility k h
word_no_visibility (tree.held note text) h = refl

abbrev pub renamed : Rules → Option (Name Nothing) → Word → Option Visibility → Word → MemberState
renamed r origin m seen n = due_rule_end r (renames tt origin m seen (Some n))

pub alias_word : (r : Rules) (origin : Option (Name Nothing)) (m n : Word) → IsWord n → is_visibility_word n ≡ false
    → advance_member (past_as r origin m) (member_symbol n) ≡ Some (renamed r origin m None n)
alias_word r origin m n h apart =
    ap (λ o. either (if_some o (λ seen. Some (past_visibility r origin m seen)))
    (either (word_here (member_symbol n) (renamed r origin m None)) (rule_end r (renames tt origin m None None) (member_symbol n)))) (word_no_visibility n apart)
    ∙ ap (λ o. either o (rule_end r (renames tt origin m None None) (member_symbol n))) (word_goes n (renamed r origin m None) h)

pub seen_word : (r : Rules) (origin : Option (Name Nothing)) (m : Word) (v : Visibility) (n : Word) → IsWord n
    → advance_member (past_visibility r origin m v) (member_symbol n) ≡ Some (renamed r origin m (Some v) n)
seen_word r origin m v n h = ap (λ o. either o (rule_end r (renames tt origin m (Some v) None) (member_symbol n))) (word_goes n (renamed r origin m (Some v)) h)

pub constant_word : (ms : Modifiers) (xs : Sequence (ClassConstant Nothing)) (n : Word) → IsWord n → advance_member (due_constant ms xs) (member_symbol n) ≡ Some (past_constant ms xs n)
constant_word ms xs n h = word_goes n (past_constant ms xs) h

-- ---- rules

origin_read : (r : Rules) (origin : Option (Name Nothing)) (m : Word) (w : List Symbol) → IsWord m
    → run (due_rule r) (spell_origin origin (spell_member_name m (keyword word.As ∷ w))) ≡ run (past_as r origin m) w
origin_read r None m w h = advances (due_rule r) (past_first_word r m) (member_symbol m) (keyword word.As ∷ w) (first_word r m h)
origin_read r (Some n) m w h = advances (past_colons r n) (past_second_word r n m) (member_symbol m) (keyword word.As ∷ w) (second_word r n m h)

seen_read : (r : Rules) (origin : Option (Name Nothing)) (m : Word) (v : Visibility) (w : List Symbol) → run (past_as r origin m) (keyword (visibility_word v) ∷ w) ≡ run (past_visibility r origin m v) w
seen_read r origin m visibility.Public w = refl
seen_read r origin m visibility.Protected w = refl
seen_read r origin m visibility.Private w = refl

alias_read : (r : Rules) (origin : Option (Name Nothing)) (m : Word) (seen : Option Visibility) (alias : Option Word) (w : List Symbol) → IsAlias seen alias
    → run (past_as r origin m) (spell_visibility seen (spell_alias alias (punct mark.Semicolon ∷ w))) ≡ run (due_rule (with_rule r (renames tt origin m seen alias))) w
alias_read r origin m None None w h = refl
alias_read r origin m None (Some n) w h =
    advances (past_as r origin m) (renamed r origin m None n) (member_symbol n) (punct mark.Semicolon ∷ w) (alias_word r origin m n h.0 h.1)
alias_read r origin m (Some v) None w h = seen_read r origin m v (punct mark.Semicolon ∷ w)
alias_read r origin m (Some v) (Some n) w h =
    seen_read r origin m v (member_symbol n ∷ punct mark.Semicolon ∷ w)
    ∙ advances (past_visibility r origin m v) (renamed r origin m (Some v) n) (member_symbol n) (punct mark.Semicolon ∷ w) (seen_word r origin m v n h)

instead_read : (r : Rules) (origin : Name Nothing) (m : Word) (w : List Symbol) → IsWord m
    → run (due_rule r) (spell_name origin (punct mark.DoubleColon ∷ spell_member_name m (keyword word.InsteadOf ∷ w))) ≡ run (due_trait (of_instead r origin m) empty) w
instead_read r origin m w h = advances (past_colons r origin) (past_second_word r origin m) (member_symbol m) (keyword word.InsteadOf ∷ w) (second_word r origin m h)

rule_read : (r : Rules) (rule : Rule Nothing) (w : List Symbol) → IsProperRule rule → run (due_rule r) (spell_rule rule w) ≡ run (due_rule (with_rule r rule)) w
rule_read r (renames note origin m seen alias) w h = origin_read r origin m (spell_visibility seen (spell_alias alias (punct mark.Semicolon ∷ w))) h.0 ∙ alias_read r origin m seen alias w h.1
rule_read r (prefers note origin m empty) w h = let x : true ≡ false = h.1 in cc
rule_read r (prefers note origin m (then_also xs x)) w h =
    instead_read r origin m (commas spell_name (then_also xs x) (punct mark.Semicolon ∷ w)) h.0 ∙ names_led (of_instead r origin m) xs x (punct mark.Semicolon ∷ w)

abbrev pub rules_of : Names → Sequence (Rule Nothing) → Rules
rules_of traits rules = record { traits = traits; rules = rules }

rules_read : (traits : Names) (rules : Sequence (Rule Nothing)) (w : List Symbol) → Each IsProperRule rules → run (due_rule (rules_of traits empty)) (joined spell_rule rules w) ≡ run (due_rule (rules_of traits rules)) w
rules_read traits empty w h = refl
rules_read traits (then_also rules rule) w h = rules_read traits rules (spell_rule rule w) h.0 ∙ rule_read (rules_of traits rules) rule w h.1

-- ---- constants

abbrev pub Constants : Type 0
Constants = Sequence (ClassConstant Nothing)

abbrev pub constant_reader : Modifiers → Constants → Word → Reader MemberState advance_member
constant_reader ms xs n = record { on = λ m. in_constant ms xs n m; ended = λ t e. constant_end ms (with_constant xs n e) (ending t); steps = λ m t. refl }

constant_named : (ms : Modifiers) (xs : Constants) (n : Word) (w : List Symbol) → IsWord n → run (due_constant ms xs) (spell_member_name n w) ≡ run (past_constant ms xs n) w
constant_named ms xs n w h = advances (due_constant ms xs) (past_constant ms xs n) (member_symbol n) w (constant_word ms xs n h)

constant_comma : (ms : Modifiers) (xs : Constants) (c : ClassConstant Nothing) (w : List Symbol) → IsProperConstant c
    → run (due_constant ms xs) (spell_class_constant c (punct mark.Comma ∷ w)) ≡ run (due_constant ms (then_also xs c)) w
constant_comma ms xs c w h =
    constant_named ms xs c.name (punct mark.Assign ∷ spell c.value (punct mark.Comma ∷ w)) h.0 ∙ expression_read advance_member halt_member (constant_reader ms xs c.name) c.value (punct mark.Comma) w _ h.1 (at_comma c.value w) refl

constant_last : (ms : Modifiers) (xs : Constants) (c : ClassConstant Nothing) (w : List Symbol) → IsProperConstant c
    → run (due_constant ms xs) (spell_class_constant c (punct mark.Semicolon ∷ w)) ≡ run (past_member (class_constants ms (then_also xs c))) w
constant_last ms xs c w h =
    constant_named ms xs c.name (punct mark.Assign ∷ spell c.value (punct mark.Semicolon ∷ w)) h.0 ∙ expression_read advance_member halt_member (constant_reader ms xs c.name) c.value (punct mark.Semicolon) w _ h.1 (at_semicolon c.value w) refl

constants_led : (ms : Modifiers) (xs : Constants) (c : ClassConstant Nothing) (w : List Symbol) → Each IsProperConstant xs
    → run (due_constant ms empty) (commas spell_class_constant (then_also xs c) w) ≡ run (due_constant ms xs) (spell_class_constant c w)
constants_led ms empty c w h = refl
constants_led ms (then_also xs y) c w h = constants_led ms xs y (punct mark.Comma ∷ spell_class_constant c w) h.0 ∙ constant_comma ms xs y (spell_class_constant c w) h.1

-- ---- properties

abbrev pub Properties : Type 0
Properties = Sequence (Variable Nothing)

abbrev pub property_reader : Modifiers → Properties → Name Nothing → Reader MemberState advance_member
property_reader ms xs n = record { on = λ m. in_property ms xs n m; ended = λ t e. property_end ms (with_property xs n (Some e)) (ending t); steps = λ m t. refl }

property_comma : (ms : Modifiers) (xs : Properties) (n : Name Nothing) (value : Option Form) (w : List Symbol) → IfAny value
    → run (past_property ms xs n) (spell_value value (punct mark.Comma ∷ w)) ≡ run (due_property ms (then_also xs (record { name = n; value = value }))) w
property_comma ms xs n None w h = refl
property_comma ms xs n (Some e) w h = expression_read advance_member halt_member (property_reader ms xs n) e (punct mark.Comma) w _ h (at_comma e w) refl

property_last : (ms : Modifiers) (xs : Properties) (n : Name Nothing) (value : Option Form) (w : List Symbol) → IfAny value
    → run (past_property ms xs n) (spell_value value (punct mark.Semicolon ∷ w)) ≡ run (past_member (properties ms (then_also xs (record { name = n; value = value })))) w
property_last ms xs n None w h = refl
property_last ms xs n (Some e) w h = expression_read advance_member halt_member (property_reader ms xs n) e (punct mark.Semicolon) w _ h (at_semicolon e w) refl

properties_led : (ms : Modifiers) (m : Modifier Nothing) (xs : Properties) (x : Variable Nothing) (w : List Symbol) → Each (λ y. IfAny y.value) xs
    → run (past_modifiers (then_also ms m)) (commas spell_variable (then_also xs x) w) ≡ run (past_property (then_also ms m) xs x.name) (spell_value x.value w)
properties_led ms m empty x w h = refl
properties_led ms m (then_also xs y) x w h =
    properties_led ms m xs y (punct mark.Comma ∷ spell_variable x w) h.0 ∙ property_comma (then_also ms m) xs y.name y.value (spell_variable x w) h.1

-- ---- methods

abbrev method_in : Modifiers → Wraps (FunctionState Word) MemberState (Routine Word) (Member Nothing) (advance_function method_form) (halt_function method_form) advance_member halt_member
method_in ms = record { on = λ m. in_method ms m; whole = method_of ms; steps = λ m t. refl; halts = λ m w. refl }

pub word_no_ampersand : (n : Word) → is_ampersand (member_symbol n) ≡ false
word_no_ampersand (tree.named note text) = refl
word_no_ampersand (tree.reserved note k) = refl
word_no_ampersand (tree.held note text) = refl

pub may_lack : (body : Option (Statements Nothing)) → MayLack method_form body
may_lack None = refl
may_lack (Some body) = tt

-- ---- members

nothing_follows : (m : Member Nothing) (w : List Symbol) → run (past_member m) w ≡ reading m [] w
nothing_follows m [] = refl
nothing_follows m (t ∷ w) = refl

pub members_read_back : (m : Member Nothing) (w : List Symbol) → IsProperMember m → read_member (spell_member m w) ≡ record { tree = m; missing = []; unread = w }
members_read_back (uses note empty) w p = cc
members_read_back (uses note (then_also xs x)) w p = names_led of_use xs x (punct mark.Semicolon ∷ w) ∙ nothing_follows (uses tt (then_also xs x)) w
members_read_back (uses_by note empty rules) w p = let x : true ≡ false = p.0 in cc
members_read_back (uses_by note (then_also xs x) rules) w p =
    names_led of_use xs x (punct mark.LeftBrace ∷ joined spell_rule rules (punct mark.RightBrace ∷ w)) ∙ rules_read (then_also xs x) rules (punct mark.RightBrace ∷ w) p.1
    ∙ nothing_follows (uses_by tt (then_also xs x) rules) w
members_read_back (class_constants ms empty) w p = let x : true ≡ false = p.0 in cc
members_read_back (class_constants ms (then_also xs c)) w p =
    modifiers_read ms (keyword word.Const ∷ commas spell_class_constant (then_also xs c) (punct mark.Semicolon ∷ w)) ∙ constants_led ms xs c (punct mark.Semicolon ∷ w) p.1.0
    ∙ constant_last ms xs c w p.1.1 ∙ nothing_follows (class_constants ms (then_also xs c)) w
members_read_back (method m) w p =
    modifiers_read m.modifiers (keyword word.Function ∷ symbol_if m.is_reference (punct mark.Ampersand) (member_symbol m.name ∷ spell_signature m.signature (spell_method_body m.body w)))
    ∙ wrapped_machine (advance_function method_form) (halt_function method_form) advance_member halt_member (function_halts method_form) (method_in m.modifiers)
    (symbol_if m.is_reference (punct mark.Ampersand) (member_symbol m.name ∷ spell_signature m.signature (spell_method_body m.body w))) past_function _ w
    (functions_read_back method_form m.is_reference m.name (member_symbol m.name) m.signature m.body w (word_back m.name p.0) (word_no_ampersand m.name) p.1 p.2 (may_lack m.body))
members_read_back (properties empty xs) w p = let x : true ≡ false = p.0 in cc
members_read_back (properties (then_also ms m) empty) w p = let x : true ≡ false = p.1 in cc
members_read_back (properties (then_also ms m) (then_also xs x)) w p =
    modifiers_read (then_also ms m) (commas spell_variable (then_also xs x) (punct mark.Semicolon ∷ w)) ∙ properties_led ms m xs x (punct mark.Semicolon ∷ w) p.2.0
    ∙ property_last (then_also ms m) xs x.name x.value w p.2.1 ∙ nothing_follows (properties (then_also ms m) (then_also xs x)) w
