-- The nesting that the machine of members counts is that of the tree.
use Rattle.std.proofs.Common.{◌≡◌, ℕ, true, false, Option, Some, None, List, [], ◌∷◌, refl, sym, ◌∙◌, ap}
use Rattle.php_token.specs.declared.kind.Keyword.TheVariants as word
use Rattle.php_token.specs.declared.kind.Punct.TheVariants as mark
use Rattle.php_ast.specs.declared.declaration.ModifierWord.{ModifierWord}
use Rattle.php_ast.specs.declared.declaration.ModifierWord.TheVariants as modifier
use Rattle.php_ast.specs.declared.declaration.Visibility.{Visibility}
use Rattle.php_ast.specs.declared.declaration.Visibility.TheVariants as visibility
use Rattle.php_ast.specs.Symbol.{Symbol, keyword, punct}
use Rattle.php_ast.specs.expression.Spelling.{spell, member_symbol}
use Rattle.php_ast.specs.expression.Nesting.{nests}
use Rattle.php_ast.specs.expression.Proper.{Proper, IsWord}
use Rattle.php_grammar.specs.expression.Machine.{Nothing, Form, expects}
use Rattle.php_grammar.specs.expression.Laws.{EndsBefore}
use Rattle.php_grammar.specs.TooDeep.{taken, depths_taken}
use Rattle.php_ast.specs.statement.Tree.{Sequence, empty, then_also, Name, Variable}
use Rattle.php_ast.specs.statement.Spelling.{commas, symbol_if, spell_name, spell_variable, spell_value}
use Rattle.php_ast.specs.statement.Nesting.{separated_nests, separator_nests, name_nests, value_nests, variable_nests}
use Rattle.php_ast.specs.statement.Proper.{Each, IfAny}
use Rattle.php_ast.specs.declaration.Tree.{Modifier, ClassConstant, Rule, renames, prefers, Member, uses, uses_by, class_constants, method, properties}
use Rattle.php_ast.specs.declaration.Spelling.{joined, modifier_word, spell_modifier, visibility_word, spell_visibility, spell_member_name, spell_alias, spell_origin, spell_rule, spell_class_constant, spell_member, spell_signature, spell_method_body}
use Rattle.php_ast.specs.declaration.Nesting.{joined_nests, modifier_nests, one_nests, origin_nests, rule_nests, class_constant_nests, member_nests}
use Rattle.php_ast.specs.declaration.Proper.{IsAlias, IsProperRule, IsProperConstant, IsProperMember}
use Rattle.php_grammar.specs.statement.Role.{ending}
use Rattle.php_grammar.specs.declaration.FunctionMachine.{method_form, past_function, advance_function}
use Rattle.php_grammar.specs.declaration.MemberMachine.{Word, Names, Modifiers, Rules, NamesIn, of_use, of_instead, MemberState, past_modifiers, due_trait, past_trait, due_constant, past_constant, in_constant, due_property, past_property, in_method, due_rule, past_first_word, past_colons, past_second_word, past_as, past_visibility, past_member, with_rule, constant_end, property_end, with_constant, with_property, advance_member}
use Rattle.php_grammar.specs.declaration.Depth.{function_depth_at, names_in_depth, member_depth_at, member_depths_read}
use Rattle.php_grammar.proofs.expression.Roles.{word_back}
use Rattle.php_grammar.proofs.Deepened.{Counts, expression_depths, wrapped_depths}
use Rattle.php_grammar.proofs.expression.Shifts.{nests_shift}
use Rattle.php_grammar.proofs.statement.Parts.{at_semicolon, at_comma}
use Rattle.php_grammar.proofs.declaration.FunctionTrace.{function_nesting}
use Rattle.php_grammar.proofs.declaration.MemberBack.{Constants, Properties, constant_reader, property_reader, first_word, second_word, renamed, alias_word, seen_word, constant_word, rules_of, word_no_ampersand, may_lack}

abbrev trace : MemberState → List Symbol → List ℕ
trace = depths_taken advance_member member_depth_at

-- ---- modifiers and names

modifier_trace : (ms : Modifiers) (x : ModifierWord) (w : List Symbol) → trace (past_modifiers ms) (keyword (modifier_word x) ∷ w) ≡ 0 ∷ trace (past_modifiers (then_also ms (record { note = tt; word = x }))) w
modifier_trace ms modifier.Public w = refl
modifier_trace ms _ w = refl

modifiers_trace : (ms : Modifiers) (w : List Symbol) → trace (past_modifiers empty) (joined spell_modifier ms w) ≡ joined_nests modifier_nests ms 0 (trace (past_modifiers ms) w)
modifiers_trace empty w = refl
modifiers_trace (then_also ms m) w = modifiers_trace ms (spell_modifier m w) ∙ ap (joined_nests modifier_nests ms 0) (modifier_trace ms m.word w)

names_led : (list : NamesIn) (xs : Names) (x : Name Nothing) (w : List Symbol)
    → trace (due_trait list empty) (commas spell_name (then_also xs x) w) ≡ separated_nests name_nests (then_also xs x) (names_in_depth list) (trace (past_trait list (then_also xs x)) w)
names_led list empty x w = refl
names_led list (then_also xs y) x w = names_led list xs y (punct mark.Comma ∷ spell_name x w)

-- ---- rules

counts : (m n : MemberState) (t : Symbol) (w : List Symbol) (d : ℕ) → advance_member m t ≡ Some n → member_depth_at m t ≡ d → trace m (t ∷ w) ≡ d ∷ trace n w
counts m n t w d is at = ap (λ o. taken o (member_depth_at m t) (λ k. trace k w)) is ∙ ap (λ k. k ∷ trace n w) at

origin_trace : (r : Rules) (origin : Option (Name Nothing)) (m : Word) (w : List Symbol) → IsWord m
    → trace (due_rule r) (spell_origin origin (spell_member_name m (keyword word.As ∷ w))) ≡ origin_nests origin 1 (1 ∷ 1 ∷ trace (past_as r origin m) w)
origin_trace r None m w h = counts (due_rule r) (past_first_word r m) (member_symbol m) (keyword word.As ∷ w) 1 (first_word r m h) refl
origin_trace r (Some n) m w h =
    ap (λ u. 1 ∷ 1 ∷ u) (counts (past_colons r n) (past_second_word r n m) (member_symbol m) (keyword word.As ∷ w) 1 (second_word r n m h) refl)

seen_trace : (r : Rules) (origin : Option (Name Nothing)) (m : Word) (v : Visibility) (w : List Symbol) → trace (past_as r origin m) (keyword (visibility_word v) ∷ w) ≡ 1 ∷ trace (past_visibility r origin m v) w
seen_trace r origin m visibility.Public w = refl
seen_trace r origin m visibility.Protected w = refl
seen_trace r origin m visibility.Private w = refl

alias_trace : (r : Rules) (origin : Option (Name Nothing)) (m : Word) (seen : Option Visibility) (alias : Option Word) (w : List Symbol) → IsAlias seen alias
    → trace (past_as r origin m) (spell_visibility seen (spell_alias alias (punct mark.Semicolon ∷ w))) ≡ one_nests seen 1 (one_nests alias 1 (1 ∷ trace (due_rule (with_rule r (renames tt origin m seen alias))) w))
alias_trace r origin m None None w h = refl
alias_trace r origin m None (Some n) w h =
    counts (past_as r origin m) (renamed r origin m None n) (member_symbol n) (punct mark.Semicolon ∷ w) 1 (alias_word r origin m n h.0 h.1) refl
alias_trace r origin m (Some v) None w h = seen_trace r origin m v (punct mark.Semicolon ∷ w)
alias_trace r origin m (Some v) (Some n) w h =
    seen_trace r origin m v (member_symbol n ∷ punct mark.Semicolon ∷ w)
    ∙ ap (λ u. 1 ∷ u) (counts (past_visibility r origin m v) (renamed r origin m (Some v) n) (member_symbol n) (punct mark.Semicolon ∷ w) 1 (seen_word r origin m v n h) refl)

instead_trace : (r : Rules) (origin : Name Nothing) (m : Word) (w : List Symbol) → IsWord m
    → trace (due_rule r) (spell_name origin (punct mark.DoubleColon ∷ spell_member_name m (keyword word.InsteadOf ∷ w))) ≡ 1 ∷ 1 ∷ 1 ∷ 1 ∷ trace (due_trait (of_instead r origin m) empty) w
instead_trace r origin m w h =
    ap (λ u. 1 ∷ 1 ∷ u) (counts (past_colons r origin) (past_second_word r origin m) (member_symbol m) (keyword word.InsteadOf ∷ w) 1 (second_word r origin m h) refl)

rule_trace : (r : Rules) (rule : Rule Nothing) (w : List Symbol) → IsProperRule rule → trace (due_rule r) (spell_rule rule w) ≡ rule_nests rule 1 (trace (due_rule (with_rule r rule)) w)
rule_trace r (renames note origin m seen alias) w h =
    origin_trace r origin m (spell_visibility seen (spell_alias alias (punct mark.Semicolon ∷ w))) h.0 ∙ ap (λ u. origin_nests origin 1 (1 ∷ 1 ∷ u)) (alias_trace r origin m seen alias w h.1)
rule_trace r (prefers note origin m empty) w h = let x : true ≡ false = h.1 in cc
rule_trace r (prefers note origin m (then_also xs x)) w h =
    instead_trace r origin m (commas spell_name (then_also xs x) (punct mark.Semicolon ∷ w)) h.0
    ∙ ap (λ u. 1 ∷ 1 ∷ 1 ∷ 1 ∷ u) (names_led (of_instead r origin m) xs x (punct mark.Semicolon ∷ w))

rules_trace : (traits : Names) (rules : Sequence (Rule Nothing)) (w : List Symbol) → Each IsProperRule rules
    → trace (due_rule (rules_of traits empty)) (joined spell_rule rules w) ≡ joined_nests rule_nests rules 1 (trace (due_rule (rules_of traits rules)) w)
rules_trace traits empty w h = refl
rules_trace traits (then_also rules rule) w h = rules_trace traits rules (spell_rule rule w) h.0 ∙ ap (joined_nests rule_nests rules 1) (rule_trace (rules_of traits rules) rule w h.1)

-- ---- constants and properties

abbrev constant_counts : (ms : Modifiers) (xs : Constants) (n : Word) → Counts MemberState advance_member member_depth_at (constant_reader ms xs n) 0
constant_counts ms xs n = record { counts = λ m t. refl }

constant_value : (ms : Modifiers) (xs : Constants) (c : ClassConstant Nothing) (t : Symbol) (w : List Symbol) (n : MemberState) → IsProperConstant c → EndsBefore c.value (t ∷ w)
    → constant_end ms (with_constant xs c.name c.value) (ending t) ≡ Some n → trace (due_constant ms xs) (spell_class_constant c (t ∷ w)) ≡ class_constant_nests c 0 (0 ∷ trace n w)
constant_value ms xs c t w n h ends is =
    named c.name h.0
    ∙ ap (λ u. 0 ∷ 0 ∷ u) (expression_depths advance_member member_depth_at (constant_reader ms xs c.name) 0 (constant_counts ms xs c.name) c.value t w n h.1 ends is
    ∙ sym (nests_shift c.value 0 0 [] (0 ∷ trace n w)))
  where
    named : (m : Word) → IsWord m → trace (due_constant ms xs) (spell_member_name m (punct mark.Assign ∷ spell c.value (t ∷ w))) ≡ 0 ∷ 0 ∷ trace (in_constant ms xs m (expects [])) (spell c.value (t ∷ w))
    named m g = counts (due_constant ms xs) (past_constant ms xs m) (member_symbol m) (punct mark.Assign ∷ spell c.value (t ∷ w)) 0 (constant_word ms xs m g) refl

constants_led : (ms : Modifiers) (xs : Constants) (c : ClassConstant Nothing) (w : List Symbol) → Each IsProperConstant xs
    → trace (due_constant ms empty) (commas spell_class_constant (then_also xs c) w)
    ≡ separated_nests class_constant_nests xs 0 (separator_nests xs 0 (trace (due_constant ms xs) (spell_class_constant c w)))
constants_led ms empty c w h = refl
constants_led ms (then_also xs y) c w h =
    constants_led ms xs y (punct mark.Comma ∷ spell_class_constant c w) h.0
    ∙ ap (λ u. separated_nests class_constant_nests xs 0 (separator_nests xs 0 u))
    (constant_value ms xs y (punct mark.Comma) (spell_class_constant c w) _ h.1 (at_comma y.value (spell_class_constant c w)) refl)

abbrev property_counts : (ms : Modifiers) (xs : Properties) (n : Name Nothing) → Counts MemberState advance_member member_depth_at (property_reader ms xs n) 0
property_counts ms xs n = record { counts = λ m t. refl }

property_value : (ms : Modifiers) (xs : Properties) (n : Name Nothing) (e : Form) (t : Symbol) (w : List Symbol) (next : MemberState) → Proper e → EndsBefore e (t ∷ w)
    → property_end ms (with_property xs n (Some e)) (ending t) ≡ Some next → trace (past_property ms xs n) (punct mark.Assign ∷ spell e (t ∷ w)) ≡ 0 ∷ nests e 0 (0 ∷ trace next w)
property_value ms xs n e t w next h ends is =
    ap (λ u. 0 ∷ u) (expression_depths advance_member member_depth_at (property_reader ms xs n) 0 (property_counts ms xs n) e t w next h ends is ∙ sym (nests_shift e 0 0 [] (0 ∷ trace next w)))

property_comma : (ms : Modifiers) (xs : Properties) (n : Name Nothing) (value : Option Form) (w : List Symbol) → IfAny value
    → trace (past_property ms xs n) (spell_value value (punct mark.Comma ∷ w)) ≡ value_nests value 0 (0 ∷ trace (due_property ms (then_also xs (record { name = n; value = value }))) w)
property_comma ms xs n None w h = refl
property_comma ms xs n (Some e) w h = property_value ms xs n e (punct mark.Comma) w _ h (at_comma e w) refl

property_last : (ms : Modifiers) (xs : Properties) (n : Name Nothing) (value : Option Form) (w : List Symbol) → IfAny value
    → trace (past_property ms xs n) (spell_value value (punct mark.Semicolon ∷ w))
    ≡ value_nests value 0 (0 ∷ trace (past_member (properties ms (then_also xs (record { name = n; value = value })))) w)
property_last ms xs n None w h = refl
property_last ms xs n (Some e) w h = property_value ms xs n e (punct mark.Semicolon) w _ h (at_semicolon e w) refl

properties_led : (ms : Modifiers) (m : Modifier Nothing) (xs : Properties) (x : Variable Nothing) (w : List Symbol) → Each (λ y. IfAny y.value) xs
    → trace (past_modifiers (then_also ms m)) (commas spell_variable (then_also xs x) w)
    ≡ separated_nests variable_nests xs 0 (separator_nests xs 0 (0 ∷ trace (past_property (then_also ms m) xs x.name) (spell_value x.value w)))
properties_led ms m empty x w h = refl
properties_led ms m (then_also xs y) x w h =
    properties_led ms m xs y (punct mark.Comma ∷ spell_variable x w) h.0
    ∙ ap (λ u. separated_nests variable_nests xs 0 (separator_nests xs 0 (0 ∷ u))) (property_comma (then_also ms m) xs y.name y.value (spell_variable x w) h.1)

-- ---- members

nothing_taken : (m : Member Nothing) (w : List Symbol) → trace (past_member m) w ≡ []
nothing_taken m [] = refl
nothing_taken m (t ∷ w) = refl

pub member_nesting : (m : Member Nothing) (w : List Symbol) → IsProperMember m → member_depths_read (spell_member m w) ≡ member_nests m 0 []
member_nesting (uses note empty) w p = cc
member_nesting (uses note (then_also xs x)) w p =
    ap (λ u. 0 ∷ u) (names_led of_use xs x (punct mark.Semicolon ∷ w) ∙ ap (λ u. separated_nests name_nests (then_also xs x) 0 (0 ∷ u)) (nothing_taken (uses tt (then_also xs x)) w))
member_nesting (uses_by note empty rules) w p = let x : true ≡ false = p.0 in cc
member_nesting (uses_by note (then_also xs x) rules) w p =
    ap (λ u. 0 ∷ u) (names_led of_use xs x (punct mark.LeftBrace ∷ joined spell_rule rules (punct mark.RightBrace ∷ w))
    ∙ ap (λ u. separated_nests name_nests (then_also xs x) 0 (0 ∷ u)) (rules_trace (then_also xs x) rules (punct mark.RightBrace ∷ w) p.1
    ∙ ap (λ u. joined_nests rule_nests rules 1 (1 ∷ u)) (nothing_taken (uses_by tt (then_also xs x) rules) w)))
member_nesting (class_constants ms empty) w p = let x : true ≡ false = p.0 in cc
member_nesting (class_constants ms (then_also xs c)) w p =
    modifiers_trace ms (keyword word.Const ∷ commas spell_class_constant (then_also xs c) (punct mark.Semicolon ∷ w))
    ∙ ap (λ u. joined_nests modifier_nests ms 0 (0 ∷ u)) (constants_led ms xs c (punct mark.Semicolon ∷ w) p.1.0
    ∙ ap (λ u. separated_nests class_constant_nests xs 0 (separator_nests xs 0 u)) (constant_value ms xs c (punct mark.Semicolon) w _ p.1.1 (at_semicolon c.value w) refl
    ∙ ap (λ u. class_constant_nests c 0 (0 ∷ u)) (nothing_taken (class_constants ms (then_also xs c)) w)))
member_nesting (method m) w p =
    let rest : List Symbol = symbol_if m.is_reference (punct mark.Ampersand) (member_symbol m.name ∷ spell_signature m.signature (spell_method_body m.body w)) in
    modifiers_trace m.modifiers (keyword word.Function ∷ rest)
    ∙ ap (λ u. joined_nests modifier_nests m.modifiers 0 (0 ∷ u))
    (wrapped_depths (advance_function method_form) advance_member (λ f. in_method m.modifiers f) function_depth_at member_depth_at (λ f t. refl) (λ f t. refl) rest past_function
    ∙ function_nesting method_form m.is_reference m.name (member_symbol m.name) m.signature m.body w (word_back m.name p.0) (word_no_ampersand m.name) p.1 p.2 (may_lack m.body))
member_nesting (properties empty xs) w p = let x : true ≡ false = p.0 in cc
member_nesting (properties (then_also ms m) empty) w p = let x : true ≡ false = p.1 in cc
member_nesting (properties (then_also ms m) (then_also xs x)) w p =
    modifiers_trace (then_also ms m) (commas spell_variable (then_also xs x) (punct mark.Semicolon ∷ w))
    ∙ ap (joined_nests modifier_nests (then_also ms m) 0) (properties_led ms m xs x (punct mark.Semicolon ∷ w) p.2.0
    ∙ ap (λ u. separated_nests variable_nests xs 0 (separator_nests xs 0 (0 ∷ u))) (property_last (then_also ms m) xs x.name x.value w p.2.1
    ∙ ap (λ u. value_nests x.value 0 (0 ∷ u)) (nothing_taken (properties (then_also ms m) (then_also xs x)) w)))
