-- A machine that reads a member of a class, an interface or a trait.
use Rattle.std.specs.Prelude.{ℕ, Option, Some, None, List, [], ◌∷◌}
use Rattle.php_token.specs.declared.kind.Keyword.{Keyword}
use Rattle.php_token.specs.declared.kind.Keyword.TheVariants as word
use Rattle.php_token.specs.declared.kind.Punct.TheVariants as mark
use Rattle.php_ast.specs.declared.declaration.ModifierWord.{ModifierWord}
use Rattle.php_ast.specs.declared.declaration.ModifierWord.TheVariants as modifier
use Rattle.php_ast.specs.declared.declaration.Visibility.{Visibility}
use Rattle.php_ast.specs.declared.declaration.Visibility.TheVariants as visibility
use Rattle.php_ast.specs.Symbol as symbol
use Rattle.php_ast.specs.Symbol.{Symbol, keyword, punct}
use Rattle.php_ast.specs.expression.Tree as tree
use Rattle.php_grammar.specs.declared.closer.Closer.TheVariants as ender
use Rattle.php_grammar.specs.expression.Role.{is_left_brace, word_of}
use Rattle.php_grammar.specs.expression.Machine.{Nothing, Form, State, expects, any, any_symbol, pick}
use Rattle.php_grammar.specs.Run.{either, if_some, ReadingOf, reading, if_whole, inside, run_of, through_expression, around_expression}
use Rattle.php_ast.specs.statement.Tree.{Sequence, empty, then_also, Name, Variable}
use Rattle.php_ast.specs.declaration.Tree.{Modifier, ClassConstant, Rule, renames, prefers, Member, uses, uses_by, class_constants, method, properties}
use Rattle.php_grammar.specs.statement.Role.{Ending, closer, ending, is_assign, is_semicolon, is_right_brace, name_text}
use Rattle.php_grammar.specs.statement.Machine.{named_here}
use Rattle.php_grammar.specs.statement.Reading.{any_name, end_symbol}
use Rattle.php_grammar.specs.declaration.SignatureMachine.{any_word}
use Rattle.php_grammar.specs.declaration.FunctionMachine.{method_form, Routine, FunctionState, past_function, advance_function, halt_function}

-- ---- the roles of a symbol among members

pub data MemberRole : Type 0 where
  at_modifier : ModifierWord → MemberRole
  at_function : MemberRole
  at_class_constants : MemberRole
  at_use : MemberRole
  at_variable : List ℕ → MemberRole
  at_other : MemberRole

abbrev pub member_keyword : Keyword → MemberRole
member_keyword word.Public = at_modifier modifier.Public
member_keyword word.Protected = at_modifier modifier.Protected
member_keyword word.Private = at_modifier modifier.Private
member_keyword word.Static = at_modifier modifier.Static
member_keyword word.Abstract = at_modifier modifier.Abstract
member_keyword word.Final = at_modifier modifier.Final
member_keyword word.Var = at_modifier modifier.Var
member_keyword word.Function = at_function
member_keyword word.Const = at_class_constants
member_keyword word.Use = at_use
member_keyword _ = at_other

abbrev pub member_role : Symbol → MemberRole
member_role (symbol.variable text) = at_variable text
member_role (keyword k) = member_keyword k
member_role _ = at_other

abbrev pub visibility_of_keyword : Keyword → Option Visibility
visibility_of_keyword word.Public = Some visibility.Public
visibility_of_keyword word.Protected = Some visibility.Protected
visibility_of_keyword word.Private = Some visibility.Private
visibility_of_keyword _ = None

abbrev pub visibility_of : Symbol → Option Visibility
visibility_of (keyword k) = visibility_of_keyword k
visibility_of _ = None

-- the word that says what a rule does
pub data RuleRole : Type 0 where
  by_as : RuleRole
  by_instead_of : RuleRole
  -- `::`
  by_colons : RuleRole
  by_no_rule : RuleRole

abbrev pub rule_role : Symbol → RuleRole
rule_role (keyword word.As) = by_as
rule_role (keyword word.InsteadOf) = by_instead_of
rule_role (punct mark.DoubleColon) = by_colons
rule_role _ = by_no_rule

-- ---- states

abbrev pub Word : Type 0
Word = tree.Member Nothing

abbrev pub Names : Type 0
Names = Sequence (Name Nothing)

abbrev pub Modifiers : Type 0
Modifiers = Sequence (Modifier Nothing)

-- a `use` that has rules: its traits, and the rules so far
pub record Rules : Type 0 where
  pub traits : Names
  pub rules : Sequence (Rule Nothing)

-- names between commas in a member: the traits of a `use`, and the classes behind `insteadof`
pub data NamesIn : Type 0 where
  of_use : NamesIn
  of_instead : Rules → Name Nothing → Word → NamesIn

-- what is due
pub data MemberState : Type 0 where
  -- the first token, or what stands behind modifiers
  past_modifiers : Modifiers → MemberState
  due_trait : NamesIn → Names → MemberState
  past_trait : NamesIn → Names → MemberState
  -- a constant, what stands behind its name, and its value
  due_constant : Modifiers → Sequence (ClassConstant Nothing) → MemberState
  past_constant : Modifiers → Sequence (ClassConstant Nothing) → Word → MemberState
  in_constant : Modifiers → Sequence (ClassConstant Nothing) → Word → State → MemberState
  -- a property, what stands behind its name, and its value
  due_property : Modifiers → Sequence (Variable Nothing) → MemberState
  past_property : Modifiers → Sequence (Variable Nothing) → Name Nothing → MemberState
  in_property : Modifiers → Sequence (Variable Nothing) → Name Nothing → State → MemberState
  in_method : Modifiers → FunctionState Word → MemberState
  -- a rule, or the end of the rules
  due_rule : Rules → MemberState
  -- behind its first word, behind a `::`, and behind a class and a word
  past_first_word : Rules → Word → MemberState
  past_colons : Rules → Name Nothing → MemberState
  past_second_word : Rules → Name Nothing → Word → MemberState
  -- behind `as`, behind a visibility, and where only `;` is due
  past_as : Rules → Option (Name Nothing) → Word → MemberState
  past_visibility : Rules → Option (Name Nothing) → Word → Visibility → MemberState
  due_rule_end : Rules → Rule Nothing → MemberState
  past_member : Member Nothing → MemberState

-- ---- steps

abbrev pub with_modifier : Modifiers → ModifierWord → Modifiers
with_modifier modifiers w = then_also modifiers (record { note = tt; word = w })

abbrev pub with_rule : Rules → Rule Nothing → Rules
with_rule r rule = record { traits = r.traits; rules = then_also r.rules rule }

-- A `use` has no modifier, and a property has one at least.
abbrev pub first_step : Modifiers → MemberRole → Option MemberState
first_step modifiers (at_modifier w) = Some (past_modifiers (with_modifier modifiers w))
first_step modifiers at_function = Some (in_method modifiers past_function)
first_step modifiers at_class_constants = Some (due_constant modifiers empty)
first_step empty at_use = Some (due_trait of_use empty)
first_step (then_also modifiers m) (at_variable text) = Some (past_property (then_also modifiers m) empty (named_here text))
first_step modifiers _ = None

abbrev pub name_here : Symbol → (Name Nothing → MemberState) → Option MemberState
name_here t f = if_some (name_text t) (λ text. Some (f (named_here text)))

abbrev pub word_here : Symbol → (Word → MemberState) → Option MemberState
word_here t f = if_some (word_of t) (λ w. Some (f w))

-- behind a name of a list
abbrev pub listed_step : NamesIn → Names → Symbol → Ending → Option MemberState
listed_step list names t (closer ender.Comma) = Some (due_trait list names)
listed_step of_use names t (closer ender.Semicolon) = Some (past_member (uses tt names))
listed_step of_use names t _ = pick (is_left_brace t) (Some (due_rule (record { traits = names; rules = empty }))) None
listed_step (of_instead r origin w) names t (closer ender.Semicolon) = Some (due_rule (with_rule r (prefers tt origin w names)))
listed_step _ names t _ = None

abbrev pub constant_end : Modifiers → Sequence (ClassConstant Nothing) → Ending → Option MemberState
constant_end modifiers items (closer ender.Comma) = Some (due_constant modifiers items)
constant_end modifiers items (closer ender.Semicolon) = Some (past_member (class_constants modifiers items))
constant_end modifiers items _ = None

abbrev pub property_end : Modifiers → Sequence (Variable Nothing) → Ending → Option MemberState
property_end modifiers items (closer ender.Comma) = Some (due_property modifiers items)
property_end modifiers items (closer ender.Semicolon) = Some (past_member (properties modifiers items))
property_end modifiers items _ = None

abbrev pub with_constant : Sequence (ClassConstant Nothing) → Word → Form → Sequence (ClassConstant Nothing)
with_constant items w e = then_also items (record { name = w; value = e })

abbrev pub with_property : Sequence (Variable Nothing) → Name Nothing → Option Form → Sequence (Variable Nothing)
with_property items n e = then_also items (record { name = n; value = e })

abbrev pub due_property_step : Modifiers → Sequence (Variable Nothing) → MemberRole → Option MemberState
due_property_step modifiers items (at_variable text) = Some (past_property modifiers items (named_here text))
due_property_step modifiers items _ = None

abbrev pub method_of : Modifiers → Routine Word → Member Nothing
method_of modifiers f = method (record {
  modifiers = modifiers;
  note = tt;
  is_reference = f.is_reference;
  name = f.name;
  signature = f.signature;
  body = f.body;
})

-- Behind the first word of a rule. A name may be that of a class, in front of `::`.
abbrev pub first_word_step : Rules → Word → RuleRole → Option MemberState
first_word_step r w by_as = Some (past_as r None w)
first_word_step r (tree.named note text) by_colons = Some (past_colons r (named_here text))
first_word_step r w _ = None

abbrev pub second_word_step : Rules → Name Nothing → Word → RuleRole → Option MemberState
second_word_step r origin w by_as = Some (past_as r (Some origin) w)
second_word_step r origin w by_instead_of = Some (due_trait (of_instead r origin w) empty)
second_word_step r origin w _ = None

abbrev pub rule_end : Rules → Rule Nothing → Symbol → Option MemberState
rule_end r rule t = pick (is_semicolon t) (Some (due_rule (with_rule r rule))) None

-- A word of visibility directly behind `as` is the visibility.
abbrev pub as_step : Rules → Option (Name Nothing) → Word → Symbol → Option MemberState
as_step r origin w t =
    either (if_some (visibility_of t) (λ seen. Some (past_visibility r origin w seen)))
    (either (word_here t (λ alias. due_rule_end r (renames tt origin w None (Some alias)))) (rule_end r (renames tt origin w None None) t))

abbrev pub visibility_step : Rules → Option (Name Nothing) → Word → Visibility → Symbol → Option MemberState
visibility_step r origin w seen t =
    either (word_here t (λ alias. due_rule_end r (renames tt origin w (Some seen) (Some alias)))) (rule_end r (renames tt origin w (Some seen) None) t)

abbrev pub advance_member : MemberState → Symbol → Option MemberState
advance_member (past_modifiers modifiers) t = first_step modifiers (member_role t)
advance_member (due_trait list names) t = name_here t (λ n. past_trait list (then_also names n))
advance_member (past_trait list names) t = listed_step list names t (ending t)
advance_member (due_constant modifiers items) t = word_here t (past_constant modifiers items)
advance_member (past_constant modifiers items w) t = pick (is_assign t) (Some (in_constant modifiers items w (expects []))) None
advance_member (in_constant modifiers items w m) t =
    through_expression m t (λ n. in_constant modifiers items w n) (λ e. constant_end modifiers (with_constant items w e) (ending t))
advance_member (due_property modifiers items) t = due_property_step modifiers items (member_role t)
advance_member (past_property modifiers items n) t =
    pick (is_assign t) (Some (in_property modifiers items n (expects []))) (property_end modifiers (with_property items n None) (ending t))
advance_member (in_property modifiers items n m) t =
    through_expression m t (λ next. in_property modifiers items n next) (λ e. property_end modifiers (with_property items n (Some e)) (ending t))
advance_member (in_method modifiers m) t = if_some (advance_function method_form m t) (λ n. Some (in_method modifiers n))
advance_member (due_rule r) t =
    pick (is_right_brace t) (Some (past_member (uses_by tt r.traits r.rules))) (word_here t (past_first_word r))
advance_member (past_first_word r w) t = first_word_step r w (rule_role t)
advance_member (past_colons r origin) t = word_here t (past_second_word r origin)
advance_member (past_second_word r origin w) t = second_word_step r origin w (rule_role t)
advance_member (past_as r origin w) t = as_step r origin w t
advance_member (past_visibility r origin w seen) t = visibility_step r origin w seen t
advance_member (due_rule_end r rule) t = rule_end r rule t
advance_member (past_member m) t = None

-- ---- where it halts

abbrev pub any_class_word : Word
any_class_word = tree.named tt []

abbrev pub least_properties : Modifiers → Sequence (Variable Nothing) → Name Nothing → Member Nothing
least_properties modifiers items n = properties modifiers (with_property items n None)

-- The shortest member is a `use` of one trait, and behind modifiers one property.
abbrev pub first_rest : Modifiers → List Symbol → ReadingOf (Member Nothing)
first_rest empty w = reading (uses tt (then_also empty any_name)) (keyword word.Use ∷ any_word ∷ end_symbol ∷ []) w
first_rest (then_also modifiers m) w = reading (least_properties (then_also modifiers m) empty any_name) (any_symbol ∷ end_symbol ∷ []) w

abbrev pub names_member : NamesIn → Names → Member Nothing
names_member of_use names = uses tt names
names_member (of_instead r origin w) names = uses_by tt r.traits (then_also r.rules (prefers tt origin w names))

abbrev pub names_rest : NamesIn → List Symbol
names_rest of_use = end_symbol ∷ []
names_rest (of_instead r origin w) = end_symbol ∷ punct mark.RightBrace ∷ []

abbrev pub ruled : Rules → Rule Nothing → List Symbol → List Symbol → ReadingOf (Member Nothing)
ruled r rule missing w = reading (uses_by tt r.traits (then_also r.rules rule)) missing w

abbrev pub rule_rest : List Symbol
rule_rest = end_symbol ∷ punct mark.RightBrace ∷ []

abbrev pub halt_member : MemberState → List Symbol → ReadingOf (Member Nothing)
halt_member (past_modifiers modifiers) w = first_rest modifiers w
halt_member (due_trait list names) w = reading (names_member list (then_also names any_name)) (any_word ∷ names_rest list) w
halt_member (past_trait list names) w = reading (names_member list names) (names_rest list) w
halt_member (due_constant modifiers items) w =
    reading (class_constants modifiers (with_constant items any_class_word any)) (any_word ∷ punct mark.Assign ∷ any_symbol ∷ end_symbol ∷ []) w
halt_member (past_constant modifiers items n) w =
    reading (class_constants modifiers (with_constant items n any)) (punct mark.Assign ∷ any_symbol ∷ end_symbol ∷ []) w
halt_member (in_constant modifiers items n m) w =
    around_expression (λ e. class_constants modifiers (with_constant items n e)) m (end_symbol ∷ []) w
halt_member (due_property modifiers items) w = reading (least_properties modifiers items any_name) (any_symbol ∷ end_symbol ∷ []) w
halt_member (past_property modifiers items n) w = reading (least_properties modifiers items n) (end_symbol ∷ []) w
halt_member (in_property modifiers items n m) w =
    around_expression (λ e. properties modifiers (with_property items n (Some e))) m (end_symbol ∷ []) w
halt_member (in_method modifiers m) w = inside (method_of modifiers) (halt_function method_form m w) [] w
halt_member (due_rule r) w = reading (uses_by tt r.traits r.rules) (punct mark.RightBrace ∷ []) w
halt_member (past_first_word r n) w = ruled r (renames tt None n None None) (keyword word.As ∷ rule_rest) w
halt_member (past_colons r origin) w = ruled r (renames tt (Some origin) any_class_word None None) (any_word ∷ keyword word.As ∷ rule_rest) w
halt_member (past_second_word r origin n) w = ruled r (renames tt (Some origin) n None None) (keyword word.As ∷ rule_rest) w
halt_member (past_as r origin n) w = ruled r (renames tt origin n None None) rule_rest w
halt_member (past_visibility r origin n seen) w = ruled r (renames tt origin n (Some seen) None) rule_rest w
halt_member (due_rule_end r rule) w = ruled r rule rule_rest w
halt_member (past_member m) w = reading m [] w

-- the reading of a member
abbrev pub read_member : List Symbol → ReadingOf (Member Nothing)
read_member = run_of advance_member halt_member (past_modifiers empty)

-- the member that has been read, where nothing is missing
abbrev pub whole_member : MemberState → Option (Member Nothing)
whole_member m = if_whole (halt_member m [])
