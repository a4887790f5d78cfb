-- A machine that reads a script: statements, functions, classes, interfaces and traits, one behind the other.
use Rattle.std.specs.Prelude.{Option, Some, None, List, [], ◌∷◌}
use Rattle.php_token.specs.declared.kind.Keyword.{Keyword}
use Rattle.php_token.specs.declared.kind.Keyword.TheVariants as word
use Rattle.php_token.specs.declared.kind.Punct.TheVariants as mark
use Rattle.php_ast.specs.declared.declaration.ClassModifier.{ClassModifier}
use Rattle.php_ast.specs.declared.declaration.ClassModifier.TheVariants as class_word
use Rattle.php_ast.specs.Symbol.{Symbol, keyword, punct}
use Rattle.php_grammar.specs.expression.Machine.{Nothing, pick}
use Rattle.php_grammar.specs.Run.{either, if_some, ReadingOf, reading, inside, run_of}
use Rattle.php_ast.specs.statement.Tree.{Sequence, empty, then_also, Name, Statements, no_statement}
use Rattle.php_ast.specs.declaration.Tree.{ClassWord, Member, Item, of_statement, of_function, of_class, of_interface, of_trait, Script}
use Rattle.php_grammar.specs.statement.Role.{is_right_brace, name_text}
use Rattle.php_grammar.specs.statement.Forms.{StatementState, due_statement}
use Rattle.php_grammar.specs.statement.Machine.{advance_statement, named_here}
use Rattle.php_grammar.specs.statement.Reading.{halt_statement, whole_statement, any_name, braces}
use Rattle.php_grammar.specs.declaration.SignatureMachine.{any_word}
use Rattle.php_grammar.specs.declaration.FunctionMachine.{function_form, Routine, FunctionState, past_function, advance_function, halt_function, whole_function}
use Rattle.php_grammar.specs.declaration.MemberMachine.{MemberState, past_modifiers, advance_member, halt_member, whole_member}

-- ---- the roles of a symbol at the outermost level

pub data ItemRole : Type 0 where
  at_function : ItemRole
  at_class : ItemRole
  at_class_word : ClassModifier → ItemRole
  at_interface : ItemRole
  at_trait : ItemRole
  -- anything else, which begins a statement or nothing
  at_statement : ItemRole

abbrev pub item_keyword : Keyword → ItemRole
item_keyword word.Function = at_function
item_keyword word.Class = at_class
item_keyword word.Abstract = at_class_word class_word.Abstract
item_keyword word.Final = at_class_word class_word.Final
item_keyword word.Interface = at_interface
item_keyword word.Trait = at_trait
item_keyword _ = at_statement

abbrev pub item_role : Symbol → ItemRole
item_role (keyword k) = item_keyword k
item_role _ = at_statement

-- behind the name of a class or an interface
pub data HeadingRole : Type 0 where
  by_extends : HeadingRole
  by_implements : HeadingRole
  by_comma : HeadingRole
  by_members : HeadingRole
  by_no_heading : HeadingRole

abbrev pub heading_role : Symbol → HeadingRole
heading_role (keyword word.Extends) = by_extends
heading_role (keyword word.Implements) = by_implements
heading_role (punct mark.Comma) = by_comma
heading_role (punct mark.LeftBrace) = by_members
heading_role _ = by_no_heading

-- ---- states

abbrev pub Items : Type 0
Items = Script Nothing

abbrev pub Names : Type 0
Names = Sequence (Name Nothing)

abbrev pub ClassWords : Type 0
ClassWords = Sequence (ClassWord Nothing)

-- what stands before members
pub data Heading : Type 0 where
  class_heading : ClassWords → Name Nothing → Option (Name Nothing) → Names → Heading
  interface_heading : Name Nothing → Names → Heading
  trait_heading : Name Nothing → Heading

-- the word before a name
pub data Kind : Type 0 where
  class_kind : ClassWords → Kind
  interface_kind : Kind
  trait_kind : Kind

-- what is due, behind these items
pub data ScriptState : Type 0 where
  due_item : Items → ScriptState
  in_statement : Items → StatementState → ScriptState
  in_function : Items → FunctionState (Name Nothing) → ScriptState
  -- behind `abstract` or `final`, of which one stands there at least
  past_class_words : Items → ClassWords → ScriptState
  due_heading_name : Items → Kind → ScriptState
  past_heading : Items → Heading → ScriptState
  -- the parent of a class, and a further interface
  due_parent : Items → ClassWords → Name Nothing → ScriptState
  due_interface : Items → Heading → ScriptState
  -- a member, or the end of the members
  due_member : Items → Heading → Sequence (Member Nothing) → ScriptState
  in_member : Items → Heading → Sequence (Member Nothing) → MemberState → ScriptState

-- ---- steps

abbrev pub item_of : Heading → Sequence (Member Nothing) → Item Nothing
item_of (class_heading words n parent interfaces) members =
    of_class (record { modifiers = words; note = tt; name = n; parent = parent; interfaces = interfaces; members = members })
item_of (interface_heading n parents) members = of_interface (record { note = tt; name = n; parents = parents; members = members })
item_of (trait_heading n) members = of_trait (record { note = tt; name = n; members = members })

-- a function always has a block
abbrev pub block_of : Option (Statements Nothing) → Statements Nothing
block_of None = no_statement
block_of (Some body) = body

abbrev pub function_of : Routine (Name Nothing) → Item Nothing
function_of f = of_function (record {
  note = tt;
  is_reference = f.is_reference;
  name = f.name;
  signature = f.signature;
  body = block_of f.body;
})

abbrev pub with_item : Items → Heading → Sequence (Member Nothing) → Items
with_item items heading members = then_also items (item_of heading members)

abbrev pub with_word : ClassWords → ClassModifier → ClassWords
with_word words w = then_also words (record { note = tt; word = w })

abbrev pub statement_step : Items → StatementState → Symbol → Option ScriptState
statement_step items m t = if_some (advance_statement m t) (λ n. Some (in_statement items n))

abbrev pub item_begun : Items → ItemRole → Symbol → Option ScriptState
item_begun items at_function t = Some (in_function items past_function)
item_begun items at_class t = Some (due_heading_name items (class_kind empty))
item_begun items (at_class_word w) t = Some (past_class_words items (with_word empty w))
item_begun items at_interface t = Some (due_heading_name items interface_kind)
item_begun items at_trait t = Some (due_heading_name items trait_kind)
item_begun items at_statement t = statement_step items (due_statement []) t

abbrev pub item_step : Items → Symbol → Option ScriptState
item_step items t = item_begun items (item_role t) t

abbrev pub class_word_step : Items → ClassWords → ItemRole → Option ScriptState
class_word_step items words (at_class_word w) = Some (past_class_words items (with_word words w))
class_word_step items words at_class = Some (due_heading_name items (class_kind words))
class_word_step items words _ = None

abbrev pub begun_heading : Kind → Name Nothing → Heading
begun_heading (class_kind words) n = class_heading words n None empty
begun_heading interface_kind n = interface_heading n empty
begun_heading trait_kind n = trait_heading n

abbrev pub with_interface : Heading → Name Nothing → Heading
with_interface (class_heading words n parent interfaces) other = class_heading words n parent (then_also interfaces other)
with_interface (interface_heading n parents) other = interface_heading n (then_also parents other)
with_interface (trait_heading n) other = trait_heading n

-- `extends` stands before `implements`, and a comma between two names.
abbrev pub heading_step : Items → Heading → HeadingRole → Option ScriptState
heading_step items heading by_members = Some (due_member items heading empty)
heading_step items (class_heading words n None empty) by_extends = Some (due_parent items words n)
heading_step items (class_heading words n parent empty) by_implements = Some (due_interface items (class_heading words n parent empty))
heading_step items (class_heading words n parent (then_also xs x)) by_comma =
    Some (due_interface items (class_heading words n parent (then_also xs x)))
heading_step items (interface_heading n empty) by_extends = Some (due_interface items (interface_heading n empty))
heading_step items (interface_heading n (then_also xs x)) by_comma = Some (due_interface items (interface_heading n (then_also xs x)))
heading_step items heading _ = None

abbrev pub name_here : Symbol → (Name Nothing → ScriptState) → Option ScriptState
name_here t f = if_some (name_text t) (λ text. Some (f (named_here text)))

abbrev pub member_begun : Items → Heading → Sequence (Member Nothing) → MemberState → Symbol → Option ScriptState
member_begun items heading members m t = if_some (advance_member m t) (λ n. Some (in_member items heading members n))

abbrev pub member_step : Items → Heading → Sequence (Member Nothing) → Symbol → Option ScriptState
member_step items heading members t =
    pick (is_right_brace t) (Some (due_item (with_item items heading members))) (member_begun items heading members (past_modifiers empty) t)

abbrev pub advance_script : ScriptState → Symbol → Option ScriptState
advance_script (due_item items) t = item_step items t
advance_script (in_statement items m) t =
    either (statement_step items m t) (if_some (whole_statement m) (λ a. item_step (then_also items (of_statement a)) t))
advance_script (in_function items m) t =
    either (if_some (advance_function function_form m t) (λ n. Some (in_function items n)))
    (if_some (whole_function function_form m) (λ f. item_step (then_also items (function_of f)) t))
advance_script (past_class_words items words) t = class_word_step items words (item_role t)
advance_script (due_heading_name items kind) t = name_here t (λ n. past_heading items (begun_heading kind n))
advance_script (past_heading items heading) t = heading_step items heading (heading_role t)
advance_script (due_parent items words n) t = name_here t (λ parent. past_heading items (class_heading words n (Some parent) empty))
advance_script (due_interface items heading) t = name_here t (λ n. past_heading items (with_interface heading n))
advance_script (due_member items heading members) t = member_step items heading members t
advance_script (in_member items heading members m) t =
    either (member_begun items heading members m t) (if_some (whole_member m) (λ x. member_step items heading (then_also members x) t))

-- ---- where it halts

abbrev pub halt_script : ScriptState → List Symbol → ReadingOf Items
halt_script (due_item items) w = reading items [] w
halt_script (in_statement items m) w = inside (λ a. then_also items (of_statement a)) (halt_statement m w) [] w
halt_script (in_function items m) w = inside (λ f. then_also items (function_of f)) (halt_function function_form m w) [] w
halt_script (past_class_words items words) w =
    reading (with_item items (begun_heading (class_kind words) any_name) empty) (keyword word.Class ∷ any_word ∷ braces []) w
halt_script (due_heading_name items kind) w = reading (with_item items (begun_heading kind any_name) empty) (any_word ∷ braces []) w
halt_script (past_heading items heading) w = reading (with_item items heading empty) (braces []) w
halt_script (due_parent items words n) w =
    reading (with_item items (class_heading words n (Some any_name) empty) empty) (any_word ∷ braces []) w
halt_script (due_interface items heading) w = reading (with_item items (with_interface heading any_name) empty) (any_word ∷ braces []) w
halt_script (due_member items heading members) w = reading (with_item items heading members) (punct mark.RightBrace ∷ []) w
halt_script (in_member items heading members m) w =
    inside (λ x. with_item items heading (then_also members x)) (halt_member m w) (punct mark.RightBrace ∷ []) w

-- the reading of a script
abbrev pub read_script : List Symbol → ReadingOf Items
read_script = run_of advance_script halt_script (due_item empty)
