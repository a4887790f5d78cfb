-- What names belong to that stand between commas behind the name of a class or an interface.
use Rattle.std.specs.Prelude.{◌≡◌, ◌≢◌, Option, Some, None, List}
use Rattle.php_ast.specs.Symbol.{Symbol}
use Rattle.php_ast.specs.statement.Tree.{Name}
use Rattle.php_grammar.specs.expression.Machine.{Nothing}
use Rattle.php_grammar.specs.declaration.ScriptMachine.{Items, Names, ClassWords, Heading, class_heading, interface_heading, HeadingRole, by_extends, by_implements, by_members, heading_step}
use Rattle.php_parse_script.specs.Look.{head_mark}

pub data Owner : Type 0 where
  -- the interfaces of a class, with its words, its name and its parent
  of_class : ClassWords → Name Nothing → Option (Name Nothing) → Owner
  -- the parents of an interface
  of_interface : Name Nothing → Owner

-- with these names
abbrev pub owned : Owner → Names → Heading
owned (of_class words n parent) names = class_heading words n parent names
owned (of_interface n) names = interface_heading n names

-- the word before the names
abbrev pub owner_mark : Owner → HeadingRole
owner_mark (of_class words n parent) = by_implements
owner_mark (of_interface n) = by_extends

-- A heading goes on with nothing in front of these symbols but its members.
abbrev pub GoesNoFurther : Heading → List Symbol → Type 0
GoesNoFurther heading w = (items : Items) → head_mark w ≢ by_members → heading_step items heading (head_mark w) ≡ None

-- A class without a parent isn't followed by one.
abbrev pub IsPastParent : Option (Name Nothing) → List Symbol → Type 0
IsPastParent None w = head_mark w ≢ by_extends
IsPastParent (Some n) w = Unit {0}

abbrev pub IsPast : Owner → List Symbol → Type 0
IsPast (of_class words n parent) w = IsPastParent parent w
IsPast (of_interface n) w = Unit {0}
