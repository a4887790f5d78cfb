-- What is owed to `check`: how many functions and classes a legal script declares.
use Rattle.std.specs.Prelude.{◌≡◌, refl, ℕ, ◌+◌, List, [], ◌∷◌, Option, Some, None}
use Rattle.php_ast.specs.expression.View.{Note}
use Rattle.php_ast.specs.statement.Tree.{Statements}
use Rattle.php_ast.specs.declaration.Tree.{Item, of_statement, of_function, of_class, of_interface, of_trait, Member, uses, uses_by, class_constants, method, properties, Script}
use Rattle.php_legality.specs.Lists.{elements}
use Rattle.php_run.specs.Answer.{Answer, counted, not_yet}

-- ---- functions, and methods with bodies, each once where it is declared

abbrev pub one_if_some : Option (Statements Note) → ℕ
one_if_some None = 0
one_if_some (Some body) = 1

abbrev pub bodies_of_member : Member Note → ℕ
bodies_of_member (uses at names) = 0
bodies_of_member (uses_by at names rules) = 0
bodies_of_member (class_constants modifiers constants) = 0
bodies_of_member (method m) = one_if_some m.body
bodies_of_member (properties modifiers variables) = 0

abbrev pub bodies : List (Member Note) → ℕ
bodies [] = 0
bodies (member ∷ members) = bodies_of_member member + bodies members

abbrev pub functions_of_item : Item Note → ℕ
functions_of_item (of_statement s) = 0
functions_of_item (of_function f) = 1
functions_of_item (of_class c) = bodies (elements c.members)
functions_of_item (of_interface i) = bodies (elements i.members)
functions_of_item (of_trait t) = bodies (elements t.members)

abbrev pub functions : List (Item Note) → ℕ
functions [] = 0
functions (item ∷ items) = functions_of_item item + functions items

-- ---- classes, interfaces and traits

abbrev pub classes_of_item : Item Note → ℕ
classes_of_item (of_statement s) = 0
classes_of_item (of_function f) = 0
classes_of_item (of_class c) = 1
classes_of_item (of_interface i) = 1
classes_of_item (of_trait t) = 1

abbrev pub classes : List (Item Note) → ℕ
classes [] = 0
classes (item ∷ items) = classes_of_item item + classes items

-- the first word `class`, `interface` or `trait`
abbrev pub first_class : List (Item Note) → Option Note
first_class [] = None
first_class (of_statement s ∷ items) = first_class items
first_class (of_function f ∷ items) = first_class items
first_class (of_class c ∷ items) = Some c.note
first_class (of_interface i ∷ items) = Some i.note
first_class (of_trait t ∷ items) = Some t.note

-- ---- the answer

-- A script with a class, an interface or a trait is not checked yet.
abbrev pub checked_by : Option Note → List (Item Note) → Answer
checked_by None items = counted (functions items) (classes items)
checked_by (Some at) items = not_yet at.line

abbrev pub checked : Script Note → Answer
checked script = checked_by (first_class (elements script)) (elements script)
