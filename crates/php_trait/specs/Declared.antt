-- What a script declares beside functions: its classes, interfaces and traits, in source order, and their names.
use Rattle.std.specs.Prelude.{◌≡◌, ℕ, Bool, true, false, Option, Some, None, List, [], ◌∷◌, ◌++◌, cond}
use Rattle.std.specs.Str.{str_eq_ignore_ascii_case}
use Rattle.php_ast.specs.declared.spot.Spot.{Spot}
use Rattle.php_ast.specs.declared.declaration.ClassModifier.{ClassModifier}
use Rattle.php_ast.specs.expression.Tree.{Member, named, reserved, held}
use Rattle.php_ast.specs.expression.View.{Note}
use Rattle.php_ast.specs.statement.Tree.{Sequence, empty, then_also, Name}
use Rattle.php_ast.specs.declaration.Tree as tree
use Rattle.php_ast.specs.declaration.Tree.{Item, of_statement, of_function, of_class, of_interface, of_trait, Script, ClassWord}

abbrev pub Text : Type 0
Text = List ℕ

-- the elements of a sequence, in order
abbrev pub elements : {A : Type 0} → Sequence A → List A
elements empty = []
elements (then_also xs x) = elements xs ++ (x ∷ [])

abbrev pub joined : {A B : Type 0} → (A → List B) → List A → List B
joined f [] = []
joined f (x ∷ xs) = f x ++ joined f xs

abbrev pub kept : {A : Type 0} → (A → Bool) → List A → List A
kept p [] = []
kept p (x ∷ xs) = cond (p x) (x ∷ kept p xs) (kept p xs)

abbrev pub any : {A : Type 0} → (A → Bool) → List A → Bool
any p [] = false
any p (x ∷ xs) = cond (p x) true (any p xs)

abbrev pub first_that : {A : Type 0} → (A → Bool) → List A → Option A
first_that p [] = None
first_that p (x ∷ xs) = cond (p x) (Some x) (first_that p xs)

-- ---- names

-- Names of classes, interfaces, traits and methods count in any letter case of ASCII.
abbrev pub same_name : Text → Text → Bool
same_name a b = str_eq_ignore_ascii_case a b

abbrev pub member_text : Member Note → Text
member_text (named note text) = text
member_text (reserved note word) = note.text
member_text (held note text) = text

-- where a token stands, by its note
abbrev pub spot : Note → Spot
spot note = record { place = note.place; line = note.line }

abbrev pub name_spot : Name Note → Spot
name_spot n = spot n.note

abbrev pub member_spot : Member Note → Spot
member_spot (named note text) = spot note
member_spot (reserved note word) = spot note
member_spot (held note text) = spot note

-- ---- declarations

pub data Kind : Type 0 where
  of_a_class : Kind
  of_an_interface : Kind
  of_a_trait : Kind

pub record Declared : Type 0 where
  pub kind : Kind
  -- of the word that begins the declaration
  pub note : Note
  pub words : List (ClassWord Note)
  pub name : Name Note
  -- behind `extends`: at most one of a class
  pub parents : List (Name Note)
  -- behind `implements`
  pub interfaces : List (Name Note)
  pub members : List (tree.Member Note)

abbrev pub one_or_none : {A : Type 0} → Option A → List A
one_or_none None = []
one_or_none (Some x) = x ∷ []

abbrev pub declared_by : Item Note → List Declared
declared_by (of_statement s) = []
declared_by (of_function f) = []
declared_by (of_class c) = record {
  kind = of_a_class;
  note = c.note;
  words = elements c.modifiers;
  name = c.name;
  parents = one_or_none c.parent;
  interfaces = elements c.interfaces;
  members = elements c.members;
} ∷ []
declared_by (of_interface i) = record {
  kind = of_an_interface;
  note = i.note;
  words = [];
  name = i.name;
  parents = elements i.parents;
  interfaces = [];
  members = elements i.members;
} ∷ []
declared_by (of_trait t) = record {
  kind = of_a_trait;
  note = t.note;
  words = [];
  name = t.name;
  parents = [];
  interfaces = [];
  members = elements t.members;
} ∷ []

abbrev pub declarations : Script Note → List Declared
declarations s = joined declared_by (elements s)

abbrev pub is_trait : Declared → Bool
is_trait d = of_kind d.kind
  where
    of_kind : Kind → Bool
    of_kind of_a_class = false
    of_kind of_an_interface = false
    of_kind of_a_trait = true

-- the trait of a name; a legal script declares a name once
abbrev pub trait_named : List Declared → Text → Option Declared
trait_named ds text = first_that (λ d. cond (is_trait d) (same_name d.name.text text) false) ds
