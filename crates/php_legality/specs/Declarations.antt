-- What a script declares, and the parts of it that rules speak of: bodies with what they belong to, signatures, members.
use Rattle.std.specs.Prelude.{Bool, true, false, ◌&&◌, not, Option, Some, None, List, [], ◌∷◌, ◌++◌, map, flat_map, codes}
use Rattle.std.specs.Str.{str_eq_ignore_ascii_case}
use Rattle.php_ast.specs.expression.Tree.{Tree}
use Rattle.php_ast.specs.expression.Tree as tree
use Rattle.php_ast.specs.expression.View.{Note}
use Rattle.php_ast.specs.statement.Tree.{Name, Variable, Statement}
use Rattle.php_ast.specs.declaration.Tree.{Base, of_name, of_array, of_callable, Type_of, Signature, Method, Member, class_constants, method, properties, Item, of_statement, of_function, of_class, of_interface, of_trait}
pub use Rattle.php_legality.specs.declared.scope.Scope.{Scope}
use Rattle.php_legality.specs.Lists.{elements, where_some}
use Rattle.php_legality.specs.Expressions.{Used, all_used}
use Rattle.php_legality.specs.Statements.{Inside, Around, inside_list, all_inside, own, own_constants, first_values, as_values}

abbrev pub outermost : Scope
outermost = record { in_class = false; in_function = false; is_void = false }

abbrev pub class_scope : Scope
class_scope = record { in_class = true; in_function = false; is_void = false }

-- ---- classes, interfaces and traits alike

-- whose members they are
pub data Owner : Type 0 where
  of_a_class : Owner
  of_an_interface : Owner

pub record Members (S : Type 0) : Type 0 where
  pub owner : Owner
  pub members : List (Member S)

abbrev pub members_of : {S : Type 0} → Item S → List (Members S)
members_of (of_statement s) = []
members_of (of_function g) = []
members_of (of_class c) = record { owner = of_a_class; members = elements c.members } ∷ []
members_of (of_interface i) = record { owner = of_an_interface; members = elements i.members } ∷ []
members_of (of_trait t) = record { owner = of_a_class; members = elements t.members } ∷ []

-- those of each class, interface and trait of a script
abbrev pub all_members : {S : Type 0} → List (Item S) → List (Members S)
all_members items = flat_map members_of items

abbrev pub methods_of : {S : Type 0} → Member S → List (Method S)
methods_of (method m) = m ∷ []
methods_of _ = []

abbrev pub properties_of : {S : Type 0} → Member S → List (Variable S)
properties_of (properties modifiers variables) = elements variables
properties_of _ = []

abbrev pub constants_of : {S : Type 0} → Member S → List (tree.Member S × Tree S)
constants_of (class_constants modifiers items) = map (λ c. (c.name, c.value)) (elements items)
constants_of _ = []

-- ---- bodies

-- `void`, without `?`
abbrev pub is_void_type : {S : Type 0} → Option (Type_of S) → Bool
is_void_type None = false
is_void_type (Some t) = not t.is_nullable && is_void_base t.base
  where
    is_void_base : {S : Type 0} → Base S → Bool
    is_void_base (of_name n) = str_eq_ignore_ascii_case (codes "void") n.text
    is_void_base of_array = false
    is_void_base of_callable = false

abbrev pub body_scope : {S : Type 0} → Bool → Signature S → Scope
body_scope in_class signature = record { in_class = in_class; in_function = true; is_void = is_void_type signature.result }

-- a statement, what stands around it, and what its body belongs to
pub record Site (S : Type 0) : Type 0 where
  pub scope : Scope
  pub around : List Around
  pub statement : Statement S

abbrev pub sites_in : {S : Type 0} → Scope → List (Inside S) → List (Site S)
sites_in scope found = map (λ x. record { scope = scope; around = x.around; statement = x.statement }) found

abbrev pub method_sites : {S : Type 0} → Method S → List (Site S)
method_sites m = where_some (λ body. sites_in (body_scope true m.signature) (inside_list [] body)) m.body

abbrev pub item_sites : {S : Type 0} → Item S → List (Site S)
item_sites (of_statement s) = sites_in outermost (all_inside [] s)
item_sites (of_function g) = sites_in (body_scope false g.signature) (inside_list [] g.body)
item_sites item = flat_map (λ those. flat_map (λ member. flat_map method_sites (methods_of member)) those.members) (members_of item)

-- each statement of a script
abbrev pub sites : {S : Type 0} → List (Item S) → List (Site S)
sites items = flat_map item_sites items

-- ---- signatures

-- a signature, and whether it is one of a method
pub record Signed (S : Type 0) : Type 0 where
  pub in_class : Bool
  pub signature : Signature S

abbrev pub signature_scope : Bool → Scope
signature_scope in_class = record { in_class = in_class; in_function = false; is_void = false }

abbrev pub item_signatures : {S : Type 0} → Item S → List (Signed S)
item_signatures (of_function g) = record { in_class = false; signature = g.signature } ∷ []
item_signatures item =
    flat_map (λ those. flat_map (λ member. map (λ m. record { in_class = true; signature = m.signature }) (methods_of member)) those.members) (members_of item)

-- each signature of a script
abbrev pub signatures : {S : Type 0} → List (Item S) → List (Signed S)
signatures items = flat_map item_signatures items

abbrev pub defaults_of : {S : Type 0} → Signature S → List (Tree S)
defaults_of s = flat_map (λ p. where_some (λ e. e ∷ []) p.default) (elements s.params)

abbrev pub types_of : {S : Type 0} → Signature S → List (Type_of S)
types_of s = flat_map (λ p. where_some (λ t. t ∷ []) p.declared) (elements s.params) ++ where_some (λ t. t ∷ []) s.result

-- ---- expressions

-- an expression, and what the body or the declaration belongs to in which it stands
pub record Placed (S : Type 0) : Type 0 where
  pub scope : Scope
  pub expression : Used S

abbrev pub placed_in : {S : Type 0} → Scope → List (Used S) → List (Placed S)
placed_in scope es = map (λ x. record { scope = scope; expression = x }) (flat_map all_used es)

-- the values of properties and constants
abbrev pub member_values : {S : Type 0} → Member S → List (Tree S)
member_values (properties modifiers variables) = first_values variables
member_values (class_constants modifiers items) = map (λ c. c.value) (elements items)
member_values _ = []

abbrev pub all_member_values : {S : Type 0} → List (Item S) → List (Tree S)
all_member_values items = flat_map (λ those. flat_map member_values those.members) (all_members items)

-- each expression of a script: those of its statements, the defaults of its parameters, and the values of its members
abbrev pub expressions : {S : Type 0} → List (Item S) → List (Placed S)
expressions items =
    flat_map (λ site. placed_in site.scope (own site.statement)) (sites items)
    ++ flat_map (λ s. placed_in (signature_scope s.in_class) (as_values (defaults_of s.signature))) (signatures items)
    ++ placed_in class_scope (as_values (all_member_values items))

-- each expression of a script that must be constant
abbrev pub constant_expressions : {S : Type 0} → List (Item S) → List (Tree S)
constant_expressions items =
    flat_map (λ site. own_constants site.statement) (sites items)
    ++ flat_map (λ s. defaults_of s.signature) (signatures items)
    ++ all_member_values items

-- ---- names of members

-- the note and the text of a member's name
abbrev pub member_note : {S : Type 0} → tree.Member S → S
member_note (tree.named at text) = at
member_note (tree.reserved at word) = at
member_note (tree.held at text) = at

abbrev pub member_name : tree.Member Note → Name Note
member_name (tree.named at text) = record { note = at; text = text }
member_name (tree.reserved at word) = record { note = at; text = at.text }
member_name (tree.held at text) = record { note = at; text = text }
