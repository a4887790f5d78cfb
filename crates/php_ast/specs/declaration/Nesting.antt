-- How deep each token of a declaration and of a script is nested, by the tree alone. What nests is: the parentheses
-- of a signature, the braces of a body, of members and of rules, and what nests in the expressions and statements inside.
use Rattle.std.specs.Prelude.{ℕ, ◌+◌, Option, Some, None, List, [], ◌∷◌}
use Rattle.php_ast.specs.expression.Tree as tree
use Rattle.php_ast.specs.expression.Nesting.{nests}
use Rattle.php_ast.specs.statement.Tree.{Sequence, empty, then_also, Name, Statements}
use Rattle.php_ast.specs.statement.Nesting.{separated_nests, name_nests, value_nests, variable_nests, nests_if, nests_statement, nests_statements}
use Rattle.php_ast.specs.declaration.Tree.{Base, Type_of, Param, Signature, Function, Modifier, ClassWord, ClassConstant, Method, Rule, renames, prefers, Member, uses, uses_by, class_constants, method, properties, Class, Interface, Trait, Item, of_statement, of_function, of_class, of_interface, of_trait, Script}

-- one after the other
abbrev pub joined_nests : {A : Type 0} → (A → ℕ → List ℕ → List ℕ) → Sequence A → ℕ → List ℕ → List ℕ
joined_nests each empty d w = w
joined_nests each (then_also xs x) d w = joined_nests each xs d (each x d w)

-- ---- signatures

abbrev pub base_nests : {S : Type 0} → Base S → ℕ → List ℕ → List ℕ
base_nests base d w = d ∷ w

abbrev pub type_nests : {S : Type 0} → Type_of S → ℕ → List ℕ → List ℕ
type_nests t d w = nests_if t.is_nullable d (base_nests t.base d w)

abbrev pub declared_nests : {S : Type 0} → Option (Type_of S) → ℕ → List ℕ → List ℕ
declared_nests None d w = w
declared_nests (Some t) d w = type_nests t d w

abbrev pub param_nests : {S : Type 0} → Param S → ℕ → List ℕ → List ℕ
param_nests p d w =
    declared_nests p.declared d (nests_if p.is_reference d (nests_if p.is_variadic d (name_nests p.name d (value_nests p.default d w))))

abbrev pub result_nests : {S : Type 0} → Option (Type_of S) → ℕ → List ℕ → List ℕ
result_nests None d w = w
result_nests (Some t) d w = d ∷ type_nests t d w

abbrev pub signature_nests : {S : Type 0} → Signature S → ℕ → List ℕ → List ℕ
signature_nests s d w = d ∷ separated_nests param_nests s.params (1 + d) ((1 + d) ∷ result_nests s.result d w)

abbrev pub block_nests : {S : Type 0} → Statements S → ℕ → List ℕ → List ℕ
block_nests body d w = d ∷ nests_statements body (1 + d) ((1 + d) ∷ w)

abbrev pub function_nests : {S : Type 0} → Function S → ℕ → List ℕ → List ℕ
function_nests f d w =
    d ∷ nests_if f.is_reference d (name_nests f.name d (signature_nests f.signature d (block_nests f.body d w)))

-- ---- members

abbrev pub modifier_nests : {S : Type 0} → Modifier S → ℕ → List ℕ → List ℕ
modifier_nests m d w = d ∷ w

abbrev pub member_name_nests : {S : Type 0} → tree.Member S → ℕ → List ℕ → List ℕ
member_name_nests m d w = d ∷ w

-- a part of one token, where it stands
abbrev pub one_nests : {A : Type 0} → Option A → ℕ → List ℕ → List ℕ
one_nests None d w = w
one_nests (Some x) d w = d ∷ w

-- a class and its `::`
abbrev pub origin_nests : {S : Type 0} → Option (Name S) → ℕ → List ℕ → List ℕ
origin_nests None d w = w
origin_nests (Some n) d w = d ∷ d ∷ w

abbrev pub rule_nests : {S : Type 0} → Rule S → ℕ → List ℕ → List ℕ
rule_nests (renames note origin name seen alias) d w =
    origin_nests origin d (member_name_nests name d (d ∷ one_nests seen d (one_nests alias d (d ∷ w))))
rule_nests (prefers note origin name others) d w =
    name_nests origin d (d ∷ member_name_nests name d (d ∷ separated_nests name_nests others d (d ∷ w)))

abbrev pub class_constant_nests : {S : Type 0} → ClassConstant S → ℕ → List ℕ → List ℕ
class_constant_nests c d w = member_name_nests c.name d (d ∷ nests c.value d w)

abbrev pub method_body_nests : {S : Type 0} → Option (Statements S) → ℕ → List ℕ → List ℕ
method_body_nests None d w = d ∷ w
method_body_nests (Some body) d w = block_nests body d w

abbrev pub method_nests : {S : Type 0} → Method S → ℕ → List ℕ → List ℕ
method_nests m d w =
    joined_nests modifier_nests m.modifiers d (d ∷ nests_if m.is_reference d
    (member_name_nests m.name d (signature_nests m.signature d (method_body_nests m.body d w))))

abbrev pub member_nests : {S : Type 0} → Member S → ℕ → List ℕ → List ℕ
member_nests (uses note names) d w = d ∷ separated_nests name_nests names d (d ∷ w)
member_nests (uses_by note names rules) d w =
    d ∷ separated_nests name_nests names d (d ∷ joined_nests rule_nests rules (1 + d) ((1 + d) ∷ w))
member_nests (class_constants modifiers items) d w =
    joined_nests modifier_nests modifiers d (d ∷ separated_nests class_constant_nests items d (d ∷ w))
member_nests (method m) d w = method_nests m d w
member_nests (properties modifiers variables) d w =
    joined_nests modifier_nests modifiers d (separated_nests variable_nests variables d (d ∷ w))

-- ---- classes, interfaces, traits, scripts

abbrev pub class_word_nests : {S : Type 0} → ClassWord S → ℕ → List ℕ → List ℕ
class_word_nests m d w = d ∷ w

-- a parent and its `extends`
abbrev pub parent_nests : {S : Type 0} → Option (Name S) → ℕ → List ℕ → List ℕ
parent_nests None d w = w
parent_nests (Some n) d w = d ∷ d ∷ w

abbrev pub names_nests : {S : Type 0} → Sequence (Name S) → ℕ → List ℕ → List ℕ
names_nests empty d w = w
names_nests (then_also names n) d w = d ∷ separated_nests name_nests (then_also names n) d w

abbrev pub members_nests : {S : Type 0} → Sequence (Member S) → ℕ → List ℕ → List ℕ
members_nests members d w = d ∷ joined_nests member_nests members (1 + d) ((1 + d) ∷ w)

abbrev pub class_nests : {S : Type 0} → Class S → ℕ → List ℕ → List ℕ
class_nests c d w =
    joined_nests class_word_nests c.modifiers d (d ∷ name_nests c.name d (parent_nests c.parent d
    (names_nests c.interfaces d (members_nests c.members d w))))

abbrev pub interface_nests : {S : Type 0} → Interface S → ℕ → List ℕ → List ℕ
interface_nests i d w = d ∷ name_nests i.name d (names_nests i.parents d (members_nests i.members d w))

abbrev pub trait_nests : {S : Type 0} → Trait S → ℕ → List ℕ → List ℕ
trait_nests t d w = d ∷ name_nests t.name d (members_nests t.members d w)

abbrev pub item_nests : {S : Type 0} → Item S → ℕ → List ℕ → List ℕ
item_nests (of_statement s) d w = nests_statement s d w
item_nests (of_function f) d w = function_nests f d w
item_nests (of_class c) d w = class_nests c d w
item_nests (of_interface i) d w = interface_nests i d w
item_nests (of_trait t) d w = trait_nests t d w

abbrev pub script_nests : {S : Type 0} → Script S → List ℕ
script_nests items = joined_nests item_nests items 0 []
