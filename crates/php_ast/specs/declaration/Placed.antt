-- Which token each note of a declaration and of a script is about: as in Placed, right notes take the place of
-- those that a tree has, and a tree is placed where that changes nothing.
use Rattle.std.specs.Prelude.{◌≡◌, ℕ, ◌+◌, Option, Some, None, List}
use Rattle.php_token.specs.Token.{Token}
use Rattle.php_ast.specs.expression.Tree as tree
use Rattle.php_ast.specs.expression.View.{Note}
use Rattle.php_ast.specs.expression.Placed.{Notes, size, noted, noted_member, no_notes, notes_of}
use Rattle.php_ast.specs.statement.Tree.{Sequence, empty, then_also, Name, Statements}
use Rattle.php_ast.specs.statement.Placed.{size_separated, noted_separated, size_name, noted_name, size_if, size_value, noted_optional, size_variable, noted_variable, size_statement, size_statements, noted_statement, noted_statements}
use Rattle.php_ast.specs.declaration.Tree.{Base, of_name, of_array, of_callable, Type_of, Param, Signature, Function, Modifier, ClassWord, ClassConstant, Method, Rule, renames, prefers, Member, uses, uses_by, class_constants, method, properties, Class, Interface, Trait, Item, of_statement, of_function, of_class, of_interface, of_trait, Script}

-- ---- one after the other

abbrev pub size_joined : {A : Type 0} → (A → ℕ) → Sequence A → ℕ
size_joined each empty = 0
size_joined each (then_also xs x) = size_joined each xs + each x

abbrev pub noted_joined : {A B : Type 0} → (A → ℕ) → (ℕ → A → B) → ℕ → Sequence A → Sequence B
noted_joined each f at empty = empty
noted_joined each f at (then_also xs x) = then_also (noted_joined each f at xs) (f (at + size_joined each xs) x)

-- ---- signatures

abbrev pub noted_base : {S T : Type 0} → Notes T → ℕ → Base S → Base T
noted_base f at (of_name n) = of_name (noted_name f at n)
noted_base f at of_array = of_array
noted_base f at of_callable = of_callable

abbrev pub size_type : {S : Type 0} → Type_of S → ℕ
size_type t = size_if t.is_nullable + 1

abbrev pub noted_type : {S T : Type 0} → Notes T → ℕ → Type_of S → Type_of T
noted_type f at t = record { is_nullable = t.is_nullable; base = noted_base f (at + size_if t.is_nullable) t.base }

abbrev pub size_declared : {S : Type 0} → Option (Type_of S) → ℕ
size_declared None = 0
size_declared (Some t) = size_type t

abbrev pub noted_declared : {S T : Type 0} → Notes T → ℕ → Option (Type_of S) → Option (Type_of T)
noted_declared f at None = None
noted_declared f at (Some t) = Some (noted_type f at t)

-- the tokens before the name of a parameter
abbrev pub size_marks : {S : Type 0} → Param S → ℕ
size_marks p = size_declared p.declared + size_if p.is_reference + size_if p.is_variadic

abbrev pub size_param : {S : Type 0} → Param S → ℕ
size_param p = size_marks p + 1 + size_value p.default

abbrev pub noted_param : {S T : Type 0} → Notes T → ℕ → Param S → Param T
noted_param f at p = record {
  declared = noted_declared f at p.declared;
  is_reference = p.is_reference;
  is_variadic = p.is_variadic;
  name = noted_name f (at + size_marks p) p.name;
  default = noted_optional f (at + size_marks p + 2) p.default;
}

abbrev pub size_result : {S : Type 0} → Option (Type_of S) → ℕ
size_result None = 0
size_result (Some t) = 1 + size_type t

abbrev pub size_signature : {S : Type 0} → Signature S → ℕ
size_signature s = size_separated size_param s.params + 2 + size_result s.result

abbrev pub noted_signature : {S T : Type 0} → Notes T → ℕ → Signature S → Signature T
noted_signature f at s = record {
  params = noted_separated size_param (noted_param f) (at + 1) s.params;
  result = noted_declared f (at + size_separated size_param s.params + 3) s.result;
}

abbrev pub size_block : {S : Type 0} → Statements S → ℕ
size_block body = size_statements body + 2

-- ---- functions

-- `function`, `&` where it stands, and the name
abbrev pub size_function : {S : Type 0} → Function S → ℕ
size_function g = 1 + size_if g.is_reference + 1 + size_signature g.signature + size_block g.body

abbrev pub noted_function : {S T : Type 0} → Notes T → ℕ → Function S → Function T
noted_function f at g = record {
  note = f.token at;
  is_reference = g.is_reference;
  name = noted_name f (at + 1 + size_if g.is_reference) g.name;
  signature = noted_signature f (at + 1 + size_if g.is_reference + 1) g.signature;
  body = noted_statements f (at + 1 + size_if g.is_reference + 1 + size_signature g.signature + 1) g.body;
}

-- ---- members

abbrev pub size_modifier : {S : Type 0} → Modifier S → ℕ
size_modifier m = 1

abbrev pub noted_modifier : {S T : Type 0} → Notes T → ℕ → Modifier S → Modifier T
noted_modifier f at m = record { note = f.token at; word = m.word }

abbrev pub noted_modifiers : {S T : Type 0} → Notes T → ℕ → Sequence (Modifier S) → Sequence (Modifier T)
noted_modifiers f at modifiers = noted_joined size_modifier (noted_modifier f) at modifiers

abbrev pub size_class_constant : {S : Type 0} → ClassConstant S → ℕ
size_class_constant c = 2 + size c.value

abbrev pub noted_class_constant : {S T : Type 0} → Notes T → ℕ → ClassConstant S → ClassConstant T
noted_class_constant f at c = record { name = noted_member f at c.name; value = noted f (at + 2) c.value }

-- `;`, or a block
abbrev pub size_method_body : {S : Type 0} → Option (Statements S) → ℕ
size_method_body None = 1
size_method_body (Some body) = size_block body

abbrev pub noted_method_body : {S T : Type 0} → Notes T → ℕ → Option (Statements S) → Option (Statements T)
noted_method_body f at None = None
noted_method_body f at (Some body) = Some (noted_statements f (at + 1) body)

abbrev pub size_method : {S : Type 0} → Method S → ℕ
size_method m =
    size_joined size_modifier m.modifiers + 1 + size_if m.is_reference + 1 + size_signature m.signature + size_method_body m.body

-- behind the modifiers
abbrev pub noted_method : {S T : Type 0} → Notes T → ℕ → ℕ → Method S → Method T
noted_method f first at m = record {
  modifiers = noted_modifiers f first m.modifiers;
  note = f.token at;
  is_reference = m.is_reference;
  name = noted_member f (at + 1 + size_if m.is_reference) m.name;
  signature = noted_signature f (at + 1 + size_if m.is_reference + 1) m.signature;
  body = noted_method_body f (at + 1 + size_if m.is_reference + 1 + size_signature m.signature) m.body;
}

-- a part of one token, where it stands
abbrev pub size_one : {A : Type 0} → Option A → ℕ
size_one None = 0
size_one (Some x) = 1

abbrev pub noted_alias : {S T : Type 0} → Notes T → ℕ → Option (tree.Member S) → Option (tree.Member T)
noted_alias f at None = None
noted_alias f at (Some m) = Some (noted_member f at m)

-- a class and its `::`
abbrev pub size_origin : {S : Type 0} → Option (Name S) → ℕ
size_origin None = 0
size_origin (Some n) = 2

abbrev pub noted_one_name : {S T : Type 0} → Notes T → ℕ → Option (Name S) → Option (Name T)
noted_one_name f at None = None
noted_one_name f at (Some n) = Some (noted_name f at n)

abbrev pub size_rule : {S : Type 0} → Rule S → ℕ
size_rule (renames note origin name seen alias) = size_origin origin + 2 + size_one seen + size_one alias + 1
size_rule (prefers note origin name others) = 4 + size_separated size_name others + 1

abbrev pub noted_rule : {S T : Type 0} → Notes T → ℕ → Rule S → Rule T
noted_rule f at (renames note origin name seen alias) =
    renames (f.token at) (noted_one_name f at origin) (noted_member f (at + size_origin origin) name) seen
    (noted_alias f (at + size_origin origin + 2 + size_one seen) alias)
noted_rule f at (prefers note origin name others) =
    prefers (f.token at) (noted_name f at origin) (noted_member f (at + 2) name) (noted_separated size_name (noted_name f) (at + 4) others)

abbrev pub size_member : {S : Type 0} → Member S → ℕ
size_member (uses note names) = 1 + size_separated size_name names + 1
size_member (uses_by note names rules) = 1 + size_separated size_name names + 1 + size_joined size_rule rules + 1
size_member (class_constants modifiers items) = size_joined size_modifier modifiers + 1 + size_separated size_class_constant items + 1
size_member (method m) = size_method m
size_member (properties modifiers variables) = size_joined size_modifier modifiers + size_separated size_variable variables + 1

abbrev pub noted_class_member : {S T : Type 0} → Notes T → ℕ → Member S → Member T
noted_class_member f at (uses note names) = uses (f.token at) (noted_separated size_name (noted_name f) (at + 1) names)
noted_class_member f at (uses_by note names rules) =
    uses_by (f.token at) (noted_separated size_name (noted_name f) (at + 1) names)
    (noted_joined size_rule (noted_rule f) (at + 1 + size_separated size_name names + 1) rules)
noted_class_member f at (class_constants modifiers items) =
    class_constants (noted_modifiers f at modifiers)
    (noted_separated size_class_constant (noted_class_constant f) (at + size_joined size_modifier modifiers + 1) items)
noted_class_member f at (method m) = method (noted_method f at (at + size_joined size_modifier m.modifiers) m)
noted_class_member f at (properties modifiers variables) =
    properties (noted_modifiers f at modifiers)
    (noted_separated size_variable (noted_variable f) (at + size_joined size_modifier modifiers) variables)

-- ---- classes, interfaces, traits

abbrev pub size_class_word : {S : Type 0} → ClassWord S → ℕ
size_class_word m = 1

abbrev pub noted_class_word : {S T : Type 0} → Notes T → ℕ → ClassWord S → ClassWord T
noted_class_word f at m = record { note = f.token at; word = m.word }

-- a parent and its `extends`
abbrev pub size_parent : {S : Type 0} → Option (Name S) → ℕ
size_parent None = 0
size_parent (Some n) = 2

-- names behind a word, which is absent where there are none
abbrev pub size_names : {S : Type 0} → Sequence (Name S) → ℕ
size_names empty = 0
size_names (then_also names n) = 1 + size_separated size_name (then_also names n)

abbrev pub size_members : {S : Type 0} → Sequence (Member S) → ℕ
size_members members = 1 + size_joined size_member members + 1

abbrev pub noted_names : {S T : Type 0} → Notes T → ℕ → Sequence (Name S) → Sequence (Name T)
noted_names f at names = noted_separated size_name (noted_name f) (at + 1) names

-- behind the brace
abbrev pub noted_members : {S T : Type 0} → Notes T → ℕ → Sequence (Member S) → Sequence (Member T)
noted_members f at members = noted_joined size_member (noted_class_member f) (at + 1) members

abbrev pub size_class_words : {S : Type 0} → Class S → ℕ
size_class_words c = size_joined size_class_word c.modifiers

-- the place of `class` follows the place of the first token
abbrev pub noted_declared_class : {S T : Type 0} → Notes T → ℕ → ℕ → Class S → Class T
noted_declared_class f first at c = record {
  modifiers = noted_joined size_class_word (noted_class_word f) first c.modifiers;
  note = f.token at;
  name = noted_name f (at + 1) c.name;
  parent = noted_one_name f (at + 3) c.parent;
  interfaces = noted_names f (at + 2 + size_parent c.parent) c.interfaces;
  members = noted_members f (at + 2 + size_parent c.parent + size_names c.interfaces) c.members;
}

abbrev pub noted_interface : {S T : Type 0} → Notes T → ℕ → Interface S → Interface T
noted_interface f at i = record {
  note = f.token at;
  name = noted_name f (at + 1) i.name;
  parents = noted_names f (at + 2) i.parents;
  members = noted_members f (at + 2 + size_names i.parents) i.members;
}

abbrev pub noted_trait : {S T : Type 0} → Notes T → ℕ → Trait S → Trait T
noted_trait f at t = record { note = f.token at; name = noted_name f (at + 1) t.name; members = noted_members f (at + 2) t.members }

-- ---- scripts

abbrev pub size_item : {S : Type 0} → Item S → ℕ
size_item (of_statement s) = size_statement s
size_item (of_function g) = size_function g
size_item (of_class c) = size_class_words c + 2 + size_parent c.parent + size_names c.interfaces + size_members c.members
size_item (of_interface i) = 2 + size_names i.parents + size_members i.members
size_item (of_trait t) = 2 + size_members t.members

abbrev pub noted_item : {S T : Type 0} → Notes T → ℕ → Item S → Item T
noted_item f at (of_statement s) = of_statement (noted_statement f at s)
noted_item f at (of_function g) = of_function (noted_function f at g)
noted_item f at (of_class c) = of_class (noted_declared_class f at (at + size_class_words c) c)
noted_item f at (of_interface i) = of_interface (noted_interface f at i)
noted_item f at (of_trait t) = of_trait (noted_trait f at t)

abbrev pub size_script : {S : Type 0} → Script S → ℕ
size_script items = size_joined size_item items

abbrev pub noted_script : {S T : Type 0} → Notes T → Script S → Script T
noted_script f items = noted_joined size_item (noted_item f) 0 items

-- the form of a signature, and of a script, alone
abbrev pub signature_form : {S : Type 0} → Signature S → Signature (Unit {0})
signature_form s = noted_signature no_notes 0 s

abbrev pub script_form : {S : Type 0} → Script S → Script (Unit {0})
script_form items = noted_script no_notes items

-- Each note of the tree is that of its token. A signature begins at a place; a script begins with the first token.
abbrev pub IsPlacedSignature : List Token → ℕ → Signature Note → Type 0
IsPlacedSignature tokens at s = noted_signature (notes_of tokens) at s ≡ s

abbrev pub IsPlacedScript : List Token → Script Note → Type 0
IsPlacedScript tokens items = noted_script (notes_of tokens) items ≡ items
