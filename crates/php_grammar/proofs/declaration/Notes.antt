-- The notes of a declaration depend on its form and its place alone.
use Rattle.std.proofs.Common.{◌≡◌, ℕ, ◌+◌, Option, Some, None, refl, ap}
use Rattle.php_ast.specs.expression.Tree as tree
use Rattle.php_ast.specs.expression.Placed.{Notes}
use Rattle.php_ast.specs.statement.Tree.{Sequence, empty, then_also, Name, Statements}
use Rattle.php_ast.specs.statement.Placed.{size_separated, noted_separated, size_name, noted_name, size_if, size_variable, noted_variable}
use Rattle.php_ast.specs.declaration.Tree.{Base, of_name, of_array, of_callable, Type_of, Param, Signature, Function, Modifier, ClassWord, ClassConstant, Method, Rule, renames, prefers, Member, uses, uses_by, class_constants, method, properties, Class, Item, of_statement, of_function, of_class, of_interface, of_trait, Script}
use Rattle.php_ast.specs.declaration.Placed.{size_joined, noted_joined, noted_base, noted_type, size_declared, noted_declared, size_marks, size_param, noted_param, size_result, size_signature, noted_signature, size_function, noted_function, size_modifier, noted_modifier, noted_modifiers, size_class_constant, noted_class_constant, size_method_body, noted_method_body, size_method, noted_method, size_one, noted_alias, size_origin, noted_one_name, size_rule, noted_rule, size_member, noted_class_member, size_class_word, noted_class_word, size_parent, size_names, size_members, noted_names, noted_members, size_class_words, noted_declared_class, size_item, noted_item, noted_script}
use Rattle.php_grammar.proofs.expression.Notes.{size_noted, again, member_again}
use Rattle.php_grammar.proofs.statement.Notes.{separated_noted, separated_again, name_again, optional_again, value_noted, variable_noted, variable_again, statement_noted, statements_noted, statement_again, statements_again}

-- ---- one after the other

joined_noted : {A B : Type 0} (each : A → ℕ) (other : B → ℕ) (f : ℕ → A → B) → ((at : ℕ) (x : A) → other (f at x) ≡ each x) → (at : ℕ) (xs : Sequence A)
    → size_joined other (noted_joined each f at xs) ≡ size_joined each xs
joined_noted each other f h at empty = refl
joined_noted each other f h at (then_also xs x) = cc (joined_noted each other f h at xs, h (at + size_joined each xs) x)

joined_again : {A B C : Type 0} (each : A → ℕ) (other : B → ℕ) (f : ℕ → A → B) (g : ℕ → B → C) (k : ℕ → A → C) → ((at : ℕ) (x : A) → other (f at x) ≡ each x)
    → ((i at : ℕ) (x : A) → g at (f i x) ≡ k at x) → (i at : ℕ) (xs : Sequence A) → noted_joined other g at (noted_joined each f i xs) ≡ noted_joined each k at xs
joined_again each other f g k h same i at empty = refl
joined_again each other f g k h same i at (then_also xs x) =
    cc (joined_again each other f g k h same i at xs, joined_noted each other f h i xs, same (i + size_joined each xs) (at + size_joined each xs) x)

-- ---- signatures and functions

base_again : {S T U : Type 0} (f : Notes T) (g : Notes U) (i at : ℕ) (base : Base S) → noted_base g at (noted_base f i base) ≡ noted_base g at base
base_again f g i at (of_name n) = refl
base_again f g i at of_array = refl
base_again f g i at of_callable = refl

type_again : {S T U : Type 0} (f : Notes T) (g : Notes U) (i at : ℕ) (t : Type_of S) → noted_type g at (noted_type f i t) ≡ noted_type g at t
type_again f g i at t = cc (base_again f g (i + size_if t.is_nullable) (at + size_if t.is_nullable) t.base)

declared_noted : {S T : Type 0} (f : Notes T) (at : ℕ) (t : Option (Type_of S)) → size_declared (noted_declared f at t) ≡ size_declared t
declared_noted f at None = refl
declared_noted f at (Some t) = refl

declared_again : {S T U : Type 0} (f : Notes T) (g : Notes U) (i at : ℕ) (t : Option (Type_of S)) → noted_declared g at (noted_declared f i t) ≡ noted_declared g at t
declared_again f g i at None = refl
declared_again f g i at (Some t) = ap Some (type_again f g i at t)

result_noted : {S T : Type 0} (f : Notes T) (at : ℕ) (t : Option (Type_of S)) → size_result (noted_declared f at t) ≡ size_result t
result_noted f at None = refl
result_noted f at (Some t) = refl

param_noted : {S T : Type 0} (f : Notes T) (at : ℕ) (p : Param S) → size_param (noted_param f at p) ≡ size_param p
param_noted f at p = cc (declared_noted f at p.declared, value_noted f (at + size_marks p + 2) p.default)

param_again : {S T U : Type 0} (f : Notes T) (g : Notes U) (i at : ℕ) (p : Param S) → noted_param g at (noted_param f i p) ≡ noted_param g at p
param_again f g i at p =
    cc (
      declared_noted f i p.declared,
      declared_again f g i at p.declared,
      optional_again f g (i + size_marks p + 2) (at + size_marks p + 2) p.default,
    )

pub signature_noted : {S T : Type 0} (f : Notes T) (at : ℕ) (s : Signature S) → size_signature (noted_signature f at s) ≡ size_signature s
signature_noted f at s =
    cc (
      separated_noted size_param size_param (noted_param f) (param_noted f) (at + 1) s.params,
      result_noted f (at + size_separated size_param s.params + 3) s.result,
    )

pub signature_again : {S T U : Type 0} (f : Notes T) (g : Notes U) (i at : ℕ) (s : Signature S) → noted_signature g at (noted_signature f i s) ≡ noted_signature g at s
signature_again f g i at s =
    cc (
      separated_noted size_param size_param (noted_param f) (param_noted f) (i + 1) s.params,
      separated_again size_param size_param (noted_param f) (noted_param g) (noted_param g) (param_noted f) (param_again f g) (i + 1) (at + 1) s.params,
      declared_again f g (i + size_separated size_param s.params + 3) (at + size_separated size_param s.params + 3) s.result,
    )

function_noted : {S T : Type 0} (f : Notes T) (at : ℕ) (h : Function S) → size_function (noted_function f at h) ≡ size_function h
function_noted f at h =
    cc (
      signature_noted f (at + 1 + size_if h.is_reference + 1) h.signature,
      statements_noted f (at + 1 + size_if h.is_reference + 1 + size_signature h.signature + 1) h.body,
    )

function_again : {S T U : Type 0} (f : Notes T) (g : Notes U) (i at : ℕ) (h : Function S) → noted_function g at (noted_function f i h) ≡ noted_function g at h
function_again f g i at h =
    cc (
      signature_noted f (i + 1 + size_if h.is_reference + 1) h.signature,
      signature_again f g (i + 1 + size_if h.is_reference + 1) (at + 1 + size_if h.is_reference + 1) h.signature,
      statements_again f g (i + 1 + size_if h.is_reference + 1 + size_signature h.signature + 1) (at + 1 + size_if h.is_reference + 1 + size_signature h.signature + 1) h.body,
    )

-- ---- members

modifiers_noted : {S T : Type 0} (f : Notes T) (at : ℕ) (ms : Sequence (Modifier S)) → size_joined size_modifier (noted_modifiers f at ms) ≡ size_joined size_modifier ms
modifiers_noted f at ms = joined_noted size_modifier size_modifier (noted_modifier f) (λ at m. refl) at ms

modifiers_again : {S T U : Type 0} (f : Notes T) (g : Notes U) (i at : ℕ) (ms : Sequence (Modifier S)) → noted_modifiers g at (noted_modifiers f i ms) ≡ noted_modifiers g at ms
modifiers_again f g i at ms = joined_again size_modifier size_modifier (noted_modifier f) (noted_modifier g) (noted_modifier g) (λ at m. refl) (λ i at m. refl) i at ms

constant_noted : {S T : Type 0} (f : Notes T) (at : ℕ) (c : ClassConstant S) → size_class_constant (noted_class_constant f at c) ≡ size_class_constant c
constant_noted f at c = cc (size_noted f (at + 2) c.value)

constant_again : {S T U : Type 0} (f : Notes T) (g : Notes U) (i at : ℕ) (c : ClassConstant S) → noted_class_constant g at (noted_class_constant f i c) ≡ noted_class_constant g at c
constant_again f g i at c = cc (member_again f g i at c.name, again f g (i + 2) (at + 2) c.value)

body_noted : {S T : Type 0} (f : Notes T) (at : ℕ) (body : Option (Statements S)) → size_method_body (noted_method_body f at body) ≡ size_method_body body
body_noted f at None = refl
body_noted f at (Some body) = cc (statements_noted f (at + 1) body)

body_again : {S T U : Type 0} (f : Notes T) (g : Notes U) (i at : ℕ) (body : Option (Statements S)) → noted_method_body g at (noted_method_body f i body) ≡ noted_method_body g at body
body_again f g i at None = refl
body_again f g i at (Some body) = ap Some (statements_again f g (i + 1) (at + 1) body)

method_noted : {S T : Type 0} (f : Notes T) (first at : ℕ) (m : Method S) → size_method (noted_method f first at m) ≡ size_method m
method_noted f first at m =
    cc (
      modifiers_noted f first m.modifiers,
      signature_noted f (at + 1 + size_if m.is_reference + 1) m.signature,
      body_noted f (at + 1 + size_if m.is_reference + 1 + size_signature m.signature) m.body,
    )

method_again : {S T U : Type 0} (f : Notes T) (g : Notes U) (first i start at : ℕ) (m : Method S) → noted_method g start at (noted_method f first i m) ≡ noted_method g start at m
method_again f g first i start at m =
    cc (
      modifiers_again f g first start m.modifiers,
      member_again f g (i + 1 + size_if m.is_reference) (at + 1 + size_if m.is_reference) m.name,
      signature_noted f (i + 1 + size_if m.is_reference + 1) m.signature,
      signature_again f g (i + 1 + size_if m.is_reference + 1) (at + 1 + size_if m.is_reference + 1) m.signature,
      body_again f g (i + 1 + size_if m.is_reference + 1 + size_signature m.signature) (at + 1 + size_if m.is_reference + 1 + size_signature m.signature) m.body,
    )

alias_noted : {S T : Type 0} (f : Notes T) (at : ℕ) (alias : Option (tree.Member S)) → size_one (noted_alias f at alias) ≡ size_one alias
alias_noted f at None = refl
alias_noted f at (Some m) = refl

alias_again : {S T U : Type 0} (f : Notes T) (g : Notes U) (i at : ℕ) (alias : Option (tree.Member S)) → noted_alias g at (noted_alias f i alias) ≡ noted_alias g at alias
alias_again f g i at None = refl
alias_again f g i at (Some m) = ap Some (member_again f g i at m)

origin_noted : {S T : Type 0} (f : Notes T) (at : ℕ) (n : Option (Name S)) → size_origin (noted_one_name f at n) ≡ size_origin n
origin_noted f at None = refl
origin_noted f at (Some n) = refl

one_name_again : {S T U : Type 0} (f : Notes T) (g : Notes U) (i at : ℕ) (n : Option (Name S)) → noted_one_name g at (noted_one_name f i n) ≡ noted_one_name g at n
one_name_again f g i at None = refl
one_name_again f g i at (Some n) = refl

names_noted : {S T : Type 0} (f : Notes T) (at : ℕ) (ns : Sequence (Name S)) → size_separated size_name (noted_separated size_name (noted_name f) at ns) ≡ size_separated size_name ns
names_noted f at ns = separated_noted size_name size_name (noted_name f) (λ at n. refl) at ns

names_again : {S T U : Type 0} (f : Notes T) (g : Notes U) (i at : ℕ) (ns : Sequence (Name S))
    → noted_separated size_name (noted_name g) at (noted_separated size_name (noted_name f) i ns) ≡ noted_separated size_name (noted_name g) at ns
names_again f g i at ns = separated_again size_name size_name (noted_name f) (noted_name g) (noted_name g) (λ at n. refl) (name_again f g) i at ns

rule_noted : {S T : Type 0} (f : Notes T) (at : ℕ) (rule : Rule S) → size_rule (noted_rule f at rule) ≡ size_rule rule
rule_noted f at (renames note origin m seen alias) = cc (origin_noted f at origin, alias_noted f (at + size_origin origin + 2 + size_one seen) alias)
rule_noted f at (prefers note origin m others) = cc (names_noted f (at + 4) others)

rule_again : {S T U : Type 0} (f : Notes T) (g : Notes U) (i at : ℕ) (rule : Rule S) → noted_rule g at (noted_rule f i rule) ≡ noted_rule g at rule
rule_again f g i at (renames note origin m seen alias) =
    cc (
      origin_noted f i origin,
      one_name_again f g i at origin,
      member_again f g (i + size_origin origin) (at + size_origin origin) m,
      alias_again f g (i + size_origin origin + 2 + size_one seen) (at + size_origin origin + 2 + size_one seen) alias,
    )
rule_again f g i at (prefers note origin m others) = cc (member_again f g (i + 2) (at + 2) m, names_again f g (i + 4) (at + 4) others)

member_noted : {S T : Type 0} (f : Notes T) (at : ℕ) (m : Member S) → size_member (noted_class_member f at m) ≡ size_member m
member_noted f at (uses note names) = cc (names_noted f (at + 1) names)
member_noted f at (uses_by note names rules) =
    cc (names_noted f (at + 1) names, joined_noted size_rule size_rule (noted_rule f) (rule_noted f) (at + 1 + size_separated size_name names + 1) rules)
member_noted f at (class_constants ms items) =
    cc (
      modifiers_noted f at ms,
      separated_noted size_class_constant size_class_constant (noted_class_constant f) (constant_noted f) (at + size_joined size_modifier ms + 1) items,
    )
member_noted f at (method m) = method_noted f at (at + size_joined size_modifier m.modifiers) m
member_noted f at (properties ms variables) =
    cc (modifiers_noted f at ms, separated_noted size_variable size_variable (noted_variable f) (variable_noted f) (at + size_joined size_modifier ms) variables)

class_member_again : {S T U : Type 0} (f : Notes T) (g : Notes U) (i at : ℕ) (m : Member S) → noted_class_member g at (noted_class_member f i m) ≡ noted_class_member g at m
class_member_again f g i at (uses note names) = cc (names_again f g (i + 1) (at + 1) names)
class_member_again f g i at (uses_by note names rules) =
    cc (
      names_noted f (i + 1) names,
      names_again f g (i + 1) (at + 1) names,
      joined_again size_rule size_rule (noted_rule f) (noted_rule g) (noted_rule g) (rule_noted f) (rule_again f g) (i + 1 + size_separated size_name names + 1) (at + 1 + size_separated size_name names + 1) rules,
    )
class_member_again f g i at (class_constants ms items) =
    cc (
      modifiers_noted f i ms,
      modifiers_again f g i at ms,
      separated_again size_class_constant size_class_constant (noted_class_constant f) (noted_class_constant g) (noted_class_constant g) (constant_noted f) (constant_again f g)
          (i + size_joined size_modifier ms + 1) (at + size_joined size_modifier ms + 1) items,
    )
class_member_again f g i at (method m) =
    cc (
      modifiers_noted f i m.modifiers,
      method_again f g i (i + size_joined size_modifier m.modifiers) at (at + size_joined size_modifier m.modifiers) m,
    )
class_member_again f g i at (properties ms variables) =
    cc (
      modifiers_noted f i ms,
      modifiers_again f g i at ms,
      separated_again size_variable size_variable (noted_variable f) (noted_variable g) (noted_variable g) (variable_noted f) (variable_again f g) (i + size_joined size_modifier ms)
          (at + size_joined size_modifier ms) variables,
    )

-- ---- classes, interfaces, traits

parent_noted : {S T : Type 0} (f : Notes T) (at : ℕ) (n : Option (Name S)) → size_parent (noted_one_name f at n) ≡ size_parent n
parent_noted f at None = refl
parent_noted f at (Some n) = refl

listed_noted : {S T : Type 0} (f : Notes T) (at : ℕ) (ns : Sequence (Name S)) → size_names (noted_names f at ns) ≡ size_names ns
listed_noted f at empty = refl
listed_noted f at (then_also ns n) = cc (names_noted f (at + 1) (then_also ns n))

members_noted : {S T : Type 0} (f : Notes T) (at : ℕ) (ms : Sequence (Member S)) → size_members (noted_members f at ms) ≡ size_members ms
members_noted f at ms = cc (joined_noted size_member size_member (noted_class_member f) (member_noted f) (at + 1) ms)

members_again : {S T U : Type 0} (f : Notes T) (g : Notes U) (i at : ℕ) (ms : Sequence (Member S)) → noted_members g at (noted_members f i ms) ≡ noted_members g at ms
members_again f g i at ms = joined_again size_member size_member (noted_class_member f) (noted_class_member g) (noted_class_member g) (member_noted f) (class_member_again f g) (i + 1) (at + 1) ms

words_noted : {S T : Type 0} (f : Notes T) (at : ℕ) (ws : Sequence (ClassWord S)) → size_joined size_class_word (noted_joined size_class_word (noted_class_word f) at ws) ≡ size_joined size_class_word ws
words_noted f at ws = joined_noted size_class_word size_class_word (noted_class_word f) (λ at m. refl) at ws

words_again : {S T U : Type 0} (f : Notes T) (g : Notes U) (i at : ℕ) (ws : Sequence (ClassWord S))
    → noted_joined size_class_word (noted_class_word g) at (noted_joined size_class_word (noted_class_word f) i ws) ≡ noted_joined size_class_word (noted_class_word g) at ws
words_again f g i at ws = joined_again size_class_word size_class_word (noted_class_word f) (noted_class_word g) (noted_class_word g) (λ at m. refl) (λ i at m. refl) i at ws

-- ---- items

item_noted : {S T : Type 0} (f : Notes T) (at : ℕ) (x : Item S) → size_item (noted_item f at x) ≡ size_item x
item_noted f at (of_statement a) = statement_noted f at a
item_noted f at (of_function h) = function_noted f at h
item_noted f at (of_class c) =
    cc (
      words_noted f at c.modifiers,
      parent_noted f (at + size_class_words c + 3) c.parent,
      listed_noted f (at + size_class_words c + 2 + size_parent c.parent) c.interfaces,
      members_noted f (at + size_class_words c + 2 + size_parent c.parent + size_names c.interfaces) c.members,
    )
item_noted f at (of_interface h) = cc (listed_noted f (at + 2) h.parents, members_noted f (at + 2 + size_names h.parents) h.members)
item_noted f at (of_trait t) = cc (members_noted f (at + 2) t.members)

class_again : {S T U : Type 0} (f : Notes T) (g : Notes U) (first i start at : ℕ) (c : Class S) → noted_declared_class g start at (noted_declared_class f first i c) ≡ noted_declared_class g start at c
class_again f g first i start at c =
    cc (
      words_again f g first start c.modifiers,
      parent_noted f (i + 3) c.parent,
      one_name_again f g (i + 3) (at + 3) c.parent,
      listed_noted f (i + 2 + size_parent c.parent) c.interfaces,
      names_again f g (i + 2 + size_parent c.parent + 1) (at + 2 + size_parent c.parent + 1) c.interfaces,
      members_again f g (i + 2 + size_parent c.parent + size_names c.interfaces) (at + 2 + size_parent c.parent + size_names c.interfaces) c.members,
    )

item_again : {S T U : Type 0} (f : Notes T) (g : Notes U) (i at : ℕ) (x : Item S) → noted_item g at (noted_item f i x) ≡ noted_item g at x
item_again f g i at (of_statement a) = ap of_statement (statement_again f g i at a)
item_again f g i at (of_function h) = ap of_function (function_again f g i at h)
item_again f g i at (of_class c) =
    cc (words_noted f i c.modifiers, class_again f g i (i + size_class_words c) at (at + size_class_words c) c)
item_again f g i at (of_interface h) =
    cc (
      listed_noted f (i + 2) h.parents,
      names_again f g (i + 2 + 1) (at + 2 + 1) h.parents,
      members_again f g (i + 2 + size_names h.parents) (at + 2 + size_names h.parents) h.members,
    )
item_again f g i at (of_trait t) = cc (members_again f g (i + 2) (at + 2) t.members)

pub script_again : {S T U : Type 0} (f : Notes T) (g : Notes U) (items : Script S) → noted_script g (noted_script f items) ≡ noted_script g items
script_again f g items = joined_again size_item size_item (noted_item f) (noted_item g) (noted_item g) (item_noted f) (item_again f g) 0 0 items
