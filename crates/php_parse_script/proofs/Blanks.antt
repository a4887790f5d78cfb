-- The form of a script has no notes: noting nothing of its tokens leaves it as it is.
use Rattle.std.proofs.Common.{◌≡◌, ℕ, ◌+◌, Bool, Option, Some, None, refl, ◌∙◌, ap}
use Rattle.php_ast.specs.expression.Tree as tree
use Rattle.php_ast.specs.expression.Placed.{no_notes, noted_member}
use Rattle.php_ast.specs.statement.Tree.{Sequence, empty, then_also, Name, Statements}
use Rattle.php_ast.specs.statement.Placed.{size_separated, size_separator, noted_separated, size_name, noted_name, size_variable, noted_variable, size_if}
use Rattle.php_ast.specs.declaration.Tree.{Base, of_name, of_array, of_callable, Type_of, Param, Signature, Function, Modifier, ClassWord, ClassConstant, Method, Rule, renames, prefers, Member, uses, uses_by, class_constants, method, properties, Class, Interface, Trait, Item, of_statement, of_function, of_class, of_interface, of_trait, Script}
use Rattle.php_ast.specs.declaration.Placed.{noted_base, noted_declared, size_marks, size_param, noted_param, size_joined, noted_joined, noted_function, noted_signature, size_modifier, noted_modifier, size_class_constant, noted_class_constant, noted_method, noted_method_body, noted_alias, noted_one_name, size_rule, noted_rule, size_member, noted_class_member, size_class_word, size_class_words, size_origin, size_one, size_parent, noted_class_word, noted_declared_class, noted_interface, noted_trait, size_item, noted_item, noted_script}
use Rattle.php_grammar.specs.expression.Machine.{Nothing, Form}
use Rattle.php_parse_expression.proofs.Blanks.{blank as blank_form}
use Rattle.php_parse_statement.proofs.Blanks.{blank_name, blank_optional, blank_variable, blank_statement, blank_statements}

-- ---- lists

separated_blank : {A : Type 0} (each : A → ℕ) (note : ℕ → A → A) → ((k : ℕ) (x : A) → note k x ≡ x) → (k : ℕ) (xs : Sequence A) → noted_separated each note k xs ≡ xs
separated_blank each note same k empty = refl
separated_blank each note same k (then_also xs x) = cc (separated_blank each note same k xs, same (k + size_separated each xs + size_separator xs) x)

joined_blank : {A : Type 0} (each : A → ℕ) (note : ℕ → A → A) → ((k : ℕ) (x : A) → note k x ≡ x) → (k : ℕ) (xs : Sequence A) → noted_joined each note k xs ≡ xs
joined_blank each note same k empty = refl
joined_blank each note same k (then_also xs x) = cc (joined_blank each note same k xs, same (k + size_joined each xs) x)

two : {A B C : Type 0} (f : A → B → C) {a b : A} {c d : B} → a ≡ b → c ≡ d → f a c ≡ f b d
two f {a} {b} {c} {d} p q = ap (λ x. f x c) p ∙ ap (f b) q

three : {A B C D : Type 0} (f : A → B → C → D) {a b : A} {c d : B} {u v : C} → a ≡ b → c ≡ d → u ≡ v → f a c u ≡ f b d v
three f {a} {b} {c} {d} {u} {v} p q r = ap (λ x. f x c u) p ∙ two (f b) q r

four : {A B C D E : Type 0} (f : A → B → C → D → E) {a b : A} {c d : B} {u v : C} {x y : D} → a ≡ b → c ≡ d → u ≡ v → x ≡ y → f a c u x ≡ f b d v y
four f {a} {b} {c} {d} {u} {v} {x} {y} p q r s = ap (λ z. f z c u x) p ∙ three (f b) q r s

-- ---- parts

blank_names : (k : ℕ) (names : Sequence (Name Nothing)) → noted_separated size_name (noted_name no_notes) k names ≡ names
blank_names k names = separated_blank size_name (noted_name no_notes) blank_name k names

blank_member : (k : ℕ) (m : tree.Member Nothing) → noted_member no_notes k m ≡ m
blank_member k (tree.named note text) = refl
blank_member k (tree.reserved note word) = refl
blank_member k (tree.held note text) = refl

-- ---- signatures

blank_base : (k : ℕ) (base : Base Nothing) → noted_base no_notes k base ≡ base
blank_base k (of_name n) = refl
blank_base k of_array = refl
blank_base k of_callable = refl

abbrev type_with : Bool → Base Nothing → Type_of Nothing
type_with is_nullable base = record { is_nullable = is_nullable; base = base }

blank_declared : (k : ℕ) (t : Option (Type_of Nothing)) → noted_declared no_notes k t ≡ t
blank_declared k None = refl
blank_declared k (Some t) = ap (λ base. Some (type_with t.is_nullable base)) (blank_base (k + size_if t.is_nullable) t.base)

abbrev param_with : Param Nothing → Option (Type_of Nothing) → Option Form → Param Nothing
param_with p declared default =
    record { declared = declared; is_reference = p.is_reference; is_variadic = p.is_variadic; name = p.name; default = default }

blank_param : (k : ℕ) (p : Param Nothing) → noted_param no_notes k p ≡ p
blank_param k p = two (param_with p) (blank_declared k p.declared) (blank_optional (k + size_marks p + 2) p.default)

abbrev signature_with : Sequence (Param Nothing) → Option (Type_of Nothing) → Signature Nothing
signature_with params result = record { params = params; result = result }

blank_signature : (k : ℕ) (s : Signature Nothing) → noted_signature no_notes k s ≡ s
blank_signature k s = two signature_with (separated_blank size_param (noted_param no_notes) blank_param (k + 1) s.params) (blank_declared (k + size_separated size_param s.params + 3) s.result)

-- ---- declarations

abbrev function_with : Function Nothing → Signature Nothing → Statements Nothing → Function Nothing
function_with f signature body = record { note = tt; is_reference = f.is_reference; name = f.name; signature = signature; body = body }

blank_function : (k : ℕ) (f : Function Nothing) → noted_function no_notes k f ≡ f
blank_function k f = two (function_with f) (blank_signature _ f.signature) (blank_statements _ f.body)

blank_modifier : (k : ℕ) (m : Modifier Nothing) → noted_modifier no_notes k m ≡ m
blank_modifier k m = refl

blank_modifiers : (k : ℕ) (modifiers : Sequence (Modifier Nothing)) → noted_joined size_modifier (noted_modifier no_notes) k modifiers ≡ modifiers
blank_modifiers k modifiers = joined_blank size_modifier (noted_modifier no_notes) blank_modifier k modifiers

abbrev class_constant_with : tree.Member Nothing → Form → ClassConstant Nothing
class_constant_with n value = record { name = n; value = value }

blank_class_constant : (k : ℕ) (c : ClassConstant Nothing) → noted_class_constant no_notes k c ≡ c
blank_class_constant k c = two class_constant_with (blank_member k c.name) (blank_form _ c.value)

blank_method_body : (k : ℕ) (body : Option (Statements Nothing)) → noted_method_body no_notes k body ≡ body
blank_method_body k None = refl
blank_method_body k (Some ss) = ap Some (blank_statements _ ss)

abbrev method_with : Bool → Sequence (Modifier Nothing) → tree.Member Nothing → Signature Nothing → Option (Statements Nothing) → Method Nothing
method_with is_reference modifiers n signature body =
    record { modifiers = modifiers; note = tt; is_reference = is_reference; name = n; signature = signature; body = body }

blank_method : (first k : ℕ) (m : Method Nothing) → noted_method no_notes first k m ≡ m
blank_method first k m = four (method_with m.is_reference) (blank_modifiers first m.modifiers) (blank_member (k + 1 + size_if m.is_reference) m.name) (blank_signature _ m.signature) (blank_method_body _ m.body)

blank_alias : (k : ℕ) (alias : Option (tree.Member Nothing)) → noted_alias no_notes k alias ≡ alias
blank_alias k None = refl
blank_alias k (Some m) = ap Some (blank_member k m)

blank_one_name : (k : ℕ) (n : Option (Name Nothing)) → noted_one_name no_notes k n ≡ n
blank_one_name k None = refl
blank_one_name k (Some n) = refl

blank_rule : (k : ℕ) (rule : Rule Nothing) → noted_rule no_notes k rule ≡ rule
blank_rule k (renames note origin n seen alias) = three (λ x y z. renames tt x y seen z) (blank_one_name k origin) (blank_member (k + size_origin origin) n) (blank_alias (k + size_origin origin + 2 + size_one seen) alias)
blank_rule k (prefers note origin n others) = two (prefers tt origin) (blank_member (k + 2) n) (blank_names (k + 4) others)

blank_class_member : (k : ℕ) (m : Member Nothing) → noted_class_member no_notes k m ≡ m
blank_class_member k (uses note names) = ap (uses tt) (blank_names (k + 1) names)
blank_class_member k (uses_by note names rules) = two (uses_by tt) (blank_names (k + 1) names) (joined_blank size_rule (noted_rule no_notes) blank_rule (k + 1 + size_separated size_name names + 1) rules)
blank_class_member k (class_constants modifiers items) =
    two class_constants (blank_modifiers k modifiers) (separated_blank size_class_constant (noted_class_constant no_notes) blank_class_constant _ items)
blank_class_member k (method m) = ap method (blank_method k (k + size_joined size_modifier m.modifiers) m)
blank_class_member k (properties modifiers variables) =
    two properties (blank_modifiers k modifiers) (separated_blank size_variable (noted_variable no_notes) blank_variable _ variables)

blank_members : (k : ℕ) (members : Sequence (Member Nothing)) → noted_joined size_member (noted_class_member no_notes) k members ≡ members
blank_members k members = joined_blank size_member (noted_class_member no_notes) blank_class_member k members

blank_class_word : (k : ℕ) (w : ClassWord Nothing) → noted_class_word no_notes k w ≡ w
blank_class_word k w = refl

abbrev class_with : Name Nothing → Sequence (ClassWord Nothing) → Option (Name Nothing) → Sequence (Name Nothing) → Sequence (Member Nothing) → Class Nothing
class_with n words parent interfaces members = record { modifiers = words; note = tt; name = n; parent = parent; interfaces = interfaces; members = members }

blank_class : (first k : ℕ) (c : Class Nothing) → noted_declared_class no_notes first k c ≡ c
blank_class first k c =
    four (class_with c.name) (joined_blank size_class_word (noted_class_word no_notes) blank_class_word first c.modifiers) (blank_one_name (k + 3) c.parent) (blank_names (k + 2 + size_parent c.parent + 1) c.interfaces) (blank_members _ c.members)

abbrev interface_with : Name Nothing → Sequence (Name Nothing) → Sequence (Member Nothing) → Interface Nothing
interface_with n parents members = record { note = tt; name = n; parents = parents; members = members }

blank_interface : (k : ℕ) (i : Interface Nothing) → noted_interface no_notes k i ≡ i
blank_interface k i = two (interface_with i.name) (blank_names (k + 2 + 1) i.parents) (blank_members _ i.members)

abbrev trait_with : Name Nothing → Sequence (Member Nothing) → Trait Nothing
trait_with n members = record { note = tt; name = n; members = members }

blank_trait : (k : ℕ) (t : Trait Nothing) → noted_trait no_notes k t ≡ t
blank_trait k t = ap (trait_with t.name) (blank_members _ t.members)

-- ---- scripts

blank_item : (k : ℕ) (i : Item Nothing) → noted_item no_notes k i ≡ i
blank_item k (of_statement s) = ap of_statement (blank_statement k s)
blank_item k (of_function f) = ap of_function (blank_function k f)
blank_item k (of_class c) = ap of_class (blank_class k (k + size_class_words c) c)
blank_item k (of_interface i) = ap of_interface (blank_interface k i)
blank_item k (of_trait t) = ap of_trait (blank_trait k t)

pub blank_script : (items : Script Nothing) → noted_script no_notes items ≡ items
blank_script items = joined_blank size_item (noted_item no_notes) blank_item 0 items
