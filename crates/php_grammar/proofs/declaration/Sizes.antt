-- The sizes by which the notes of declarations are placed are the lengths of spellings.
use Rattle.std.proofs.Common.{◌≡◌, ℕ, ◌+◌, Option, Some, None, List, [], ◌∷◌, length, arith}
use Rattle.php_token.specs.declared.kind.Keyword.{Keyword}
use Rattle.php_token.specs.declared.kind.Keyword.TheVariants as word
use Rattle.php_token.specs.declared.kind.Punct.TheVariants as mark
use Rattle.php_ast.specs.declared.declaration.Visibility.{Visibility}
use Rattle.php_ast.specs.Symbol.{Symbol, keyword, punct}
use Rattle.php_ast.specs.expression.Tree as tree
use Rattle.php_ast.specs.statement.Tree.{Sequence, empty, then_also, Name, Statements}
use Rattle.php_ast.specs.statement.Spelling.{commas, spell_name, spell_dollar, spell_value, spell_variable, symbol_if}
use Rattle.php_ast.specs.statement.Placed.{size_name, size_variable}
use Rattle.php_ast.specs.declaration.Tree.{Base, of_name, of_array, of_callable, Type_of, Param, Signature, Function, Modifier, ClassWord, ClassConstant, Method, Rule, renames, prefers, Member, uses, uses_by, class_constants, method, properties, Item, of_statement, of_function, of_class, of_interface, of_trait, Script}
use Rattle.php_ast.specs.declaration.Spelling.{joined, spell_base, spell_type, spell_declared, spell_param, spell_result, spell_signature, spell_block, spell_function, spell_modifier, spell_visibility, spell_member_name, spell_alias, spell_origin, spell_rule, spell_class_constant, spell_method_body, spell_member, spell_class_word, spell_parent, spell_names, spell_members, spell_item, spell_script}
use Rattle.php_ast.specs.declaration.Placed.{size_joined, size_type, size_declared, size_param, size_result, size_signature, size_block, size_function, size_modifier, size_class_constant, size_method_body, size_method, size_one, size_origin, size_rule, size_member, size_class_word, size_parent, size_names, size_members, size_item, size_script}
use Rattle.php_grammar.proofs.expression.Sizes.{spell_length}
use Rattle.php_grammar.proofs.statement.Sizes.{separated_length, name_length, value_length, variable_length, length_if, statement_length, statements_length}

joined_length : {A : Type 0} (each : A → List Symbol → List Symbol) (size_each : A → ℕ) → ((x : A) (w : List Symbol) → length (each x w) ≡ size_each x + length w)
    → (xs : Sequence A) (w : List Symbol) → length (joined each xs w) ≡ size_joined size_each xs + length w
joined_length each size_each h empty w = omega arith
joined_length each size_each h (then_also xs x) w = omega (arith, joined_length each size_each h xs (each x w), h x w)

-- ---- signatures and functions

base_length : {S : Type 0} (base : Base S) (w : List Symbol) → length (spell_base base w) ≡ 1 + length w
base_length (of_name n) w = omega arith
base_length of_array w = omega arith
base_length of_callable w = omega arith

type_length : {S : Type 0} (t : Type_of S) (w : List Symbol) → length (spell_type t w) ≡ size_type t + length w
type_length t w = omega (arith, length_if t.is_nullable (punct mark.Question) (spell_base t.base w), base_length t.base w)

declared_length : {S : Type 0} (declared : Option (Type_of S)) (w : List Symbol) → length (spell_declared declared w) ≡ size_declared declared + length w
declared_length None w = omega arith
declared_length (Some t) w = omega (arith, type_length t w)

param_length : {S : Type 0} (p : Param S) (w : List Symbol) → length (spell_param p w) ≡ size_param p + length w
param_length p w =
    let named : List Symbol = spell_dollar p.name (spell_value p.default w) in
    let spread : List Symbol = symbol_if p.is_variadic (punct mark.Ellipsis) named in
    omega (
      arith,
      declared_length p.declared (symbol_if p.is_reference (punct mark.Ampersand) spread),
      length_if p.is_reference (punct mark.Ampersand) spread,
      length_if p.is_variadic (punct mark.Ellipsis) named,
      value_length p.default w,
    )

result_length : {S : Type 0} (result : Option (Type_of S)) (w : List Symbol) → length (spell_result result w) ≡ size_result result + length w
result_length None w = omega arith
result_length (Some t) w = omega (arith, type_length t w)

pub signature_length : {S : Type 0} (s : Signature S) (w : List Symbol) → length (spell_signature s w) ≡ size_signature s + length w
signature_length s w =
    omega (arith, separated_length (punct mark.Comma) spell_param size_param param_length s.params (punct mark.RightParen ∷ spell_result s.result w), result_length s.result w)

block_length : {S : Type 0} (body : Statements S) (w : List Symbol) → length (spell_block body w) ≡ size_block body + length w
block_length body w = omega (arith, statements_length body (punct mark.RightBrace ∷ w))

function_length : {S : Type 0} (g : Function S) (w : List Symbol) → length (spell_function g w) ≡ size_function g + length w
function_length g w =
    let rest : List Symbol = spell_signature g.signature (spell_block g.body w) in
    omega (arith, length_if g.is_reference (punct mark.Ampersand) (spell_name g.name rest), signature_length g.signature (spell_block g.body w), block_length g.body w)

-- ---- members

modifier_length : {S : Type 0} (m : Modifier S) (w : List Symbol) → length (spell_modifier m w) ≡ size_modifier m + length w
modifier_length m w = omega arith

class_constant_length : {S : Type 0} (c : ClassConstant S) (w : List Symbol) → length (spell_class_constant c w) ≡ size_class_constant c + length w
class_constant_length c w = omega (arith, spell_length c.value w)

method_body_length : {S : Type 0} (body : Option (Statements S)) (w : List Symbol) → length (spell_method_body body w) ≡ size_method_body body + length w
method_body_length None w = omega arith
method_body_length (Some body) w = omega (arith, block_length body w)

seen_length : (seen : Option Visibility) (w : List Symbol) → length (spell_visibility seen w) ≡ size_one seen + length w
seen_length None w = omega arith
seen_length (Some v) w = omega arith

alias_length : {S : Type 0} (alias : Option (tree.Member S)) (w : List Symbol) → length (spell_alias alias w) ≡ size_one alias + length w
alias_length None w = omega arith
alias_length (Some m) w = omega arith

origin_length : {S : Type 0} (origin : Option (Name S)) (w : List Symbol) → length (spell_origin origin w) ≡ size_origin origin + length w
origin_length None w = omega arith
origin_length (Some n) w = omega arith

rule_length : {S : Type 0} (rule : Rule S) (w : List Symbol) → length (spell_rule rule w) ≡ size_rule rule + length w
rule_length (renames note origin name seen alias) w =
    let end : List Symbol = spell_alias alias (punct mark.Semicolon ∷ w) in
    omega (
      arith,
      origin_length origin (spell_member_name name (keyword word.As ∷ spell_visibility seen end)),
      seen_length seen end,
      alias_length alias (punct mark.Semicolon ∷ w),
    )
rule_length (prefers note origin name others) w = omega (arith, separated_length (punct mark.Comma) spell_name size_name name_length others (punct mark.Semicolon ∷ w))

method_length : {S : Type 0} (m : Method S) (w : List Symbol) → length (spell_member (method m) w) ≡ size_method m + length w
method_length m w =
    let rest : List Symbol = spell_signature m.signature (spell_method_body m.body w) in
    omega (
      arith,
      joined_length spell_modifier size_modifier modifier_length m.modifiers (keyword word.Function ∷ symbol_if m.is_reference (punct mark.Ampersand) (spell_member_name m.name rest)),
      length_if m.is_reference (punct mark.Ampersand) (spell_member_name m.name rest),
      signature_length m.signature (spell_method_body m.body w),
      method_body_length m.body w,
    )

member_length : {S : Type 0} (m : Member S) (w : List Symbol) → length (spell_member m w) ≡ size_member m + length w
member_length (uses note names) w = omega (arith, separated_length (punct mark.Comma) spell_name size_name name_length names (punct mark.Semicolon ∷ w))
member_length (uses_by note names rules) w =
    omega (
      arith,
      separated_length (punct mark.Comma) spell_name size_name name_length names (punct mark.LeftBrace ∷ joined spell_rule rules (punct mark.RightBrace ∷ w)),
      joined_length spell_rule size_rule rule_length rules (punct mark.RightBrace ∷ w),
    )
member_length (class_constants modifiers items) w =
    omega (
      arith,
      joined_length spell_modifier size_modifier modifier_length modifiers (keyword word.Const ∷ commas spell_class_constant items (punct mark.Semicolon ∷ w)),
      separated_length (punct mark.Comma) spell_class_constant size_class_constant class_constant_length items (punct mark.Semicolon ∷ w),
    )
member_length (method m) w = method_length m w
member_length (properties modifiers variables) w =
    omega (
      arith,
      joined_length spell_modifier size_modifier modifier_length modifiers (commas spell_variable variables (punct mark.Semicolon ∷ w)),
      separated_length (punct mark.Comma) spell_variable size_variable variable_length variables (punct mark.Semicolon ∷ w),
    )

-- ---- classes, interfaces, traits, scripts

class_word_length : {S : Type 0} (m : ClassWord S) (w : List Symbol) → length (spell_class_word m w) ≡ size_class_word m + length w
class_word_length m w = omega arith

parent_length : {S : Type 0} (parent : Option (Name S)) (w : List Symbol) → length (spell_parent parent w) ≡ size_parent parent + length w
parent_length None w = omega arith
parent_length (Some n) w = omega arith

names_length : {S : Type 0} (before : Keyword) (names : Sequence (Name S)) (w : List Symbol) → length (spell_names before names w) ≡ size_names names + length w
names_length before empty w = omega arith
names_length before (then_also names n) w = omega (arith, separated_length (punct mark.Comma) spell_name size_name name_length (then_also names n) w)

members_length : {S : Type 0} (members : Sequence (Member S)) (w : List Symbol) → length (spell_members members w) ≡ size_members members + length w
members_length members w = omega (arith, joined_length spell_member size_member member_length members (punct mark.RightBrace ∷ w))

item_length : {S : Type 0} (x : Item S) (w : List Symbol) → length (spell_item x w) ≡ size_item x + length w
item_length (of_statement a) w = statement_length a w
item_length (of_function g) w = function_length g w
item_length (of_class c) w =
    let members : List Symbol = spell_members c.members w in
    let more : List Symbol = spell_names word.Implements c.interfaces members in
    omega (
      arith,
      joined_length spell_class_word size_class_word class_word_length c.modifiers (keyword word.Class ∷ spell_name c.name (spell_parent c.parent more)),
      parent_length c.parent more,
      names_length word.Implements c.interfaces members,
      members_length c.members w,
    )
item_length (of_interface i) w = omega (arith, names_length word.Extends i.parents (spell_members i.members w), members_length i.members w)
item_length (of_trait t) w = omega (arith, members_length t.members w)

pub script_length : {S : Type 0} (items : Script S) → length (spell_script items) ≡ size_script items
script_length items = omega (arith, joined_length spell_item size_item item_length items [])
