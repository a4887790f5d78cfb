-- The spelling of declarations and of a script, in front of what follows.
use Rattle.std.specs.Prelude.{Option, Some, None, List, [], ◌∷◌}
use Rattle.php_token.specs.declared.kind.Keyword.{Keyword}
use Rattle.php_token.specs.declared.kind.Keyword.TheVariants as word
use Rattle.php_token.specs.declared.kind.Punct.TheVariants as mark
use Rattle.php_ast.specs.declared.declaration.ClassModifier.{ClassModifier}
use Rattle.php_ast.specs.declared.declaration.ClassModifier.TheVariants as class_word
use Rattle.php_ast.specs.declared.declaration.ModifierWord.{ModifierWord}
use Rattle.php_ast.specs.declared.declaration.ModifierWord.TheVariants as modifier
use Rattle.php_ast.specs.declared.declaration.Visibility.{Visibility}
use Rattle.php_ast.specs.declared.declaration.Visibility.TheVariants as visibility
use Rattle.php_ast.specs.Symbol.{Symbol, keyword, punct}
use Rattle.php_ast.specs.expression.Tree as tree
use Rattle.php_ast.specs.expression.Spelling.{spell, member_symbol}
use Rattle.php_ast.specs.statement.Tree.{Sequence, empty, then_also, Name, Statements}
use Rattle.php_ast.specs.statement.Spelling.{commas, spell_name, spell_dollar, spell_value, spell_variable, symbol_if, spell_statement, spell_statements}
use Rattle.php_ast.specs.declaration.Tree.{Base, of_name, of_array, of_callable, Type_of, Param, Signature, Function, Modifier, ClassWord, ClassConstant, Rule, renames, prefers, Member, uses, uses_by, class_constants, method, properties, Item, of_statement, of_function, of_class, of_interface, of_trait, Script}

-- one after the other
abbrev pub joined : {A : Type 0} → (A → List Symbol → List Symbol) → Sequence A → List Symbol → List Symbol
joined each empty w = w
joined each (then_also xs x) w = joined each xs (each x w)

-- ---- signatures

abbrev pub spell_base : {S : Type 0} → Base S → List Symbol → List Symbol
spell_base (of_name n) w = spell_name n w
spell_base of_array w = keyword word.Array ∷ w
spell_base of_callable w = keyword word.Callable ∷ w

abbrev pub spell_type : {S : Type 0} → Type_of S → List Symbol → List Symbol
spell_type t w = symbol_if t.is_nullable (punct mark.Question) (spell_base t.base w)

abbrev pub spell_declared : {S : Type 0} → Option (Type_of S) → List Symbol → List Symbol
spell_declared None w = w
spell_declared (Some t) w = spell_type t w

abbrev pub spell_param : {S : Type 0} → Param S → List Symbol → List Symbol
spell_param p w =
    spell_declared p.declared (symbol_if p.is_reference (punct mark.Ampersand) (symbol_if p.is_variadic (punct mark.Ellipsis)
    (spell_dollar p.name (spell_value p.default w))))

abbrev pub spell_result : {S : Type 0} → Option (Type_of S) → List Symbol → List Symbol
spell_result None w = w
spell_result (Some t) w = punct mark.Colon ∷ spell_type t w

abbrev pub spell_signature : {S : Type 0} → Signature S → List Symbol → List Symbol
spell_signature s w = punct mark.LeftParen ∷ commas spell_param s.params (punct mark.RightParen ∷ spell_result s.result w)

abbrev pub spell_block : {S : Type 0} → Statements S → List Symbol → List Symbol
spell_block body w = punct mark.LeftBrace ∷ spell_statements body (punct mark.RightBrace ∷ w)

abbrev pub spell_function : {S : Type 0} → Function S → List Symbol → List Symbol
spell_function f w =
    keyword word.Function ∷ symbol_if f.is_reference (punct mark.Ampersand) (spell_name f.name (spell_signature f.signature (spell_block f.body w)))

-- ---- members

abbrev pub modifier_word : ModifierWord → Keyword
modifier_word modifier.Public = word.Public
modifier_word modifier.Protected = word.Protected
modifier_word modifier.Private = word.Private
modifier_word modifier.Static = word.Static
modifier_word modifier.Abstract = word.Abstract
modifier_word modifier.Final = word.Final
modifier_word modifier.Var = word.Var

abbrev pub spell_modifier : {S : Type 0} → Modifier S → List Symbol → List Symbol
spell_modifier m w = keyword (modifier_word m.word) ∷ w

abbrev pub visibility_word : Visibility → Keyword
visibility_word visibility.Public = word.Public
visibility_word visibility.Protected = word.Protected
visibility_word visibility.Private = word.Private

abbrev pub spell_visibility : Option Visibility → List Symbol → List Symbol
spell_visibility None w = w
spell_visibility (Some v) w = keyword (visibility_word v) ∷ w

abbrev pub spell_member_name : {S : Type 0} → tree.Member S → List Symbol → List Symbol
spell_member_name m w = member_symbol m ∷ w

abbrev pub spell_alias : {S : Type 0} → Option (tree.Member S) → List Symbol → List Symbol
spell_alias None w = w
spell_alias (Some m) w = member_symbol m ∷ w

abbrev pub spell_origin : {S : Type 0} → Option (Name S) → List Symbol → List Symbol
spell_origin None w = w
spell_origin (Some n) w = spell_name n (punct mark.DoubleColon ∷ w)

abbrev pub spell_rule : {S : Type 0} → Rule S → List Symbol → List Symbol
spell_rule (renames note origin name seen alias) w =
    spell_origin origin (spell_member_name name (keyword word.As ∷ spell_visibility seen (spell_alias alias (punct mark.Semicolon ∷ w))))
spell_rule (prefers note origin name others) w =
    spell_name origin (punct mark.DoubleColon ∷ spell_member_name name (keyword word.InsteadOf ∷ commas spell_name others (punct mark.Semicolon ∷ w)))

abbrev pub spell_class_constant : {S : Type 0} → ClassConstant S → List Symbol → List Symbol
spell_class_constant c w = spell_member_name c.name (punct mark.Assign ∷ spell c.value w)

abbrev pub spell_method_body : {S : Type 0} → Option (Statements S) → List Symbol → List Symbol
spell_method_body None w = punct mark.Semicolon ∷ w
spell_method_body (Some body) w = spell_block body w

abbrev pub spell_member : {S : Type 0} → Member S → List Symbol → List Symbol
spell_member (uses note names) w = keyword word.Use ∷ commas spell_name names (punct mark.Semicolon ∷ w)
spell_member (uses_by note names rules) w =
    keyword word.Use ∷ commas spell_name names (punct mark.LeftBrace ∷ joined spell_rule rules (punct mark.RightBrace ∷ w))
spell_member (class_constants modifiers items) w =
    joined spell_modifier modifiers (keyword word.Const ∷ commas spell_class_constant items (punct mark.Semicolon ∷ w))
spell_member (method m) w =
    joined spell_modifier m.modifiers (keyword word.Function ∷ symbol_if m.is_reference (punct mark.Ampersand)
    (spell_member_name m.name (spell_signature m.signature (spell_method_body m.body w))))
spell_member (properties modifiers variables) w = joined spell_modifier modifiers (commas spell_variable variables (punct mark.Semicolon ∷ w))

-- ---- classes, interfaces, traits

abbrev pub class_modifier_word : ClassModifier → Keyword
class_modifier_word class_word.Abstract = word.Abstract
class_modifier_word class_word.Final = word.Final

abbrev pub spell_class_word : {S : Type 0} → ClassWord S → List Symbol → List Symbol
spell_class_word m w = keyword (class_modifier_word m.word) ∷ w

abbrev pub spell_parent : {S : Type 0} → Option (Name S) → List Symbol → List Symbol
spell_parent None w = w
spell_parent (Some n) w = keyword word.Extends ∷ spell_name n w

-- names behind a word, which is absent where there are none
abbrev pub spell_names : {S : Type 0} → Keyword → Sequence (Name S) → List Symbol → List Symbol
spell_names before empty w = w
spell_names before (then_also names n) w = keyword before ∷ commas spell_name (then_also names n) w

abbrev pub spell_members : {S : Type 0} → Sequence (Member S) → List Symbol → List Symbol
spell_members members w = punct mark.LeftBrace ∷ joined spell_member members (punct mark.RightBrace ∷ w)

abbrev pub spell_item : {S : Type 0} → Item S → List Symbol → List Symbol
spell_item (of_statement s) w = spell_statement s w
spell_item (of_function f) w = spell_function f w
spell_item (of_class c) w =
    joined spell_class_word c.modifiers (keyword word.Class ∷ spell_name c.name (spell_parent c.parent
    (spell_names word.Implements c.interfaces (spell_members c.members w))))
spell_item (of_interface i) w = keyword word.Interface ∷ spell_name i.name (spell_names word.Extends i.parents (spell_members i.members w))
spell_item (of_trait t) w = keyword word.Trait ∷ spell_name t.name (spell_members t.members w)

abbrev pub spell_script : {S : Type 0} → Script S → List Symbol
spell_script items = joined spell_item items []
