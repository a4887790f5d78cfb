-- Which trees of declarations and scripts are proper.
use Rattle.std.specs.Prelude.{◌≡◌, Bool, true, false, Option, Some, None}
use Rattle.php_token.specs.declared.kind.Keyword.{Keyword}
use Rattle.php_token.specs.declared.kind.Keyword.TheVariants as word
use Rattle.php_ast.specs.declared.declaration.Visibility.{Visibility}
use Rattle.php_ast.specs.expression.Tree as tree
use Rattle.php_ast.specs.expression.Proper.{Proper, IsWord}
use Rattle.php_ast.specs.statement.Tree.{Statements}
use Rattle.php_ast.specs.statement.Proper.{is_empty, Each, IfAny, IsProper, AreProper}
use Rattle.php_ast.specs.declaration.Tree.{Param, Signature, Function, ClassConstant, Method, Rule, renames, prefers, Member, uses, uses_by, class_constants, method, properties, Item, of_statement, of_function, of_class, of_interface, of_trait, Script}

abbrev pub IsProperParam : {S : Type 0} → Param S → Type 0
IsProperParam p = IfAny p.default

abbrev pub IsProperSignature : {S : Type 0} → Signature S → Type 0
IsProperSignature s = Each IsProperParam s.params

abbrev pub IsProperFunction : {S : Type 0} → Function S → Type 0
IsProperFunction f = IsProperSignature f.signature × AreProper f.body

-- ---- members

-- A word of visibility directly behind `as` is the visibility and no name.
abbrev pub is_visibility : Keyword → Bool
is_visibility word.Public = true
is_visibility word.Protected = true
is_visibility word.Private = true
is_visibility _ = false

abbrev pub is_visibility_word : {S : Type 0} → tree.Member S → Bool
is_visibility_word (tree.reserved note k) = is_visibility k
is_visibility_word _ = false

abbrev pub IsAlias : {S : Type 0} → Option Visibility → Option (tree.Member S) → Type 0
IsAlias seen None = Unit {0}
IsAlias None (Some m) = IsWord m × (is_visibility_word m ≡ false)
IsAlias (Some v) (Some m) = IsWord m

abbrev pub IsProperRule : {S : Type 0} → Rule S → Type 0
IsProperRule (renames note origin name seen alias) = IsWord name × IsAlias seen alias
IsProperRule (prefers note origin name others) = IsWord name × (is_empty others ≡ false)

abbrev pub IsProperConstant : {S : Type 0} → ClassConstant S → Type 0
IsProperConstant c = IsWord c.name × Proper c.value

abbrev pub IsProperMethodBody : {S : Type 0} → Option (Statements S) → Type 0
IsProperMethodBody None = Unit {0}
IsProperMethodBody (Some body) = AreProper body

abbrev pub IsProperMethod : {S : Type 0} → Method S → Type 0
IsProperMethod m = IsWord m.name × IsProperSignature m.signature × IsProperMethodBody m.body

-- At least one modifier stands before properties.
abbrev pub IsProperMember : {S : Type 0} → Member S → Type 0
IsProperMember (uses note names) = is_empty names ≡ false
IsProperMember (uses_by note names rules) = (is_empty names ≡ false) × Each IsProperRule rules
IsProperMember (class_constants modifiers items) = (is_empty items ≡ false) × Each IsProperConstant items
IsProperMember (method m) = IsProperMethod m
IsProperMember (properties modifiers variables) =
    (is_empty modifiers ≡ false) × (is_empty variables ≡ false) × Each (λ x. IfAny x.value) variables

-- ---- scripts

abbrev pub IsProperItem : {S : Type 0} → Item S → Type 0
IsProperItem (of_statement s) = IsProper s
IsProperItem (of_function f) = IsProperFunction f
IsProperItem (of_class c) = Each IsProperMember c.members
IsProperItem (of_interface i) = Each IsProperMember i.members
IsProperItem (of_trait t) = Each IsProperMember t.members

abbrev pub IsProperScript : {S : Type 0} → Script S → Type 0
IsProperScript items = Each IsProperItem items
