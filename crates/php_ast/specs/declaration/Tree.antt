-- Trees of functions, classes, interfaces, traits and scripts.
use Rattle.std.specs.Prelude.{Bool, Option}
use Rattle.php_ast.specs.declared.declaration.ClassModifier.{ClassModifier}
use Rattle.php_ast.specs.declared.declaration.ModifierWord.{ModifierWord}
use Rattle.php_ast.specs.declared.declaration.Visibility.{Visibility}
use Rattle.php_ast.specs.expression.Tree as tree
use Rattle.php_ast.specs.expression.Tree.{Tree}
use Rattle.php_ast.specs.statement.Tree.{Sequence, Name, Variable, Statement, Statements}

pub data Base (S : Type 0) : Type 0 where
  of_name : Name S → Base S
  of_array : Base S
  of_callable : Base S

pub record Type_of (S : Type 0) : Type 0 where
  pub is_nullable : Bool
  pub base : Base S

pub record Param (S : Type 0) : Type 0 where
  pub declared : Option (Type_of S)
  pub is_reference : Bool
  pub is_variadic : Bool
  pub name : Name S
  pub default : Option (Tree S)

pub record Signature (S : Type 0) : Type 0 where
  pub params : Sequence (Param S)
  pub result : Option (Type_of S)

pub record Function (S : Type 0) : Type 0 where
  pub note : S
  pub is_reference : Bool
  pub name : Name S
  pub signature : Signature S
  pub body : Statements S

-- a word before a class or a member
pub record Modifier (S : Type 0) : Type 0 where
  pub note : S
  pub word : ModifierWord

pub record ClassWord (S : Type 0) : Type 0 where
  pub note : S
  pub word : ClassModifier

-- a constant of a class, whose name may be spelled as a keyword
pub record ClassConstant (S : Type 0) : Type 0 where
  pub name : tree.Member S
  pub value : Tree S

pub record Method (S : Type 0) : Type 0 where
  pub modifiers : Sequence (Modifier S)
  pub note : S
  pub is_reference : Bool
  pub name : tree.Member S
  pub signature : Signature S
  -- none is `;`
  pub body : Option (Statements S)

-- a rule on the methods of used traits
pub data Rule (S : Type 0) : Type 0 where
  renames : S → Option (Name S) → tree.Member S → Option Visibility → Option (tree.Member S) → Rule S
  prefers : S → Name S → tree.Member S → Sequence (Name S) → Rule S

pub data Member (S : Type 0) : Type 0 where
  -- `use` with `;`, and with rules in braces
  uses : S → Sequence (Name S) → Member S
  uses_by : S → Sequence (Name S) → Sequence (Rule S) → Member S
  class_constants : Sequence (Modifier S) → Sequence (ClassConstant S) → Member S
  method : Method S → Member S
  properties : Sequence (Modifier S) → Sequence (Variable S) → Member S

pub record Class (S : Type 0) : Type 0 where
  pub modifiers : Sequence (ClassWord S)
  pub note : S
  pub name : Name S
  pub parent : Option (Name S)
  pub interfaces : Sequence (Name S)
  pub members : Sequence (Member S)

pub record Interface (S : Type 0) : Type 0 where
  pub note : S
  pub name : Name S
  pub parents : Sequence (Name S)
  pub members : Sequence (Member S)

pub record Trait (S : Type 0) : Type 0 where
  pub note : S
  pub name : Name S
  pub members : Sequence (Member S)

-- what stands at the outermost level
pub data Item (S : Type 0) : Type 0 where
  of_statement : Statement S → Item S
  of_function : Function S → Item S
  of_class : Class S → Item S
  of_interface : Interface S → Item S
  of_trait : Trait S → Item S

abbrev pub Script : Type 0 → Type 0
Script S = Sequence (Item S)
