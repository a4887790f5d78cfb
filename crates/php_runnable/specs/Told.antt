-- Scripts whose forms are all told, and in which each value that is written out is within its limits: an int of 64
-- bits, a text that isn't too long.
use Rattle.std.specs.Prelude.{◌≡◌, true, IsSome}
use Rattle.php_ast.specs.declared.operator.Prefix.{Prefix}
use Rattle.php_ast.specs.declared.operator.Prefix.TheVariants as prefix_form
use Rattle.php_ast.specs.expression.Tree.{Leaf, variable, int, string, name, magic, Enclosure, parentheses}
use Rattle.php_ast.specs.expression.Tree.{Tree, leaf, template, enclosed, prefix, binary, assign}
use Rattle.php_ast.specs.expression.Tree.{Items, none, and, skip, Pieces, no_piece, bytes, value}
use Rattle.php_ast.specs.statement.Tree.{empty, then_also, Statement, block, blank, inline, expression, echo, Statements, no_statement, and_statement}
use Rattle.php_ast.specs.declaration.Tree.{Item, of_statement, Script}
use Rattle.php_ast.specs.expression.View.{Note}
use Rattle.php_memdef.specs.Sound.{IsInt, IsShort}
use Rattle.php_memdef.specs.Conditions.{IsScalarWithin}
use Rattle.php_meaning.specs.Forms.{magic_value, binary_action, prefix_action, is_plain, variable_name}

-- of those that name no variable, what they stand for is within its limits
abbrev pub IsToldLeaf : Note → Leaf → Type 0
IsToldLeaf at (variable n) = Unit {0}
IsToldLeaf at (int n) = IsInt n
IsToldLeaf at (string t) = IsShort t
IsToldLeaf at (name n) = Unit {0}
IsToldLeaf at (magic m) = IsScalarWithin (magic_value at m)

-- `@` does nothing
abbrev pub IsToldPrefix : Prefix → Type 0
IsToldPrefix prefix_form.Silence = Unit {0}
IsToldPrefix op = IsSome (prefix_action op)

abbrev pub IsToldEnclosure : Enclosure → Type 0
IsToldEnclosure parentheses = Unit {0}
IsToldEnclosure _ = ⊥

abbrev mutual
  pub IsTold : Tree Note → Type 0
  IsTold (leaf at l) = IsToldLeaf at l
  IsTold (template at ps) = ArePiecesTold ps
  IsTold (enclosed at by e) = IsToldEnclosure by × IsTold e
  IsTold (prefix at op e) = IsToldPrefix op × IsTold e
  IsTold (binary op l r) = IsSome (binary_action op) × (IsTold l × IsTold r)
  -- of a value to a variable
  IsTold (assign s p e) = (is_plain s ≡ true) × (IsSome (variable_name p) × IsTold e)
  IsTold _ = ⊥

  pub ArePiecesTold : Pieces Note → Type 0
  ArePiecesTold no_piece = Unit {0}
  ArePiecesTold (bytes ps t) = ArePiecesTold ps × IsShort t
  ArePiecesTold (value ps e) = ArePiecesTold ps × IsTold e

abbrev pub AreItemsTold : Items Note → Type 0
AreItemsTold none = Unit {0}
AreItemsTold (and is lead e) = AreItemsTold is × IsTold e
AreItemsTold (skip is) = AreItemsTold is

abbrev mutual
  pub IsStatementTold : Statement Note → Type 0
  IsStatementTold (block at ss) = AreStatementsTold ss
  IsStatementTold (blank at) = Unit {0}
  IsStatementTold (inline at t) = Unit {0}
  IsStatementTold (expression at e) = IsTold e
  IsStatementTold (echo at is) = AreItemsTold is
  IsStatementTold _ = ⊥

  pub AreStatementsTold : Statements Note → Type 0
  AreStatementsTold no_statement = Unit {0}
  AreStatementsTold (and_statement ss s) = AreStatementsTold ss × IsStatementTold s

abbrev pub IsItemTold : Item Note → Type 0
IsItemTold (of_statement s) = IsStatementTold s
IsItemTold _ = ⊥

abbrev pub IsScriptTold : Script Note → Type 0
IsScriptTold empty = Unit {0}
IsScriptTold (then_also is i) = IsScriptTold is × IsItemTold i
