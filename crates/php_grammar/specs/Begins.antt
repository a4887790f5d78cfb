-- What symbols begin: those of a spelled tree of which they are the first.
use Rattle.std.specs.Prelude.{List, ◌++◌}
use Rattle.php_ast.specs.Symbol.{Symbol}
use Rattle.php_grammar.specs.expression.Machine.{Nothing}
use Rattle.php_ast.specs.statement.Tree.{Statement}
use Rattle.php_ast.specs.declaration.Tree.{Signature, Script}
use Rattle.php_grammar.specs.statement.Laws.{SpellsStatement}
use Rattle.php_grammar.specs.declaration.Laws.{SpellsSignature, SpellsScript}

-- the symbols begin a statement
pub record BeginsStatement (w : List Symbol) : Type 0 where
  pub tree : Statement Nothing
  pub rest : List Symbol
  pub spelled : SpellsStatement tree (w ++ rest)

-- the symbols begin a signature
pub record BeginsSignature (w : List Symbol) : Type 0 where
  pub tree : Signature Nothing
  pub rest : List Symbol
  pub spelled : SpellsSignature tree (w ++ rest)

-- the symbols begin a script
pub record BeginsScript (w : List Symbol) : Type 0 where
  pub tree : Script Nothing
  pub rest : List Symbol
  pub spelled : SpellsScript tree (w ++ rest)
