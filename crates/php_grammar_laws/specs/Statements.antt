-- What the machine of statements says of the symbols that it reads, exactly.
use Rattle.std.specs.Prelude.{◌≡◌, ◌≢◌, List, [], ◌∷◌, ◌++◌}
use Rattle.php_ast.specs.Symbol.{Symbol}
use Rattle.php_ast.specs.statement.Tree.{Statement}
use Rattle.php_ast.specs.statement.Spelling.{spell_statement}
use Rattle.php_ast.specs.statement.Proper.{IsProper}
use Rattle.php_grammar.specs.expression.Machine.{Nothing}
use Rattle.php_grammar.specs.Begins.{BeginsStatement}
use Rattle.php_grammar.specs.statement.Laws.{SpellsStatement, StatementEnds}
use Rattle.php_grammar.specs.statement.Reading.{StatementReading, read_statement}

-- The statement is proper, and its spelling is what was read and what it lacks; what was read and what is left are all
-- the symbols.
pub record BeginsAsStatement (w : List Symbol) (r : StatementReading) : Type 0 where
  pub proper : IsProper r.tree
  pub done : List Symbol
  pub whole : w ≡ done ++ r.unread
  pub spelled : spell_statement r.tree [] ≡ done ++ r.missing

abbrev pub StatementReadingBegins : Type 0
StatementReadingBegins = (w : List Symbol) → BeginsAsStatement w (read_statement w)

-- Where a reading halts in front of these symbols and something is missing, no statement is spelled by what was read that
-- ends there.
abbrev pub UnfinishedStatement : Type 0
UnfinishedStatement = (w v : List Symbol) (a : Statement Nothing) → SpellsStatement a w → StatementEnds a v → (read_statement (w ++ v)).missing ≢ [] → ⊥

-- The symbols read begin a statement, and no longer do so with one more.
abbrev pub StatementStopsExactly : Type 0
StatementStopsExactly =
    (w done : List Symbol) (t : Symbol) (v : List Symbol) → w ≡ done ++ t ∷ v → (read_statement w).unread ≡ t ∷ v → BeginsStatement (done ++ t ∷ []) → ⊥
