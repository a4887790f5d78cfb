-- What the machine of scripts says of the symbols that it reads, exactly.
use Rattle.std.specs.Prelude.{◌≡◌, ◌≢◌, List, [], ◌∷◌, ◌++◌}
use Rattle.php_ast.specs.Symbol.{Symbol}
use Rattle.php_ast.specs.declaration.Tree.{Script}
use Rattle.php_ast.specs.declaration.Spelling.{spell_script}
use Rattle.php_ast.specs.declaration.Proper.{IsProperScript}
use Rattle.php_grammar.specs.expression.Machine.{Nothing}
use Rattle.php_grammar.specs.Begins.{BeginsScript}
use Rattle.php_grammar.specs.Run.{ReadingOf}
use Rattle.php_grammar.specs.declaration.Laws.{SpellsScript}
use Rattle.php_grammar.specs.declaration.ScriptMachine.{read_script}

-- The script is proper, and its spelling is what was read and what it lacks; what was read and what is left are all
-- the symbols.
pub record BeginsAsScript (w : List Symbol) (r : ReadingOf (Script Nothing)) : Type 0 where
  pub proper : IsProperScript r.tree
  pub done : List Symbol
  pub whole : w ≡ done ++ r.unread
  pub spelled : spell_script r.tree ≡ done ++ r.missing

abbrev pub ScriptReadingBegins : Type 0
ScriptReadingBegins = (w : List Symbol) → BeginsAsScript w (read_script w)

-- Where something is missing, the symbols spell no script.
abbrev pub UnfinishedScript : Type 0
UnfinishedScript = (w : List Symbol) (items : Script Nothing) → SpellsScript items w → (read_script w).missing ≢ [] → ⊥

-- The symbols read begin a script, and no longer do so with one more.
abbrev pub ScriptStopsExactly : Type 0
ScriptStopsExactly =
    (w done : List Symbol) (t : Symbol) (v : List Symbol) → w ≡ done ++ t ∷ v → (read_script w).unread ≡ t ∷ v → BeginsScript (done ++ t ∷ []) → ⊥
