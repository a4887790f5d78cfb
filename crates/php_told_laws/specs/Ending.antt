-- How the run of a script ends, whatever the numbers for further frames.
use Rattle.std.specs.Prelude.{◌≡◌, ℕ, List}
use Rattle.php_ast.specs.declaration.Tree.{Script}
use Rattle.php_ast.specs.expression.View.{Note}
use Rattle.php_machine.specs.Moves.{Ended}
use Rattle.php_machine.specs.Machine.{runs}
use Rattle.php_actions.specs.declared.ending.Ending.{Ending}
use Rattle.php_actions.specs.Data.{Data}
use Rattle.php_actions.specs.Plan.{rules}
use Rattle.php_meaning.specs.Facts.{facts_of}
use Rattle.php_meaning.specs.Meaning.{tree}

module _ (script : Script Note) (from : Data) where
  -- from this data, in one way and with one last data for all numbers
  pub record RunEnds : Type 0 where
    pub ending : Ending
    pub to : Data
    pub ends : (ns : List ℕ) → (n : ℕ) × (runs (rules (facts_of script)) (tree script) n ns from ≡ Ended ending to)
