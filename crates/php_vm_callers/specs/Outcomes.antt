-- What comes of running a program, and of running a script, said by its tree.
use Rattle.std.specs.Prelude.{◌≡◌, ◌≤◌, ℕ, List, Option}
use Rattle.php_base.specs.Written.{GrewBy}
use Rattle.php_ast.specs.declaration.Tree.{Script}
use Rattle.php_ast.specs.expression.View.{Note}
use Rattle.php_memdef.specs.declared.names.Block.{Block}
use Rattle.php_memdef.specs.Contents.{Mem}
use Rattle.php_machine.specs.Moves.{Outcome, Ended}
use Rattle.php_machine.specs.Machine.{runs}
use Rattle.php_machine.specs.Outputs.{Begins}
use Rattle.php_actions.specs.declared.ending.Ending.{Ending}
use Rattle.php_actions.specs.Data.{Data}
use Rattle.php_actions.specs.Plan.{rules}
use Rattle.php_actions.specs.Start.{first}
use Rattle.php_code.specs.declared.program.Program.{Program}
use Rattle.php_meaning.specs.Facts.{facts_of}
use Rattle.php_meaning.specs.Meaning.{tree}
use Rattle.php_vm_actions.specs.Causes.{ending_of}
use Rattle.php_vm.specs.declared.stop.Stop.{Stop}
use Rattle.php_vm.specs.declared.stop.Stop.TheVariants.{Ends, SinkFault, NoMemory}
use Rattle.php_vm.specs.Running.{IsLast, control_of}
use Rattle.php_vm.specs.Finishing.{Finishes}
use Rattle.php_runnable_code.specs.Runnable.{first_frame, first_data}

-- in some block the program's run with these arguments finishes so
pub record HasRun (program : Program) (allowance : ℕ) (words : List (List ℕ)) (New : Mem → Type 0) (written before : Option (List ℕ)) (ticks : ℕ) (stop : Stop) : Type 0 where
  pub block : Block
  pub finishes : Finishes program (first_data program allowance words block) (control_of (first_frame block)) New written before ticks stop

module _ (script : Script Note) (allowance : ℕ) (words : List (List ℕ)) where
  -- the run of the script's tree with these arguments, in this block: so many steps at most, under these numbers for frames
  abbrev pub tree_runs : ℕ → ℕ → List ℕ → Outcome Data Ending
  tree_runs b n ns = runs (rules (facts_of script)) (tree script) n ns (first (facts_of script) allowance words b)

  -- the tree's run ends so, whatever the numbers for frames
  pub record EndsAs (New : Mem → Type 0) (written before : Option (List ℕ)) (ticks : ℕ) (ending : Ending) : Type 0 where
    pub block : ℕ
    pub to : Data
    pub ends : (ns : List ℕ) → (n : ℕ) × (tree_runs block n ns ≡ Ended ending to)
    pub last : IsLast New written before ticks to

  -- what was written is how the output of the tree's whole run begins, and no more ticks were taken than it takes
  pub record IsCutOff (written before : Option (List ℕ)) (ticks : ℕ) : Type 0 where
    pub block : ℕ
    pub sent : List ℕ
    pub told : GrewBy before written sent
    pub begins : (n : ℕ) (ns : List ℕ) (ending : Ending) (e : Data) → tree_runs block n ns ≡ Ended ending e → Begins sent e.out
    pub no_more_ticks : (n : ℕ) (ns : List ℕ) (ending : Ending) (e : Data) → tree_runs block n ns ≡ Ended ending e → ticks ≤ e.taken

  abbrev pub RunsAs : (Mem → Type 0) → Option (List ℕ) → Option (List ℕ) → ℕ → Stop → Type 0
  RunsAs New written before ticks (Ends cause) = EndsAs New written before ticks (ending_of cause)
  RunsAs New written before ticks SinkFault = IsCutOff written before ticks
  RunsAs New written before ticks NoMemory = IsCutOff written before ticks
