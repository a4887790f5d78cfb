-- What is said by the code is said by the tree.
use Rattle.std.proofs.Common.{◌≡◌, ℕ, List, Option, refl, sym, subst}
use Rattle.php_ast.specs.declaration.Tree.{Script}
use Rattle.php_ast.specs.expression.View.{Note}
use Rattle.php_memdef.specs.declared.names.Block.{Block}
use Rattle.php_memdef.specs.Contents.{Mem}
use Rattle.php_machine.specs.Moves.{Ended}
use Rattle.php_code.specs.declared.program.Program.{Program}
use Rattle.php_compile.specs.Compiled.{compiled}
use Rattle.php_compile.proofs.Agreement.{same_runs_of}
use Rattle.php_vm_actions.specs.Causes.{ending_of}
use Rattle.php_vm.specs.declared.stop.Stop.{Stop}
use Rattle.php_vm.specs.declared.stop.Stop.TheVariants.{Ends, SinkFault, NoMemory}
use Rattle.php_vm.specs.Running.{control_of}
use Rattle.php_vm.specs.Finishing.{Finishes, IsLeft}
use Rattle.php_runnable.specs.Told.{IsScriptTold}
use Rattle.php_runnable_code.specs.Runnable.{first_frame, first_data, IsRunnable}
use Rattle.php_runnable_code.proofs.CodeLemmas.{code-runnable}
use Rattle.php_vm_callers.specs.Outcomes.{HasRun, IsCutOff, RunsAs}
use Rattle.php_vm_callers.proofs.ProgramLemmas.{nothing-ran}

pub is-runnable : (script : Script Note) (program : Program) → program ≡ compiled script → IsScriptTold script → IsRunnable program
is-runnable script program is told = subst IsRunnable (sym is) (code-runnable script told)

module _ (script : Script Note) (allowance : ℕ) (words : List (List ℕ)) (New : Mem → Type 0) (written before : Option (List ℕ)) (ticks : ℕ) where
  abbrev FinishesIn : Block → Stop → Type 0
  FinishesIn b stop = Finishes (compiled script) (first_data (compiled script) allowance words b) (control_of (first_frame b)) New written before ticks stop

  cut-off : (b : Block) → IsLeft (compiled script) (first_data (compiled script) allowance words b) (control_of (first_frame b)) written before ticks → IsCutOff script allowance words written before ticks
  cut-off b h =
      let d = first_data (compiled script) allowance words b in
      record {
        block = b.0;
        sent = h.short.sent;
        told = h.short.told;
        begins = λ n ns ending e runs. (let s = (same_runs_of script).there ns d (Ended ending e) tt n runs in h.begins s.0 ns ending e s.1);
        no_more_ticks = λ n ns ending e runs. (let s = (same_runs_of script).there ns d (Ended ending e) tt n runs in h.no_more_ticks s.0 ns ending e s.1);
      }

  as-tree : (b : Block) (stop : Stop) → FinishesIn b stop → RunsAs script allowance words New written before ticks stop
  as-tree b (Ends cause) h = record {
    block = b.0;
    to = h.to;
    ends = λ ns. (same_runs_of script).back ns (first_data (compiled script) allowance words b) (Ended (ending_of cause) h.to) tt h.steps (h.ends ns);
    last = h.last;
  }
  as-tree b SinkFault h = cut-off b h
  as-tree b NoMemory h = cut-off b h

  compiled-runs : (stop : Stop) → HasRun (compiled script) allowance words New written before ticks stop → RunsAs script allowance words New written before ticks stop
  compiled-runs stop h = as-tree h.block stop h.finishes

  pub runs-as : (program : Program) (stop : Stop) → program ≡ compiled script → HasRun program allowance words New written before ticks stop → RunsAs script allowance words New written before ticks stop
  runs-as program stop is h = compiled-runs stop (subst (λ p. HasRun p allowance words New written before ticks stop) is h)

-- before anything was compiled
pub nothing-compiled : (script : Script Note) (allowance : ℕ) (words : List (List ℕ)) (New : Mem → Type 0) (w : Option (List ℕ)) → RunsAs script allowance words New w w 0 NoMemory
nothing-compiled script allowance words New w = runs-as script allowance words New w w 0 (compiled script) NoMemory refl (nothing-ran (compiled script) allowance words New w)
