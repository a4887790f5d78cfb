-- What `Vm::run` asks for is there once a run has begun, and what it answers.
use Rattle.std.proofs.Common.{◌≡◌, ℕ, List, [], Option, Some, None, refl, sym, ap, subst, arith, append-nil}
use Rattle.php_base.specs.Written.{GrewBy}
use Rattle.php_memdef.specs.declared.names.Block.{Block}
use Rattle.php_memdef.specs.Contents.{Mem}
use Rattle.php_frames.specs.declared.frame.Frame.{Frame}
use Rattle.php_actions.specs.Data.{Data}
use Rattle.php_actions.specs.Effect.{nth_fact}
use Rattle.php_actions.specs.Start.{room_if}
use Rattle.php_code.specs.declared.program.Program.{Program}
use Rattle.php_vm.specs.declared.stop.Stop.{Stop}
use Rattle.php_vm.specs.declared.stop.Stop.TheVariants.{NoMemory}
use Rattle.php_vm.specs.Running.{NeverStuck, control_of}
use Rattle.php_vm.specs.Finishing.{BeginsWith, Finishes}
use Rattle.php_vm.proofs.RunLemmas.{comes_nowhere}
use Rattle.php_runnable.specs.Arguments.{AreArguments}
use Rattle.php_runnable.proofs.Starts.{first_beside}
use Rattle.php_runnable_code.specs.Runnable.{first_frame, first_data, IsRunnable}
use Rattle.php_runnable_code.proofs.CodeLemmas.{can-begin}
use Rattle.php_vm_callers.specs.Beginnings.{first_memory, HasBegun}
use Rattle.php_vm_callers.specs.Outcomes.{HasRun}
use Rattle.php_vm_callers.proofs.StartLemmas.{first_is}

-- nothing was written
grew_by_none : (w : Option (List ℕ)) → GrewBy w w []
grew_by_none None = refl
grew_by_none (Some x) = ap Some (sym (append-nil x))

module _ (program : Program) (allowance : ℕ) (words : List (List ℕ)) where
  abbrev RoomOf : ℕ
  RoomOf = room_if (nth_fact program.facts.functions 0)

  abbrev First : Block → Data
  First b = first_data program allowance words b

  -- before anything ran
  pub nothing-ran : (New : Mem → Type 0) (w : Option (List ℕ)) → HasRun program allowance words New w w 0 NoMemory
  nothing-ran New w =
      let b : Block = record { 0 = 0 } in
      let taken = (first_beside program.facts allowance words 0).taken in
      record {
        block = b;
        finishes = record {
          to = First b;
          control = control_of (first_frame b);
          comes = comes_nowhere program (First b) (control_of (first_frame b));
          short = record { sent = []; told = grew_by_none w; begins = ((First b).out, refl); taken = taken };
          begins = λ n ns ending e h. (e.out, refl);
          no_more_ticks = λ n ns ending e h. omega arith;
        };
      }

  module _ (runnable : IsRunnable program) (are : AreArguments words) (Means : Mem → Type 0) (room : ℕ) (wide : room ≡ RoomOf) (f : Frame) (begun : HasBegun Means room words f) where
    means_first : Means (First f.block).mem
    means_first = subst Means (first_is f.block.0 program.facts allowance words) (subst (λ r. Means (first_memory r words f.block.0)) wide begun.mem)

    pub begins-with : BeginsWith Means f allowance (First f.block)
    begins-with =
        subst (λ (g : Frame). BeginsWith Means g allowance (First f.block)) (sym begun.frame)
        (can-begin program allowance words f.block are runnable.room Means means_first)

    pub runs-on : NeverStuck program (First f.block) (control_of f)
    runs-on =
        subst (λ (g : Frame). NeverStuck program (First f.block) (control_of g)) (sym begun.frame)
        (runnable.never_stuck allowance words f.block are)

    pub has-run : (New : Mem → Type 0) (written before : Option (List ℕ)) (ticks : ℕ) (stop : Stop)
        → Finishes program (First f.block) (control_of f) New written before ticks stop → HasRun program allowance words New written before ticks stop
    has-run New written before ticks stop h = record {
      block = f.block;
      finishes = subst (λ (g : Frame). Finishes program (First f.block) (control_of g) New written before ticks stop) begun.frame h;
    }
