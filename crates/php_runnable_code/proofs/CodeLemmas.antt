-- The code of a script is never stuck, since its tree isn't.
use Rattle.std.proofs.Common.{◌≡◌, ℕ, ◌+◌, ◌<◌, suc, List, [], ◌∷◌, length, refl, sym, subst, arith}
use Rattle.php_ast.specs.declaration.Tree.{Script}
use Rattle.php_ast.specs.expression.View.{Note}
use Rattle.php_memdef.specs.declared.names.Block.{Block}
use Rattle.php_memdef.specs.Contents.{Mem}
use Rattle.php_frames.specs.declared.frame.Frame.{Frame}
use Rattle.php_actions.specs.Data.{Data}
use Rattle.php_actions.specs.Effect.{nth_fact}
use Rattle.php_actions.specs.Start.{room_if}
use Rattle.php_code.specs.declared.program.Program.{Program}
use Rattle.php_code.specs.Code.{place}
use Rattle.php_meaning.specs.Facts.{SPARE, facts_of}
use Rattle.php_meaning.specs.Heights.{peak_of_script}
use Rattle.php_meaning.specs.Slots.{script_names}
use Rattle.php_compile.specs.Compiled.{compiled}
use Rattle.php_compile_laws.proofs.RunLemmas.{never_stuck_too}
use Rattle.php_vm_actions.specs.Acting.{frame_of}
use Rattle.php_vm.specs.Running.{NeverStuck, control_of}
use Rattle.php_vm.specs.Finishing.{BeginsWith}
use Rattle.php_runnable.specs.Told.{IsScriptTold}
use Rattle.php_runnable.specs.Arguments.{AreArguments}
use Rattle.php_runnable.specs.Begins.{CanBegin}
use Rattle.php_runnable.proofs.Blocks.{block_there}
use Rattle.php_runnable.proofs.Never.{never-stuck}
use Rattle.php_runnable.proofs.Starts.{first_beside, first_holds, first-begins}
use Rattle.php_runnable_code.specs.Runnable.{first_frame, first_data, IsRunnable}

module _ (script : Script Note) (d : Data) where
  abbrev NotStuckFrom : ℕ → ℕ → Type 0
  NotStuckFrom function at = NeverStuck (compiled script) d ((place function at ∷ []) ∷ [])

  pub code-never-stuck : (f : Frame) → IsScriptTold script → CanBegin (facts_of script) (frame_of f) d → f.at ≡ 0 → NeverStuck (compiled script) d (control_of f)
  code-never-stuck f told begins at =
      subst (λ a. NotStuckFrom f.function a) (sym at)
      (subst (λ g. NotStuckFrom g 0) (sym begins.function) (never_stuck_too script d (never-stuck script (frame_of f) d told begins)))

some-room : (script : Script Note) → 0 < peak_of_script (script_names script) 0 script + SPARE
some-room script = omega arith

pub code-runnable : (script : Script Note) → IsScriptTold script → IsRunnable (compiled script)
code-runnable script told = record {
  room = some-room script;
  never_stuck = λ allowance words b are.
      code-never-stuck script (first_data (compiled script) allowance words b) (first_frame b) told (first-begins script allowance words b.0 are) refl;
}

pub can-begin : (program : Program) (allowance : ℕ) (words : List (List ℕ)) (b : Block) → AreArguments words → 0 < room_if (nth_fact program.facts.functions 0) → (Means : Mem → Type 0)
    → Means (first_data program allowance words b).mem → BeginsWith Means (first_frame b) allowance (first_data program allowance words b)
can-begin program allowance words b are some Means m =
    let r = first_beside program.facts allowance words b.0 in
    record {
      mem = m;
      out = r.out;
      left = r.left;
      taken = r.taken;
      frames = r.frames;
      constants = r.constants;
      status = r.status;
      block = block_there b.0 (room_if (nth_fact program.facts.functions 0)) (first_data program allowance words b).mem 0 (suc (1 + length words)) (first_holds program.facts allowance words b.0 some are);
    }
