-- Programs that the machine may run, and what their runs begin with.
use Rattle.std.specs.Prelude.{ℕ, ◌<◌, List, None}
use Rattle.php_memdef.specs.declared.names.Block.{Block}
use Rattle.php_frames.specs.declared.frame.Frame.{Frame}
use Rattle.php_frames.specs.declared.frame.Way.TheVariants.{Going}
use Rattle.php_frames.specs.declared.completion.Completion.TheVariants.{Normal}
use Rattle.php_actions.specs.Data.{Data}
use Rattle.php_actions.specs.Effect.{nth_fact}
use Rattle.php_actions.specs.Start.{room_if, first}
use Rattle.php_code.specs.declared.program.Program.{Program}
use Rattle.php_vm.specs.Running.{NeverStuck, control_of}
use Rattle.php_runnable.specs.Arguments.{AreArguments}

-- at the beginning of the script's own part, with this block
abbrev pub first_frame : Block → Frame
first_frame b = record {
  function = 0;
  at = 0;
  line = 1;
  block = b;
  class = None;
  called = None;
  given = None;
  pending = Normal;
  way = Going;
}

-- a run of so many ticks at most, with these arguments, begins with this in that frame
abbrev pub first_data : Program → ℕ → List (List ℕ) → Block → Data
first_data program allowance words b = first program.facts allowance words b.0

-- the script's own part has room for a temporary, and no run is stuck, whatever the allowance, the arguments and the block
pub record IsRunnable (program : Program) : Type 0 where
  pub room : 0 < room_if (nth_fact program.facts.functions 0)
  pub never_stuck : (allowance : ℕ) (words : List (List ℕ)) (b : Block) → AreArguments words → NeverStuck program (first_data program allowance words b) (control_of (first_frame b))
