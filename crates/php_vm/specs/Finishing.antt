-- How a whole run of the machine over a memory ends.
use Rattle.std.specs.Prelude.{◌≡◌, ◌≤◌, ℕ, List, [], ◌∷◌, Option}
use Rattle.php_base.specs.Counts.{Rose}
use Rattle.php_memdef.specs.Contents.{Mem}
use Rattle.php_memdef.specs.Conditions.{IsBlock}
use Rattle.php_frames.specs.declared.frame.Frame.{Frame as FrameWithPlace}
use Rattle.php_machine.specs.Moves.{Ended}
use Rattle.php_machine.specs.Outputs.{Begins}
use Rattle.php_actions.specs.declared.ending.Ending.{Ending}
use Rattle.php_actions.specs.Data.{Data}
use Rattle.php_code.specs.declared.program.Program.{Program}
use Rattle.php_code.specs.Code.{Place}
use Rattle.php_vm_actions.specs.Causes.{ending_of}
use Rattle.php_vm_actions.specs.Acting.{frame_of}
use Rattle.php_vm.specs.declared.stop.Stop.{Stop}
use Rattle.php_vm.specs.declared.stop.Stop.TheVariants.{Ends, SinkFault, NoMemory}
use Rattle.php_vm.specs.Running.{runs_from, Comes, IsLast, IsCutShort}

-- a run of so many ticks at most begins with this data, in this frame alone, before anything was written
pub record BeginsWith (Means : Mem → Type 0) (frame : FrameWithPlace) (allowance : ℕ) (d : Data) : Type 0 where
  pub mem : Means d.mem
  pub out : d.out ≡ []
  pub left : d.left ≡ allowance
  pub taken : d.taken ≡ 0
  pub frames : d.frames ≡ frame_of frame ∷ []
  pub constants : d.constants ≡ []
  pub status : d.status ≡ 0
  pub block : IsBlock d.mem frame.block.0

module _ (program : Program) (first : Data) (cs : List (List Place)) where
  -- the run of the code ends so, whatever the numbers for frames
  pub record EndsSo (New : Mem → Type 0) (written before : Option (List ℕ)) (ticks : ℕ) (ending : Ending) : Type 0 where
    pub steps : ℕ
    pub to : Data
    pub ends : (ns : List ℕ) → runs_from program steps ns first cs ≡ Ended ending to
    pub last : IsLast New written before ticks to

  -- the run was left at data to which it leads: what was written is how the output of the whole run begins, and no more
  -- ticks were taken than it takes
  pub record IsLeft (written before : Option (List ℕ)) (ticks : ℕ) : Type 0 where
    pub to : Data
    pub control : List (List Place)
    pub comes : Comes program 0 first cs to control
    pub short : IsCutShort written before ticks to
    pub begins : (n : ℕ) (ns : List ℕ) (ending : Ending) (e : Data) → runs_from program n ns first cs ≡ Ended ending e → Begins short.sent e.out
    pub no_more_ticks : (n : ℕ) (ns : List ℕ) (ending : Ending) (e : Data) → runs_from program n ns first cs ≡ Ended ending e → ticks ≤ e.taken

  abbrev pub Finishes : (Mem → Type 0) → Option (List ℕ) → Option (List ℕ) → ℕ → Stop → Type 0
  Finishes New written before ticks (Ends cause) = EndsSo New written before ticks (ending_of cause)
  Finishes New written before ticks SinkFault = IsLeft written before ticks
  Finishes New written before ticks NoMemory = IsLeft written before ticks

-- the count of the sink's faults rose where this is a fault of the sink, and else stayed
abbrev pub StopFaults : Stop → ℕ → ℕ → Type 0
StopFaults (Ends cause) old new = new ≡ old
StopFaults SinkFault old new = Rose old new
StopFaults NoMemory old new = new ≡ old
