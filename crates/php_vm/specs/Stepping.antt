-- What the parts of a step do.
use Rattle.std.specs.Prelude.{◌≡◌, ◌≢◌, false, ◌&&◌, cond, nat_eq, ℕ, ◌+◌, ◌-◌, List, [], Option, Some, None}
use Rattle.std.proofs.Common.{◌⊎◌}
use Rattle.php_memdef.specs.Contents.{Mem, scope_of}
use Rattle.php_frames.specs.declared.frame.Frame.{Frame as FrameWithPlace}
use Rattle.php_actions.specs.declared.facts.Facts.{Facts}
use Rattle.php_actions.specs.declared.calls.CallAction.TheVariants.{EndBody}
use Rattle.php_actions.specs.declared.jumps.JumpAction.{JumpAction}
use Rattle.php_actions.specs.declared.jumps.JumpAction.TheVariants.{Tick}
use Rattle.php_actions.specs.Calls.{effect_call}
use Rattle.php_actions.specs.Effect.{fact_of, this_if}
use Rattle.php_actions.specs.Frames.{ending, ended, operand_count}
use Rattle.php_memdef.specs.Operations.{Operation}
use Rattle.php_vm_actions.specs.Straight.{CanAll, all, trim_of, sink_of}
use Rattle.php_actions.specs.Steps.{turned, drops}
use Rattle.php_memdef.specs.Views.{temps_count}
use Rattle.php_actions.specs.Data.{Frame, Data, Move, Plan, Truth, by_frame, next_with}
use Rattle.php_actions.specs.Plan.{plan, truth}
use Rattle.php_machine.specs.Moves.{NoValue, Yes, No}
use Rattle.php_code.specs.declared.program.Program.{Program}
use Rattle.php_vm_actions.specs.declared.did.Cause.TheVariants.{Allowance}
use Rattle.php_vm_actions.specs.declared.did.Did.{Did}
use Rattle.php_vm_actions.specs.declared.did.Did.TheVariants.{Goes, Ends, SinkFault, NoMemory}
use Rattle.php_vm.specs.declared.state.State.{State}
use Rattle.php_vm.specs.Running.{Stands, control_of, Comes, NeverStuck}

abbrev pub AnyData : Data → Type 0
AnyData d = Unit {0}

-- nothing has fallen in the newest block
abbrev pub IsQuiet : State → Data → Type 0
IsQuiet s d = (scope_of d.mem s.frame.block.0).falling ≡ []

abbrev pub IsPlanned : Facts → Plan → Data → Type 0
IsPlanned facts p d = plan facts d ≡ p

module _ (program : Program) where
  pub record Released (New : Mem → Type 0) (written before : Option (List ℕ)) (s : State) (d : Data) : Type 0 where
    pub to : Data
    pub comes : Comes program 0 d (control_of s.frame) to (control_of s.frame)
    pub stands : Stands New written before s to
    pub quiet : IsQuiet s to

  -- what had fallen is released
  pub record Releases (Old New : Mem → Type 0) (s : State) : Type 0 where
    pub each : (written before : Option (List ℕ)) (d : Data) → Stands Old written before s d → NeverStuck program d (control_of s.frame) → Released New written before s d

-- the frame is this one now, and the ticks are as they were
abbrev pub IsNow : State → State → FrameWithPlace → Type 0
IsNow old new f = (new.frame ≡ f) × ((new.left ≡ old.left) × (new.taken ≡ old.taken))

-- a tick was taken, or there was none
abbrev pub Ticks : State → State → ℕ → ℕ → Did → Type 0
Ticks old new line at Goes = (old.left ≡ new.left + 1) × ((new.taken ≡ old.taken + 1) × (new.frame ≡ record old.frame { line = line; at = at }))
Ticks old new line at (Ends cause) = (old.left ≡ 0) × ((cause ≡ Allowance) × (new.taken ≡ old.taken))
Ticks old new line at SinkFault = ⊥
Ticks old new line at NoMemory = ⊥

-- the frame goes on there
abbrev pub Passes : State → State → ℕ → Did → Type 0
Passes old new at Goes = IsNow old new (record old.frame { at = at })
Passes old new at (Ends cause) = ⊥
Passes old new at SinkFault = ⊥
Passes old new at NoMemory = new.taken ≡ old.taken

abbrev pub JumpsTo : State → State → JumpAction → ℕ → Did → Type 0
JumpsTo old new (Tick line) at did = Ticks old new line at did

-- a body is at its end
abbrev pub body_ended : Data → Move
body_ended d = by_frame d.frames (λ f fs. effect_call EndBody false f fs d)

-- the end of a frame, and what is left of it where no variable is
abbrev pub frame_ended : Facts → Frame → Data → Move
frame_ended facts f d = ending facts d f []

abbrev pub rest_ended : Facts → Frame → Data → Move
rest_ended facts f d =
    cond (this_if (fact_of facts f) && nat_eq (temps_count d.mem f.block) 2)
    (turned f.block 2 d.mem (λ m. drops f.block 1 m (next_with d)))
    (ended f [] d)

-- ---- a frame that begins to end

-- under the value of its completion so many temporaries fall: operands the highest first, arguments the lowest first
abbrev pub fallen_of : Option ℕ → ℕ → ℕ → List Operation
fallen_of None b n = trim_of b n
fallen_of (Some given) b n = sink_of b n

abbrev pub clearing : Facts → Frame → Mem → List Operation
clearing facts f m = fallen_of f.given f.block (operand_count facts f m - 1)

abbrev pub CanClear : Facts → Frame → Mem → Type 0
CanClear facts f m = CanAll (clearing facts f m) m

abbrev pub cleared_as : Facts → Frame → Mem → Mem
cleared_as facts f m = all (clearing facts f m) m

-- the frame's place is this one
abbrev pub IsAt : State → State → ℕ → Type 0
IsAt old new at = (new.frame.function ≡ old.frame.function) × (new.frame.at ≡ at)

-- ---- a choice by the value on top

pub record Chosen (New : Mem → Type 0) (written before : Option (List ℕ)) (s : State) (t : Truth) (put : Data → Truth) : Type 0 where
  pub to : Data
  pub is : t ≡ put to
  pub stands : Stands New written before s to

abbrev pub IsChosen : (Mem → Type 0) → Option (List ℕ) → Option (List ℕ) → State → State → ℕ → Truth → Did → Type 0
IsChosen New written before old new by t Goes =
    (IsAt old new (old.frame.at + 1) × Chosen New written before new t Yes) ⊎ (IsAt old new (old.frame.at + 1 + by) × Chosen New written before new t No)
IsChosen New written before old new by t (Ends cause) = ⊥
IsChosen New written before old new by t SinkFault = ⊥
IsChosen New written before old new by t NoMemory = new.taken ≡ old.taken

pub record Chooses (Old New : Mem → Type 0) (old new : State) (by : ℕ) (did : Did) : Type 0 where
  pub each : (written before : Option (List ℕ)) (d : Data) → Stands Old written before old d → truth d ≢ NoValue → IsChosen New written before old new by (truth d) did

pub record MayChoose (Means : Mem → Type 0) (s : State) : Type 0 where
  pub written : Option (List ℕ)
  pub before : Option (List ℕ)
  pub here : Data
  pub stands : Stands Means written before s here
  pub able : truth here ≢ NoValue
