-- The data of a run. It says nothing of what is still to be done.
use Rattle.std.specs.Prelude.{ℕ, Bool, List, [], ◌∷◌, Option}
use Rattle.php_frames.specs.declared.completion.Completion.{Completion}
use Rattle.php_frames.specs.declared.frame.Way.{Way}
use Rattle.php_memdef.specs.Contents.{Mem}
use Rattle.php_machine.specs.Moves.{Move as AnyMove, Plan as AnyPlan, Truth as AnyTruth, Next, Wrong}
use Rattle.php_actions.specs.declared.ending.Ending.{Ending}

-- a call that hasn't ended
pub record Frame : Type 0 where
  pub function : ℕ
  pub block : ℕ
  -- of the statement that is run; while the frame is entered, that of the call
  pub line : ℕ
  -- the classes that declare the function, and through which it was called
  pub class : Option ℕ
  pub called : Option ℕ
  -- with how many arguments it is being entered
  pub given : Option ℕ
  -- the completion that is under way, and how far it has come; its value is the top temporary
  pub pending : Completion
  pub way : Way

pub record Data : Type 0 where
  pub mem : Mem
  -- the newest first
  pub frames : List Frame
  -- ticks that are left, and that were taken
  pub left : ℕ
  pub taken : ℕ
  pub out : List ℕ
  -- array entries that writes have made at most
  pub writes : ℕ
  -- names of constants that were defined, in order
  pub constants : List (List ℕ)
  -- the script's own part is over, and with which status
  pub ended : Bool
  pub status : ℕ

abbrev pub Move : Type 0
Move = AnyMove Data Ending

abbrev pub Plan : Type 0
Plan = AnyPlan Data Completion Ending

abbrev pub Truth : Type 0
Truth = AnyTruth Data

abbrev pub with_mem : Data → Mem → Data
with_mem d m = record d { mem = m }

-- the data with so many ticks left
abbrev pub with_left : ℕ → Data → Data
with_left n d = record d { left = n }

-- the data with another newest frame
abbrev pub with_newest : Data → Frame → List Frame → Data
with_newest d f others = record d { frames = f ∷ others }

-- the newest frame and those below it decide
abbrev pub by_frame : List Frame → (Frame → List Frame → Move) → Move
by_frame [] go = Wrong
by_frame (f ∷ fs) go = go f fs

-- goes on with a memory, where the operation may be made
abbrev pub on : Bool → Mem → (Mem → Move) → Move
on Bool.true m go = go m
on Bool.false m go = Wrong

abbrev pub next_with : Data → Mem → Move
next_with d m = Next (with_mem d m)
