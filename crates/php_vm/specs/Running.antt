-- How the machine over a memory stands in a run of the code, and what a step of it does there.
use Rattle.std.specs.Prelude.{◌≡◌, ◌≢◌, ℕ, zero, suc, ◌≤◌, List, [], ◌∷◌, Option}
use Rattle.php_base.specs.Written.{GrewBy}
use Rattle.php_memdef.specs.Contents.{Mem}
use Rattle.php_memdef.specs.Conditions.{IsBlock}
use Rattle.php_frames.specs.declared.frame.Frame.{Frame as FrameWithPlace}
use Rattle.php_machine.specs.Moves.{Next, End, Wrong, Outcome, Ended, Stuck}
use Rattle.php_machine.specs.Machine.{run}
use Rattle.php_machine.specs.Outputs.{Begins}
use Rattle.php_actions.specs.declared.ending.Ending.{Ending}
use Rattle.php_actions.specs.Data.{Data, Move}
use Rattle.php_actions.specs.Plan.{rules}
use Rattle.php_code.specs.declared.program.Program.{Program}
use Rattle.php_code.specs.Code.{Place, place, code}
use Rattle.php_vm_actions.specs.declared.did.Did.{Did}
use Rattle.php_vm_actions.specs.declared.did.Did.TheVariants.{Goes, Ends, SinkFault, NoMemory}
use Rattle.php_vm.specs.declared.state.State.{State}
use Rattle.php_vm_actions.specs.Causes.{ending_of}
use Rattle.php_vm_actions.specs.Acting.{frame_of}

-- the control of a run that stands in this frame alone
abbrev pub control_of : FrameWithPlace → List (List Place)
control_of f = (place f.function f.at ∷ []) ∷ []

-- memory, sink and state stand as in this data, where the sink had `before` at first
pub record Stands (Means : Mem → Type 0) (written before : Option (List ℕ)) (s : State) (d : Data) : Type 0 where
  pub mem : Means d.mem
  pub told : GrewBy before written d.out
  pub left : d.left ≡ s.left
  pub taken : d.taken ≡ s.taken
  pub frames : d.frames ≡ frame_of s.frame ∷ []
  pub constants : d.constants ≡ []
  pub status : d.status ≡ 0
  pub block : IsBlock d.mem s.frame.block.0

-- the run is over with this data
pub record IsLast (Means : Mem → Type 0) (written before : Option (List ℕ)) (ticks : ℕ) (d : Data) : Type 0 where
  pub mem : Means d.mem
  pub told : GrewBy before written d.out
  pub taken : d.taken ≡ ticks

-- the output is the beginning of what this data has
pub record IsCutShort (written before : Option (List ℕ)) (ticks : ℕ) (d : Data) : Type 0 where
  pub sent : List ℕ
  pub told : GrewBy before written sent
  pub begins : Begins sent d.out
  pub taken : d.taken ≡ ticks

-- ---- moves

pub record Puts (P : Data → Type 0) (move : Move) (put : Data → Move) : Type 0 where
  pub to : Data
  pub is : move ≡ put to
  pub holds : P to

abbrev pub IsMoved : (Mem → Type 0) → Option (List ℕ) → Option (List ℕ) → State → Did → Data → Move → Type 0
IsMoved New written before s Goes d move = Puts (Stands New written before s) move Next
IsMoved New written before s (Ends cause) d move = Puts (IsLast New written before s.taken) move (End (ending_of cause))
IsMoved New written before s SinkFault d move = Puts (IsCutShort written before s.taken) move Next
IsMoved New written before s NoMemory d move = IsCutShort written before s.taken d

-- from each data in which the machine stood, the move is done where it isn't stuck
pub record Moves (Old New : Mem → Type 0) (written_old written_new : Option (List ℕ)) (s_old s_new : State) (did : Did) (move : Data → Move) : Type 0 where
  pub each : (before : Option (List ℕ)) (d : Data) → Stands Old written_old before s_old d → move d ≢ Wrong → IsMoved New written_new before s_new did d (move d)

-- the machine stands in data from which the move isn't stuck
pub record MayMove (Means : Mem → Type 0) (s : State) (move : Data → Move) : Type 0 where
  pub written : Option (List ℕ)
  pub before : Option (List ℕ)
  pub here : Data
  pub stands : Stands Means written before s here
  pub able : move here ≢ Wrong

-- what holds where the frame goes on
abbrev pub IfGoes : Did → Type 0 → Type 0
IfGoes Goes P = P
IfGoes (Ends cause) P = Unit {0}
IfGoes SinkFault P = Unit {0}
IfGoes NoMemory P = Unit {0}

-- ---- runs

module _ (program : Program) where
  abbrev pub runs_from : ℕ → List ℕ → Data → List (List Place) → Outcome Data Ending
  runs_from n ns d cs = run (rules program.facts) (code program) n ns d cs []

  -- one step leads there
  abbrev pub NextIs : Data → List (List Place) → Data → List (List Place) → Type 0
  NextIs d cs e bs = (n : ℕ) (ns : List ℕ) → runs_from (suc n) ns d cs ≡ runs_from n ns e bs

  -- so many steps lead there
  abbrev pub LeadsIn : ℕ → Data → List (List Place) → Data → List (List Place) → Type 0
  LeadsIn zero d cs f zs = (d ≡ f) × (cs ≡ zs)
  LeadsIn (suc k) d cs f zs = (e : Data) × ((bs : List (List Place)) × (NextIs d cs e bs × LeadsIn k e bs f zs))

  -- no run from here is stuck
  abbrev pub NeverStuck : Data → List (List Place) → Type 0
  NeverStuck d cs = (n : ℕ) (ns : List ℕ) → runs_from n ns d cs ≢ Stuck

  -- the next step ends the run
  abbrev pub EndsNow : Data → List (List Place) → Ending → Data → Type 0
  EndsNow d cs ending e = (n : ℕ) (ns : List ℕ) → runs_from (suc n) ns d cs ≡ Ended ending e

  -- some steps lead there, at least so many
  pub record Comes (least : ℕ) (d : Data) (cs : List (List Place)) (e : Data) (bs : List (List Place)) : Type 0 where
    pub steps : ℕ
    pub enough : least ≤ steps
    pub way : LeadsIn steps d cs e bs

  pub record GoesOn (New : Mem → Type 0) (written before : Option (List ℕ)) (s : State) (d : Data) (cs : List (List Place)) : Type 0 where
    pub to : Data
    pub comes : Comes 1 d cs to (control_of s.frame)
    pub stands : Stands New written before s to

  pub record IsOverNow (New : Mem → Type 0) (written before : Option (List ℕ)) (s : State) (ending : Ending) (d : Data) (cs : List (List Place)) : Type 0 where
    pub at : Data
    pub control : List (List Place)
    pub to : Data
    pub comes : Comes 0 d cs at control
    pub ends : EndsNow at control ending to
    pub last : IsLast New written before s.taken to

  pub record StopsShort (written before : Option (List ℕ)) (s : State) (d : Data) (cs : List (List Place)) : Type 0 where
    pub to : Data
    pub control : List (List Place)
    pub comes : Comes 0 d cs to control
    pub short : IsCutShort written before s.taken to

  abbrev pub IsStepped : (Mem → Type 0) → Option (List ℕ) → Option (List ℕ) → State → Did → Data → List (List Place) → Type 0
  IsStepped New written before s Goes d cs = GoesOn New written before s d cs
  IsStepped New written before s (Ends cause) d cs = IsOverNow New written before s (ending_of cause) d cs
  IsStepped New written before s SinkFault d cs = StopsShort written before s d cs
  IsStepped New written before s NoMemory d cs = StopsShort written before s d cs

  -- from each data in which the machine stood, and which satisfies P, a step is done
  pub record Steps (P : Data → Type 0) (Old New : Mem → Type 0) (written_old written_new : Option (List ℕ)) (s_old s_new : State) (did : Did) : Type 0 where
    pub each : (before : Option (List ℕ)) (d : Data) → Stands Old written_old before s_old d → P d → NeverStuck d (control_of s_old.frame)
        → IsStepped New written_new before s_new did d (control_of s_old.frame)

  -- the machine stands in data that satisfies P, from which no run is stuck
  pub record CanStep (P : Data → Type 0) (Means : Mem → Type 0) (s : State) : Type 0 where
    pub written : Option (List ℕ)
    pub before : Option (List ℕ)
    pub here : Data
    pub stands : Stands Means written before s here
    pub holds : P here
    pub never_stuck : NeverStuck here (control_of s.frame)
