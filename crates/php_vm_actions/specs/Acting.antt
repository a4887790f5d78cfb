-- What an action has to do with its effect, over the memories that are meant.
use Rattle.std.specs.Prelude.{◌≡◌, ◌≢◌, ℕ, List, [], ◌++◌, Option}
use Rattle.php_base.specs.Written.{GrewBy, GrewByPart}
use Rattle.php_base.specs.Counts.{Rose}
use Rattle.php_memdef.specs.Contents.{Mem}
use Rattle.php_memdef.specs.Conditions.{IsBlock}
use Rattle.php_frames.specs.declared.frame.Frame.{Frame as FrameWithPlace}
use Rattle.php_machine.specs.Moves.{Next, End, Wrong}
use Rattle.php_actions.specs.Data.{Frame, Data, Move}
use Rattle.php_vm_actions.specs.declared.did.Did.{Did}
use Rattle.php_vm_actions.specs.declared.did.Did.TheVariants.{Goes, Ends, SinkFault, NoMemory}
use Rattle.php_vm_actions.specs.Causes.{ending_of}
use Rattle.php_vm_actions.specs.Straight.{Kept}

-- a frame without its place in the code
abbrev pub frame_of : FrameWithPlace → Frame
frame_of f = record {
  function = f.function;
  block = f.block.0;
  line = f.line;
  class = f.class;
  called = f.called;
  given = f.given;
  pending = f.pending;
  way = f.way;
}

-- the data of a run, whose memory is meant, in the block of its newest frame
pub record Ready (Means : Mem → Type 0) (b : ℕ) (d : Data) : Type 0 where
  pub mem : Means d.mem
  pub block : IsBlock d.mem b
  pub constants : d.constants ≡ []

-- there is data from which this move isn't stuck
pub record CanMove (Means : Mem → Type 0) (b : ℕ) (move : Data → Move) : Type 0 where
  pub here : Data
  pub ready : Ready Means b here
  pub able : move here ≢ Wrong

-- the memory changed, and no more than the count of what was written with it
pub record Follows (New : Mem → Type 0) (d e : Data) : Type 0 where
  pub mem : New e.mem
  pub kept : Kept d.mem e.mem
  pub others : e ≡ record d { mem = e.mem; writes = e.writes }

pub record Comes (New : Mem → Type 0) (d : Data) (move : Move) (put : Data → Move) : Type 0 where
  pub to : Data
  pub is : move ≡ put to
  pub follows : Follows New d to

-- what was done is this move from the data; NoMemory alone says nothing
abbrev pub IsDone : (Mem → Type 0) → Did → Data → Move → Type 0
IsDone New Goes d move = Comes New d move Next
IsDone New (Ends cause) d move = Comes New d move (End (ending_of cause))
IsDone New SinkFault d move = ⊥
IsDone New NoMemory d move = Unit {0}

-- from each data that isn't stuck the move is done
pub record Acts (Old New : Mem → Type 0) (b : ℕ) (did : Did) (move : Data → Move) : Type 0 where
  pub each : (d : Data) → Ready Old b d → move d ≢ Wrong → IsDone New did d (move d)

-- ---- with what is written

-- memory and output changed; the output grew by a text, or failed amid it
pub record Wrote (New : Mem → Type 0) (text : List ℕ) (d e : Data) : Type 0 where
  pub mem : New e.mem
  pub kept : Kept d.mem e.mem
  pub others : e ≡ record d { mem = e.mem; writes = e.writes; out = d.out ++ text }

pub record ComesWriting (New : Mem → Type 0) (before after : Option (List ℕ)) (d : Data) (move : Move) (put : Data → Move) : Type 0 where
  pub to : Data
  pub is : move ≡ put to
  pub text : List ℕ
  pub grew : GrewBy before after text
  pub wrote : Wrote New text d to

pub record FailsWriting (before after : Option (List ℕ)) (d : Data) (move : Move) : Type 0 where
  pub to : Data
  pub is : move ≡ Next to
  pub text : List ℕ
  pub grew : GrewByPart before after text
  pub out : to.out ≡ d.out ++ text
  pub taken : to.taken ≡ d.taken

abbrev pub IsDoneWriting : (Mem → Type 0) → Option (List ℕ) → Option (List ℕ) → Did → Data → Move → Type 0
IsDoneWriting New before after Goes d move = ComesWriting New before after d move Next
IsDoneWriting New before after (Ends cause) d move = ComesWriting New before after d move (End (ending_of cause))
IsDoneWriting New before after SinkFault d move = FailsWriting before after d move
IsDoneWriting New before after NoMemory d move = after ≡ before

pub record ActsWriting (Old New : Mem → Type 0) (before after : Option (List ℕ)) (b : ℕ) (did : Did) (move : Data → Move) : Type 0 where
  pub each : (d : Data) → Ready Old b d → move d ≢ Wrong → IsDoneWriting New before after did d (move d)

-- the count of the sink's faults rose where this is a fault of the sink, and else stayed
abbrev pub CountsFault : Did → ℕ → ℕ → Type 0
CountsFault SinkFault old new = Rose old new
CountsFault Goes old new = new ≡ old
CountsFault (Ends cause) old new = new ≡ old
CountsFault NoMemory old new = new ≡ old
