-- What a walk over statements or parts leaves of a sink, held against what is to be written.
use Rattle.std.specs.Prelude.{◌≡◌, ℕ, ◌≤◌, true, false, List, [], Option, Some, None}
use Rattle.php_base.specs.Streams.{Stream, AllWritten, BrokenOff}
use Rattle.php_first_run.specs.Running.{Effect, Outcome, Ending, completed, overflowed, cut_off}
use Rattle.php_first_run.specs.declared.value.Value.{Value}
use Rattle.php_first_run.specs.declared.walking.Stop.{Stop}
use Rattle.php_first_run.specs.declared.walking.Stop.TheVariants.{Done, Overflow, Cut, SinkFault}
use Rattle.php_first_run.specs.declared.walking.Step as Step
use Rattle.php_first_run.specs.declared.walking.Step.TheVariants as step

-- A part of a statement was written, or it overflowed and nothing was, or the sink failed in it.
abbrev pub Writes : Option (List ℕ) → Step.Step → Stream → Stream → Type 0
Writes text step.Done old new = (bytes : List ℕ) × (text ≡ Some bytes) × AllWritten bytes old new
Writes text step.Overflow old new = (text ≡ None) × (new ≡ old)
Writes text step.SinkFault old new = (bytes : List ℕ) × (text ≡ Some bytes) × BrokenOff bytes old new

-- an assignment did what its effect says, and wrote nothing
abbrev pub Assigns : Effect → Step.Step → List Value → Type 0
Assigns effect step.Done values = (effect.overflows ≡ false) × (values ≡ effect.values) × (effect.bytes ≡ [])
Assigns effect step.Overflow values = (effect.overflows ≡ true) × (effect.bytes ≡ [])
Assigns effect step.SinkFault values = ⊥

-- a statement did what its effect says, or the sink failed in it
abbrev pub Executes : Effect → Step.Step → List Value → Stream → Stream → Type 0
Executes effect step.Done values old new = (effect.overflows ≡ false) × (values ≡ effect.values) × AllWritten effect.bytes old new
Executes effect step.Overflow values old new = (effect.overflows ≡ true) × AllWritten effect.bytes old new
Executes effect step.SinkFault values old new = BrokenOff effect.bytes old new

-- the run came to its end, and all of its output went out
pub record Ends (whole : Outcome) (ending : Ending) (ticks : ℕ) (old new : Stream) : Type 0 where
  pub ended : whole.ending ≡ ending
  pub ticks_taken : whole.ticks ≡ ticks
  pub output : AllWritten whole.output old new

-- the sink failed on the way
pub record Breaks (whole : Outcome) (ticks : ℕ) (old new : Stream) : Type 0 where
  pub ticks_taken : ticks ≤ whole.ticks
  pub output : BrokenOff whole.output old new

-- The run went as the outcome says, or the sink failed on the way.
abbrev pub Walks : Outcome → Stop → ℕ → Stream → Stream → Type 0
Walks whole Done ticks old new = Ends whole completed ticks old new
Walks whole (Overflow line) ticks old new = Ends whole (overflowed line) ticks old new
Walks whole Cut ticks old new = Ends whole cut_off ticks old new
Walks whole SinkFault ticks old new = Breaks whole ticks old new
