-- How a run's data goes on. Nothing of this file says what the data is: D is its type, A that of the
-- actions, W that of the completions, and E that of the ways in which a run ends.
use Rattle.std.specs.Prelude.{ℕ, Bool}

-- what a step asks of the frames
pub data Move (D E : Type 0) : Type 0 where
  -- the newest frame goes on behind its action
  Next : (now : D) → Move D E
  -- the newest frame does its action again
  Again : (now : D) → Move D E
  -- a frame of a function begins, under any number that is free, and the newest one waits behind its action
  Enter : (function : ℕ) (is_free : ℕ → Bool) (begun : ℕ → D) → Move D E
  -- the same, but the newest one waits to do its action again
  Ask : (function : ℕ) (is_free : ℕ → Bool) (begun : ℕ → D) → Move D E
  -- the newest frame does all that a function does, without a frame for it, and then its action again
  Inside : (function : ℕ) (now : D) → Move D E
  -- the newest frame is gone
  Leave : (now : D) → Move D E
  -- the newest frame is kept for an object, and the one below it is the newest
  Park : (object : ℕ) (now : D) → Move D E
  -- the frame that is kept for an object is the newest one
  Wake : (object : ℕ) (now : D) → Move D E
  -- the run is over
  End : (ending : E) (now : D) → Move D E
  -- the data isn't as the step needs it
  Wrong : Move D E

-- what the next step is
pub data Plan (D W E : Type 0) : Type 0 where
  -- what the newest frame does next
  Proceed : Plan D W E
  -- a completion is under way, and looks for what serves it
  Complete : (why : W) → Plan D W E
  -- something that no frame asked for, as a release
  Make : (move : Move D E) → Plan D W E

-- a value that was taken as a truth
pub data Truth (D : Type 0) : Type 0 where
  Yes : (now : D) → Truth D
  No : (now : D) → Truth D
  -- no value is there
  NoValue : Truth D

-- what the steps do
pub record Rules (A D W E : Type 0) : Type 0 where
  -- what an action does
  pub effect : A → D → Move D E
  -- what the next step is
  pub plan : D → Plan D W E
  -- takes the value by which the newest frame chooses
  pub truth : D → Truth D
  -- the completion that is under way has come to what serves it
  pub landed : D → D
  -- nothing in the newest frame serves the completion that is under way
  pub unserved : D → Move D E

-- how a run is over
pub data Outcome (D E : Type 0) : Type 0 where
  Ended : (ending : E) (now : D) → Outcome D E
  -- a step found the data not as it needs it
  Stuck : Outcome D E
  -- the numbers that were given for new frames are used up, or one of them isn't free
  Unnumbered : Outcome D E
  -- more steps are needed
  Unfinished : Outcome D E
