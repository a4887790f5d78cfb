use Rattle.std.specs.Prelude.{◌==◌, ◌||◌, ℕ, List, Bool, min, length}
use Rattle.php_base.specs.Counts.{counted_up, is_listed}

-- a sink in memory: what was written, how much it takes at one call and in all further ones, which
-- calls fail, counted from 1, how many calls there were, and its count of faults
pub record SinkState : Type 0 where
  pub written : List ℕ
  pub step : ℕ
  pub room : ℕ
  pub failing : List ℕ
  pub calls : ℕ
  pub faults : ℕ

-- the next write of bytes fails: its call is listed, or no room is left
abbrev pub write_fails : SinkState → Bool
write_fails sink = is_listed (counted_up sink.calls) sink.failing || (sink.room == 0)

-- how many bytes of a piece the next write takes
abbrev pub taken : SinkState → List ℕ → ℕ
taken sink piece = min (min (length piece) sink.step) sink.room
