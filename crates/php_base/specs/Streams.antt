-- What a sink tells of itself at one moment, and what a call left of it, held against what is to be written.
use Rattle.std.specs.Prelude.{◌≡◌, ℕ, List, ◌++◌, Option}
use Rattle.php_base.specs.Counts.{Rose}
use Rattle.php_base.specs.Written.{GrewBy}

-- a sink at one moment: what it tells of what was written, and its count of faults
pub record Stream : Type 0 where
  pub written : Option (List ℕ)
  pub faults : ℕ

-- the stream of a sink at one moment, by the two ghost functions of its trait
abbrev pub stream_of : {T : Type 0} → (T → Option (List ℕ)) → (T → ℕ) → T → Stream
stream_of written faults sink = record { written = written sink; faults = faults sink }

-- the bytes begin with these
abbrev pub IsFront : List ℕ → List ℕ → Type 0
IsFront front bytes = (rest : List ℕ) × (front ++ rest ≡ bytes)

-- all of the bytes went out, and the sink did not fail
pub record AllWritten (bytes : List ℕ) (old new : Stream) : Type 0 where
  pub grew : GrewBy old.written new.written bytes
  pub no_fault : new.faults ≡ old.faults

-- the sink failed, and bytes from the front of those went out
pub record BrokenOff (bytes : List ℕ) (old new : Stream) : Type 0 where
  pub fault : Rose old.faults new.faults
  pub front : List ℕ
  pub is_front : IsFront front bytes
  pub grew : GrewBy old.written new.written front
