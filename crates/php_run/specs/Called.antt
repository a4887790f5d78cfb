-- What a call comes to, before its error text is written.
use Rattle.std.specs.Prelude.{◌≡◌, ℕ, ◌≤◌, List, Option, Some, None}
use Rattle.php_base.specs.Counts.{Rose}
use Rattle.php_base.specs.Files.{File, file_of}
use Rattle.php_base.specs.Streams.{Stream, IsFront, AllWritten}
use Rattle.php_base.specs.Written.{GrewBy}
use Rattle.php_run.specs.Words.{Request}
use Rattle.php_run.specs.Answer.{Answer, no_memory, shelf_fault, write_fault}
use Rattle.php_run.specs.Owed.{IsOwed}

-- It was cut short on its way to this answer: the output is the beginning of the whole.
pub record IsCutShort (whole : Answer) (output : List ℕ) (ticks : ℕ) : Type 0 where
  pub front : IsFront output whole.output
  pub ticks_taken : ticks ≤ whole.ticks

-- How what is to come to such an answer can end, the run of a script or a whole call: the output goes from `out` to `out'`.
pub data CanEnd (IsDue : Answer → Type 0) (out out' : Stream) (answer : Answer) : Type 0 where
  -- as it is to, with all of its output
  finished : IsDue answer → AllWritten answer.output out out' → CanEnd IsDue out out' answer
  -- the output failed
  out_failed : (whole : Answer) → IsDue whole → Rose out.faults out'.faults →
      IsCutShort whole answer.output answer.ticks → GrewBy out.written out'.written answer.output →
      answer ≡ write_fault answer.ticks answer.output → CanEnd IsDue out out' answer
  -- memory was wanted before anything was written; no other cause needs to be there
  starved : answer ≡ no_memory → out' ≡ out → CanEnd IsDue out out' answer

-- The answer that a call comes to: the count of the shelf's faults goes from `shelf` to `shelf'`, and the output from `out` to `out'`.
pub data ComesTo (request : Option Request) (held : Option (List ℕ)) (shelf shelf' : ℕ) (out out' : Stream) (answer : Answer) : Type 0 where
  ends : CanEnd (IsOwed request held) out out' answer → ComesTo request held shelf shelf' out out' answer
  -- the shelf failed; nothing was written
  shelf_failed : (r : Request) → request ≡ Some r → Rose shelf shelf' → answer ≡ shelf_fault r.file → out' ≡ out →
      ComesTo request held shelf shelf' out out' answer

-- Where the shelf tells its files, this is what it has under the name of the request.
abbrev pub IsHeld : Option (List File) → Option Request → Option (List ℕ) → Type 0
IsHeld None request held = Unit {0}
IsHeld (Some files) None held = Unit {0}
IsHeld (Some files) (Some request) held = held ≡ file_of files request.file

-- What a call comes to, where the shelf tells these files or none: there is what it has under the name.
pub record Called (request : Option Request) (files : Option (List File)) (shelf shelf' : ℕ) (out out' : Stream) (answer : Answer) : Type 0 where
  pub held : Option (List ℕ)
  pub is_held : IsHeld files request held
  pub comes_to : ComesTo request held shelf shelf' out out' answer
