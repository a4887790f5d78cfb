-- What the words of the command line ask for.
use Rattle.std.specs.Prelude.{ℕ, ◌^◌, Bool, false, ◌&&◌, not, ◌==◌, nat_lt, List, [], ◌∷◌, Option, Some, None, codes, if◌then◌else◌}
use Rattle.std.specs.Str.{bytes_eq}
use Rattle.php_run.specs.Numerals.{numeral, is_numeral}
use Rattle.php_run.specs.declared.limits.TheConstants.{DEFAULT_ALLOWANCE}

-- what is to be done with a file
pub data Task : Type 0 where
  -- it is run, with so many ticks at most
  running : ℕ → Task
  -- it is checked alone
  checking : Task

pub record Request : Type 0 where
  pub file : List ℕ
  pub task : Task

-- a name of a file isn't empty, and doesn't begin with `-`
abbrev pub is_file_name : List ℕ → Bool
is_file_name [] = false
is_file_name (b ∷ bs) = not (b == 45)

-- a number of ticks in decimal digits, without a zero at the front, below 2 ^ 64
abbrev pub is_allowance : List ℕ → Bool
is_allowance word = is_numeral word && nat_lt (numeral word) (2 ^ 64)

-- `run FILE`, `check FILE` and `run --steps N FILE`; no other words ask for anything
abbrev pub shape : List (List ℕ) → Option Request
shape (command ∷ file ∷ []) =
    if bytes_eq command (codes "run") && is_file_name file
    then Some (record { file = file; task = running DEFAULT_ALLOWANCE })
    else if bytes_eq command (codes "check") && is_file_name file
    then Some (record { file = file; task = checking })
    else None
shape (command ∷ option ∷ number ∷ file ∷ []) =
    if bytes_eq command (codes "run") && bytes_eq option (codes "--steps") && is_allowance number && is_file_name file
    then Some (record { file = file; task = running (numeral number) })
    else None
shape _ = None
