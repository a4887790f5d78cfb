-- The data with which a run begins.
use Rattle.std.specs.Prelude.{ℕ, ◌+◌, false, pos, List, [], ◌∷◌, length, Option, Some, None}
use Rattle.php_frames.specs.declared.completion.Completion.TheVariants.{Normal}
use Rattle.php_frames.specs.declared.frame.Way.TheVariants.{Going}
use Rattle.php_value.specs.declared.scalar.Scalar.TheVariants as scalar
use Rattle.php_memdef.specs.declared.place.Step.{Step}
use Rattle.php_memdef.specs.declared.place.Step.TheVariants.{Push}
use Rattle.php_memdef.specs.declared.place.Place.{Place}
use Rattle.php_memdef.specs.Contents.{Mem, fresh}
use Rattle.php_memdef.specs.Temporaries.{enter, push, push_array}
use Rattle.php_memdef.specs.Writes.{assign}
use Rattle.php_memdef.specs.Views.{cost_of}
use Rattle.php_actions.specs.declared.facts.Facts.{Facts}
use Rattle.php_actions.specs.declared.facts.FunctionFact.{FunctionFact}
use Rattle.php_actions.specs.Data.{Frame, Data}
use Rattle.php_actions.specs.Effect.{nth_fact}
use Rattle.php_actions.specs.PlaceForms.{variable}

abbrev pub room_if : Option FunctionFact → ℕ
room_if None = 0
room_if (Some x) = x.room

abbrev pub script_frame : ℕ → Frame
script_frame b = record { function = 0; block = b; line = 1; class = None; called = None; given = None; pending = Normal; way = Going }

-- the variables of the script: its arguments are 0, and their number is 1
abbrev pub variable_place : ℕ → ℕ → List Step → Place
variable_place b n path = record { base = variable b n; path = path }

abbrev pub with_argument : ℕ → List ℕ → Data → Data
with_argument b word d =
    record d {
      mem = (assign (push d.mem b (scalar.Str word)) b (variable_place b 0 (Push ∷ []))).0;
      writes = d.writes + cost_of (push d.mem b (scalar.Str word)) (variable_place b 0 (Push ∷ []));
    }

abbrev pub with_arguments : ℕ → List (List ℕ) → Data → Data
with_arguments b [] d = d
with_arguments b (word ∷ words) d = with_arguments b words (with_argument b word d)

abbrev pub with_count : ℕ → ℕ → Data → Data
with_count b n d = record d { mem = (assign (push d.mem b (scalar.Int (pos n))) b (variable_place b 1 [])).0 }

-- an empty array of arguments, in a new block
abbrev pub begun : ℕ → ℕ → Mem
begun room b = (assign (push_array (enter fresh b room) b) b (variable_place b 0 [])).0

-- a run of this many ticks at most, with these arguments, whose script has this block
abbrev pub first : Facts → ℕ → List (List ℕ) → ℕ → Data
first facts allowance words b =
    with_count b (length words) (with_arguments b words (record {
      mem = begun (room_if (nth_fact facts.functions 0)) b;
      frames = script_frame b ∷ [];
      left = allowance;
      taken = 0;
      out = [];
      writes = 0;
      constants = [];
      ended = false;
      status = 0;
    }))
