-- The memory with which a run begins.
use Rattle.std.specs.Prelude.{◌≡◌, ℕ, pos, List, [], ◌∷◌, length, map, string_bytes}
use Rattle.std.specs.declared.string.String.{String}
use Rattle.std.specs.declared.alloc.Global.{Global}
use Rattle.php_value.specs.declared.scalar.Scalar.TheVariants as scalar
use Rattle.php_memdef.specs.declared.place.Step.TheVariants.{Push}
use Rattle.php_memdef.specs.Contents.{Mem, fresh}
use Rattle.php_memdef.specs.Operations.{Operation, effect}
use Rattle.php_memdef.specs.Operations as op
use Rattle.php_frames.specs.declared.frame.Frame.{Frame}
use Rattle.php_actions.specs.Start.{variable_place}
use Rattle.php_vm_actions.specs.Straight.{all}
use Rattle.php_runnable_code.specs.Runnable.{first_frame}

-- words as lists of bytes
abbrev pub bytes_of : List (String Global) → List (List ℕ)
bytes_of = map (λ word. string_bytes word)

-- an array without elements becomes variable 0
abbrev pub array_set : ℕ → List Operation
array_set b = op.push_array b ∷ op.assign b (variable_place b 0 []) ∷ []

-- a word moves behind all elements of the array
abbrev pub word_added : ℕ → List ℕ → List Operation
word_added b word = op.push b (scalar.Str word) ∷ op.assign b (variable_place b 0 (Push ∷ [])) ∷ []

-- each of the words does, the first one first
abbrev pub words_added : ℕ → List (List ℕ) → List Operation
words_added b [] = []
words_added b (word ∷ words) = op.push b (scalar.Str word) ∷ op.assign b (variable_place b 0 (Push ∷ [])) ∷ words_added b words

-- so many words become variable 1
abbrev pub count_set : ℕ → ℕ → List Operation
count_set b n = op.push b (scalar.Int (pos n)) ∷ op.assign b (variable_place b 1 []) ∷ []

-- what is made in a new block with so much room
abbrev pub first_memory : ℕ → List (List ℕ) → ℕ → Mem
first_memory room words b = all (count_set b (length words)) (all (words_added b words) (all (array_set b) (effect (op.enter b room) fresh)))

-- this is the frame in which a run with these arguments begins, and the memory can be taken for the first one with that
-- frame's block
pub record HasBegun (Means : Mem → Type 0) (room : ℕ) (words : List (List ℕ)) (f : Frame) : Type 0 where
  pub frame : f ≡ first_frame f.block
  pub mem : Means (first_memory room words f.block.0)
