-- How frames end.
use Rattle.std.specs.Prelude.{ℕ, zero, suc, ◌-◌, nat_eq, Bool, true, false, ◌&&◌, cond, List, [], ◌∷◌, Option, Some, None}
use Rattle.php_frames.specs.declared.completion.Completion.{Completion}
use Rattle.php_frames.specs.declared.completion.Completion.TheVariants.{Normal, Break, Continue, Return, Throw, Exit}
use Rattle.php_frames.specs.declared.frame.Way.TheVariants.{Going, Landed, Ending}
use Rattle.php_memdef.specs.Contents.{Mem}
use Rattle.php_memdef.specs.Temporaries.{pass, leave}
use Rattle.php_memdef.specs.Writes.{shed}
use Rattle.php_memdef.specs.Views.{temps_count}
use Rattle.php_machine.specs.Moves.{Next, Leave, End, Wrong}
use Rattle.php_actions.specs.declared.facts.Facts.{Facts}
use Rattle.php_actions.specs.declared.ending.Ending.TheVariants.{Done}
use Rattle.php_actions.specs.Data.{Frame, Data, Move, with_mem, with_newest, by_frame, on, next_with}
use Rattle.php_memdef.specs.Operations as op
use Rattle.php_memdef.specs.Deciders.{can}
use Rattle.php_actions.specs.Steps.{turned, drops, sink, trim}
use Rattle.php_actions.specs.Effect.{fact_of, this_if}

-- `$this` is no operand
abbrev pub operand_count : Facts → Frame → Mem → ℕ
operand_count facts f m = cond (this_if (fact_of facts f)) (temps_count m f.block - 1) (temps_count m f.block)

-- what stands under the value of a completion falls: operands the highest first, and arguments that weren't
-- bound yet, of which the last one stands lowest, the lowest first
abbrev pub cleared : Option ℕ → ℕ → ℕ → Mem → (Mem → Move) → Move
cleared None b n m go = trim b n m go
cleared (Some given) b n m go = sink b n m go

abbrev pub unserved_in : Facts → Data → Frame → List Frame → Move
unserved_in facts d f fs =
    cleared f.given f.block (operand_count facts f d.mem - 1) d.mem (λ m. Next (with_newest (with_mem d m) (record f { way = Ending }) fs))

-- nothing in the newest frame serves its completion: it begins to end
unfoldable pub unserved : Facts → Data → Move
unserved facts d = by_frame d.frames (unserved_in facts d)

abbrev pub landed_frames : List Frame → List Frame
landed_frames [] = []
landed_frames (f ∷ fs) = record f { way = Landed } ∷ fs

-- the completion has come to what serves it
unfoldable pub landed : Data → Data
landed d = record d { frames = landed_frames d.frames }

-- a return is the result of the call, and any other completion goes on in the caller
abbrev pub passed_to : Completion → Frame → Frame
passed_to Return g = g
passed_to why g = record g { pending = why; way = Going }

-- the value goes to the caller, and the block is gone
abbrev pub handed : Frame → Frame → List Frame → Data → Move
handed f g fs d =
    on (can (op.pass f.block g.block) d.mem) (pass d.mem f.block g.block) (λ m.
    on (can (op.leave f.block) m) (leave m f.block) (λ m'. Leave (with_newest (with_mem d m') (passed_to f.pending g) fs)))

-- how the run of a script ends by these isn't said yet
abbrev pub is_untold : Completion → Bool
is_untold Normal = false
is_untold (Break n) = false
is_untold (Continue n) = false
is_untold Return = false
is_untold Throw = true
is_untold (Exit n) = true

-- the script's value falls, and then the run is over
abbrev pub value_fallen : ℕ → Frame → Data → Move
value_fallen (suc n) f d = drops f.block 1 d.mem (next_with d)
value_fallen zero f d = End (Done d.status) d

-- something that is thrown would need an object, and `exit` gives a status of its own
abbrev pub script_ended : Completion → ℕ → Frame → Data → Move
script_ended why n f d = cond (is_untold why) Wrong (value_fallen n f d)

abbrev pub ended : Frame → List Frame → Data → Move
ended f [] d = script_ended f.pending (temps_count d.mem f.block) f d
ended f (g ∷ fs) d = handed f g fs d

-- one step of the end of a frame: a variable goes, the oldest first; then `$this`; then the frame
abbrev pub after_shed : Mem × Bool → Bool → Frame → List Frame → Data → Move
after_shed (m, true) has_this f fs d = next_with d m
after_shed (m, false) has_this f fs d =
    cond (has_this && nat_eq (temps_count d.mem f.block) 2)
    (turned f.block 2 d.mem (λ m'. drops f.block 1 m' (next_with d)))
    (ended f fs d)

abbrev pub ending : Facts → Data → Frame → List Frame → Move
ending facts d f fs = cond (can (op.shed f.block) d.mem) (after_shed (shed d.mem f.block) (this_if (fact_of facts f)) f fs d) Wrong
