-- What effects are made of.
use Rattle.std.specs.Prelude.{ℕ, zero, suc, ◌+◌, Bool, not, is_some, cond, nat_eq, List, [], ◌∷◌, ◌++◌, take, drop, reverse, Option, Some, None, pos}
use Rattle.php_value.specs.declared.fault.Fault.{Fault}
use Rattle.php_value.specs.declared.fault.Fault.TheVariants.{ArrayLimit}
use Rattle.php_value.specs.declared.fault.Stopped.{Stopped}
use Rattle.php_value.specs.declared.fault.Stopped.TheVariants.{Fault as Ends, Throws, NoMemory}
use Rattle.php_value.specs.declared.scalar.Scalar.{Scalar}
use Rattle.php_value.specs.declared.error_kind.ErrorKind.{ErrorKind}
use Rattle.php_value.specs.declared.error_kind.TheConstants.ErrorKind.{NOT_AN_ARRAY, NO_KEY_LEFT}
use Rattle.php_memdef.specs.declared.place.Base.TheVariants.{Temp}
use Rattle.php_memdef.specs.declared.place.Step.{Step}
use Rattle.php_memdef.specs.declared.place.Place.{Place}
use Rattle.php_memdef.specs.declared.answer.Read.{Read}
use Rattle.php_memdef.specs.declared.answer.Read.TheVariants.{Found, Absent}
use Rattle.php_memdef.specs.declared.answer.Wrote.{Wrote}
use Rattle.php_memdef.specs.declared.answer.Wrote.TheVariants.{Done, NotArray, Full, Limit}
use Rattle.php_memdef.specs.Contents.{Content, Mem, scope_of}
use Rattle.php_memdef.specs.Places.{Spot, content_at, base_spot, next_spot, elements_to_write}
use Rattle.php_memdef.specs.Temporaries.{push, copy, turn, drop_top}
use Rattle.php_memdef.specs.Writes.{assign}
use Rattle.php_memdef.specs.Views.{found, cost_of}
use Rattle.php_memdef.specs.Reading.{Reading, gives, throws as throws_kind, Manner, reading}
use Rattle.php_machine.specs.Moves.{End, Wrong}
use Rattle.php_actions.specs.declared.ending.Ending.TheVariants.{Fatal, Uncaught}
use Rattle.php_actions.specs.Data.{Frame, Data, Move, on}
use Rattle.php_actions.specs.Errors.{class_of, message_of}
use Rattle.php_actions.specs.Contents.{type_name, scalar_of}
use Rattle.php_memdef.specs.Operations as op
use Rattle.php_memdef.specs.Deciders.{can}

-- the place of the n-th temporary from the top
abbrev pub temp : ℕ → ℕ → Place
temp b n = record { base = Temp (record { 0 = b }) n; path = [] }

-- what that temporary holds, or the store that it is a link to
abbrev pub operand : Mem → ℕ → ℕ → Option Content
operand m b n = found m (temp b n)

abbrev pub turned : ℕ → ℕ → Mem → (Mem → Move) → Move
turned b n m go = on (can (op.turn b n) m) (turn m b n) go

-- n temporaries fall, the top first
abbrev pub drops : ℕ → ℕ → Mem → (Mem → Move) → Move
drops b zero m go = go m
drops b (suc n) m go = on (can (op.drop_top b) m) (drop_top m b) (λ m'. drops b n m' go)

-- the n temporaries under the top fall, the lowest first
abbrev pub sink : ℕ → ℕ → Mem → (Mem → Move) → Move
sink b zero m go = go m
sink b (suc n) m go = turned b (suc (suc n)) m (λ m'. drops b (suc n) m' go)

-- the n temporaries under the top fall, the highest first
abbrev pub trim : ℕ → ℕ → Mem → (Mem → Move) → Move
trim b zero m go = go m
trim b (suc n) m go = turned b (suc (suc n)) m (λ m'. turned b (suc n) m' (λ m''. drops b (suc n) m'' go))

abbrev pub pushed : ℕ → Scalar → Mem → (Mem → Move) → Move
pushed b v m go = on (can (op.push b v) m) (push m b v) go

-- the n top temporaries fall, the lowest of them first, and a value comes
abbrev pub replaced : ℕ → ℕ → Scalar → Mem → (Mem → Move) → Move
replaced b n v m go = turned b n m (λ m'. drops b n m' (λ m''. pushed b v m'' go))

-- a fault ends the run on the line of the newest frame
abbrev pub fault : Fault → Frame → Data → Move
fault x f d = End (Fatal x f.line) d

-- an error of this kind, about something of this name, leaves the script
abbrev pub throws : ErrorKind → List ℕ → Frame → Data → Move
throws kind name f d = End (Uncaught (class_of kind) (message_of kind name) (pos f.line)) d

abbrev pub throws_about : ErrorKind → Option (List ℕ) → Frame → Data → Move
throws_about kind None f d = Wrong
throws_about kind (Some name) f d = throws kind name f d

-- about a value of the type of a content
abbrev pub throws_type : ErrorKind → Content → Frame → Data → Move
throws_type kind c f d = throws_about kind (type_name c) f d

abbrev pub stopped : Stopped → Frame → Data → Move
stopped (Ends x) f d = fault x f d
stopped (Throws kind) f d = throws kind [] f d
stopped NoMemory f d = Wrong

-- what stops a write: the first content on the way that is neither null nor an array

abbrev pub stops_write : Content → Bool
stops_write c = not (is_some (elements_to_write c))

abbrev pub blocking_along : Mem → Option Spot → List Step → Option Content
blocking_along m spot [] = None
blocking_along m None (step ∷ path) = None
blocking_along m (Some spot) (step ∷ path) = cond (stops_write (content_at m spot)) (Some (content_at m spot)) (blocking_along m (next_spot m (Some spot) step) path)

abbrev pub blocking : Mem → Place → Option Content
blocking m p = blocking_along m (base_spot m p.base) p.path

abbrev pub throws_blocked : Option Content → Frame → Data → Move
throws_blocked None f d = Wrong
throws_blocked (Some c) f d = throws_type NOT_AN_ARRAY c f d

-- a write to a place that was made, or what it raises
abbrev pub written : Mem × Wrote → Place → Frame → Data → (Data → Move) → Move
written (m, Done) p f d go = go (record d { mem = m; writes = d.writes + cost_of d.mem p })
written (m, NotArray) p f d go = throws_blocked (blocking d.mem p) f d
written (m, Full) p f d go = throws NO_KEY_LEFT [] f d
written (m, Limit) p f d go = fault ArrayLimit f d

-- the top temporary moves into a place
abbrev pub assigns : Place → Frame → Data → (Data → Move) → Move
assigns p f d go = cond (can (op.assign f.block p) d.mem) (written (assign d.mem f.block p) p f d go) Wrong

-- a copy of what a place was read as: of what it holds, or, where it is missing, of what stands for it
abbrev pub copied_or_pushed : Mem × Read → ℕ → Option Scalar → Mem → (Mem → Move) → Move
copied_or_pushed (m', Found) b v m go = go m'
copied_or_pushed (m', Absent) b None m go = Wrong
copied_or_pushed (m', Absent) b (Some v) m go = pushed b v m go

-- only an object throws `NOT_AN_ARRAY` when it is read, and its class's name isn't known here
abbrev pub read_as : Reading → Place → Frame → Data → (Mem → Move) → Move
read_as (gives c) p f d go = cond (can (op.copy f.block p) d.mem) (copied_or_pushed (copy d.mem f.block p) f.block (scalar_of c) d.mem go) Wrong
read_as (throws_kind kind) p f d go = cond (nat_eq kind.0 NOT_AN_ARRAY.0) Wrong (throws kind [] f d)

-- what a place is read as comes on top
abbrev pub reads : Manner → Place → Frame → Data → (Mem → Move) → Move
reads manner p f d go = read_as (reading manner d.mem p) p f d go
