-- Reading and assigning variables.
use Rattle.std.specs.Prelude.{◌≡◌, ℕ, Bool, true, false, []}
use Rattle.php_value.specs.declared.error_kind.TheConstants.ErrorKind.{NO_THIS}
use Rattle.php_frames.specs.declared.frame.Frame.{Frame as FrameWithPlace}
use Rattle.php_vm_actions.specs.declared.did.Did.{Did}
use Rattle.php_vm_actions.specs.declared.did.Did.TheVariants.{Ends, NoMemory}
use Rattle.php_vm_actions.specs.declared.did.Cause.TheVariants.{Error}
use Rattle.php_memdef.specs.declared.place.Place.{Place}
use Rattle.php_memdef.specs.Operations as op
use Rattle.php_memdef.specs.Deciders.{can}
use Rattle.php_memdef.specs.Temporaries.{copy}
use Rattle.php_memdef.specs.Reading.{loud}
use Rattle.php_actions.specs.Data.{Frame, Data, Move, with_mem, on, next_with}
use Rattle.php_actions.specs.Steps.{temp, reads, assigns}
use Rattle.php_actions.specs.PlaceForms.{variable}

abbrev pub place_of : ℕ → ℕ → Place
place_of b name = record { base = variable b name; path = [] }

abbrev pub variable_read : ℕ → Frame → Data → Move
variable_read name f d = reads loud (place_of f.block name) f d (next_with d)

-- the value on top moves into the variable
abbrev pub variable_written : ℕ → Frame → Data → Move
variable_written name f d = assigns (place_of f.block name) f d (λ d'. next_with d' d'.mem)

-- a copy of the value on top moves into the variable
abbrev pub variable_assigned : ℕ → Frame → Data → Move
variable_assigned name f d =
    on (can (op.copy f.block (temp f.block 0)) d.mem) (copy d.mem f.block (temp f.block 0)).0 (λ m. variable_written name f (with_mem d m))

-- without `$this` that is an error, and with it nothing is told yet
abbrev pub IsNoThis : FrameWithPlace → Bool → Did → Type 0
IsNoThis f false did = did ≡ Ends (Error NO_THIS [] f.line)
IsNoThis f true did = did ≡ NoMemory
