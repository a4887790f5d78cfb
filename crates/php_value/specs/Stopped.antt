-- Results that want of memory may keep from coming.
use Rattle.std.specs.Prelude.{◌≡◌, Result, Ok, Err}
use Rattle.php_value.specs.declared.fault.Stopped.{Stopped}
use Rattle.php_value.specs.declared.fault.Stopped.TheVariants.{Fault as Ends, Throws, NoMemory}
use Rattle.php_value.specs.declared.scalar.Scalar.{Scalar}

-- the result is what is wanted, unless memory could not be had
abbrev pub IsUnlessNoMemory : Result Scalar Stopped → Result Scalar Stopped → Type 0
IsUnlessNoMemory (Ok v) wanted = Ok v ≡ wanted
IsUnlessNoMemory (Err (Ends f)) wanted = Err (Ends f) ≡ wanted
IsUnlessNoMemory (Err (Throws k)) wanted = Err (Throws k) ≡ wanted
IsUnlessNoMemory (Err NoMemory) wanted = Unit {0}
