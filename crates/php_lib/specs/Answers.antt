-- What a call comes to, unless memory could not be had.
use Rattle.std.specs.Prelude.{◌≡◌, Result, Ok, Err}
use Rattle.php_value.specs.declared.fault.Stopped.{Stopped}
use Rattle.php_value.specs.declared.fault.Stopped.TheVariants.{Fault as Ends, Throws, NoMemory}

module _ {A : Type 0} where
  abbrev pub ComesTo : Result A Stopped → Result A Stopped → Type 0
  ComesTo (Ok a) wanted = Ok a ≡ wanted
  ComesTo (Err (Ends fault)) wanted = Err (Ends fault) ≡ wanted
  ComesTo (Err (Throws kind)) wanted = Err (Throws kind) ≡ wanted
  ComesTo (Err NoMemory) wanted = Unit {0}
