-- What a comparison comes to.
use Rattle.std.specs.Prelude.{Bool, true, false, Result, Ok, Err}
use Rattle.php_value.specs.declared.fault.Fault.{Fault}
use Rattle.php_value.specs.declared.fault.Stopped.{Stopped}
use Rattle.php_value.specs.declared.fault.Stopped.TheVariants.{Fault as Ends}
use Rattle.php_value.specs.declared.ordering.Order.{Order}
use Rattle.php_value.specs.declared.ordering.Order.TheVariants.{Less, Same, More, Apart}

-- an order, or the fault or the thrown error that comes in its place
abbrev pub Compared : Type 0
Compared = Result Order Stopped

-- whether two are identical, or what comes in its place
abbrev pub Identified : Type 0
Identified = Result Bool Stopped

-- what comes first decides, unless it is the same
abbrev pub unless_same : Compared → Compared → Compared
unless_same (Ok Same) rest = rest
unless_same (Ok Less) rest = Ok Less
unless_same (Ok More) rest = Ok More
unless_same (Ok Apart) rest = Ok Apart
unless_same (Err stop) rest = Err stop

-- what comes first decides, unless it is identical
abbrev pub and_then : Identified → Identified → Identified
and_then (Ok true) rest = rest
and_then (Ok false) rest = Ok false
and_then (Err stop) rest = Err stop

-- of scalars, whose faults end the run
abbrev pub or_ends : Result Order Fault → Compared
or_ends (Ok o) = Ok o
or_ends (Err f) = Err (Ends f)
