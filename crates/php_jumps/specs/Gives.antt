-- What a walk gives, whatever stands around that has these numbers.
use Rattle.std.specs.Prelude.{◌≡◌, Bool, Option, List}
use Rattle.php_legality.specs.declared.fault.Fault.{Fault}
use Rattle.php_legality.specs.Statements.{Around}
use Rattle.php_jumps.specs.declared.around.Around as numbers
use Rattle.php_jumps.specs.Counts.{Counts}

abbrev pub Gives : numbers.Around → Option Fault → Option Fault → (List Around → Option Fault → Option Fault) → Type 0
Gives n met result walked = (around : List Around) → Counts n.all n.free around → result ≡ walked around met

abbrev pub Tells : numbers.Around → Bool → (List Around → Bool) → Type 0
Tells n result test = (around : List Around) → Counts n.all n.free around → result ≡ test around
