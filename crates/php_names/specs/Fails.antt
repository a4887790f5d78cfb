-- What the check says of a script that isn't legal.
use Rattle.std.specs.Prelude.{ℕ, Option, Some, None}
use Rattle.php_ast.specs.expression.View.{Note}
use Rattle.php_ast.specs.declaration.Tree.{Script}
use Rattle.php_legality.specs.declared.kind.Kind.{Kind}
use Rattle.php_legality.specs.declared.kind.Kind.TheVariants as kind
use Rattle.php_legality.specs.declared.fault.Fault.{Fault}
use Rattle.php_legality.specs.Legality.{IsFirstFault}
use Rattle.php_names.specs.declared.fail.NameFail.{NameFail}
use Rattle.php_names.specs.declared.fail.NameFail.TheVariants as fail

-- a fault of a kind, by the line and the place of its token
abbrev at_token : Kind → ℕ → ℕ → Option Fault
at_token kind_of line place = Some (record { kind = kind_of; spot = record { place = place; line = line } })

-- the fault that a failure tells; want of memory tells none
abbrev pub fault_of : NameFail → Option Fault
fault_of (fail.NotAPlace line place) = at_token kind.NoPlace line place
fault_of (fail.BadBreak line place) = at_token kind.BadBreak line place
fault_of (fail.JumpFromFinally line place) = at_token kind.JumpFromFinally line place
fault_of (fail.Duplicate line place) = at_token kind.Duplicate line place
fault_of (fail.BadConstant line place) = at_token kind.NoConstant line place
fault_of (fail.BadList line place) = at_token kind.BadList line place
fault_of (fail.BadUse line place) = at_token kind.BadUse line place
fault_of (fail.TooManyNames line place) = at_token kind.TooManyNames line place
fault_of fail.NoMemory = None

-- It is the first fault of the script, where there is one.
abbrev pub IsFirstIfAny : Script Note → Option Fault → Type 0
IsFirstIfAny script None = Unit {0}
IsFirstIfAny script (Some fault) = IsFirstFault script fault

-- The failure tells the first fault of the script.
abbrev pub TellsFirst : Script Note → NameFail → Type 0
TellsFirst script failure = IsFirstIfAny script (fault_of failure)
