-- How a run ends by each cause.
use Rattle.std.specs.Prelude.{pos}
use Rattle.php_actions.specs.declared.ending.Ending.{Ending}
use Rattle.php_actions.specs.declared.ending.Ending.TheVariants.{Done, Fatal, Uncaught, Cut}
use Rattle.php_actions.specs.Errors.{class_of, message_of}
use Rattle.php_vm_actions.specs.declared.did.Cause.{Cause}
use Rattle.php_vm_actions.specs.declared.did.Cause.TheVariants.{Status, Fault, Error, Allowance}

abbrev pub ending_of : Cause → Ending
ending_of (Status n) = Done n
ending_of (Fault x line) = Fatal x line
ending_of (Error kind name line) = Uncaught (class_of kind) (message_of kind name) (pos line)
ending_of Allowance = Cut
