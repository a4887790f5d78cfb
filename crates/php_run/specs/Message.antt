-- The texts that are written to the error stream.
use Rattle.std.specs.Prelude.{ℕ, List, [], ◌++◌}
use Rattle.std.specs.Fmt.{decimal}
use Rattle.php_run.specs.declared.message.Message.{Message}
use Rattle.php_run.specs.declared.message.Middle.{Middle}
use Rattle.php_run.specs.declared.message.Middle.TheVariants.{Nothing, Name, Line}

abbrev pub middle_of : Middle → List ℕ
middle_of Nothing = []
middle_of (Name name) = name.now
middle_of (Line line) = decimal line

abbrev pub bytes_of : Message → List ℕ
bytes_of message = message.before.now ++ middle_of message.middle ++ message.after.now
