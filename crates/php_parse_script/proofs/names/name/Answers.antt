use Rattle.std.proofs.Common.{refl}
use Rattle.php_parse_script.proofs.names.name.Goals as goal

pub returns-in_default : goal.returns-in_default
returns-in_default c = (refl, rw c.in_default.is at c.in_ok-name.ensures)

pub returns : goal.returns
returns c = rw c.in-Some.is at c.in_ok-name.ensures
