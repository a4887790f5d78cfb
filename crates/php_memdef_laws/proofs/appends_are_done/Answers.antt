use Rattle.php_memdef_laws.proofs.AppendLemmas.{append_is_done}
use Rattle.php_memdef_laws.proofs.appends_are_done.Goals as goal

pub returns : goal.returns
returns c = λ m b to bytes can. append_is_done m b to can bytes
