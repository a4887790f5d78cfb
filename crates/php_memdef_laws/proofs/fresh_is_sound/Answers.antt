use Rattle.php_memdef_laws.proofs.FreshLemmas.{fresh-sound, fresh-alike}
use Rattle.php_memdef_laws.proofs.fresh_is_sound.Goals as goal

pub returns-clause-sound : goal.returns-clause-sound
returns-clause-sound c = fresh-sound

pub returns-clause-alike : goal.returns-clause-alike
returns-clause-alike c = fresh-alike
