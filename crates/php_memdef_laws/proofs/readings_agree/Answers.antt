use Rattle.php_memdef_laws.proofs.ReadLemmas.{reading-renamed, reading-found}
use Rattle.php_memdef_laws.proofs.readings_agree.Goals as goal

pub returns-clause-alike : goal.returns-clause-alike
returns-clause-alike c manner p m n a = reading-renamed a.to a.back m n a.renamed manner p

pub returns-clause-found : goal.returns-clause-found
returns-clause-found c manner p m x e = reading-found manner m p x e
