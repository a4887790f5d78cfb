use Rattle.php_memdef_laws.proofs.Alike.Memories.{Alike-refl, Alike-sym, Alike-trans}
use Rattle.php_memdef_laws.proofs.alike_is_an_equivalence.Goals as goal

pub returns-clause-reflexive : goal.returns-clause-reflexive
returns-clause-reflexive c = Alike-refl

pub returns-clause-symmetric : goal.returns-clause-symmetric
returns-clause-symmetric c = Alike-sym

pub returns-clause-transitive : goal.returns-clause-transitive
returns-clause-transitive c = Alike-trans
