use Rattle.php_memdef_laws.proofs.RestLemmas.{EqualAtRest-refl, EqualAtRest-sym, EqualAtRest-trans, alike_rest}
use Rattle.php_memdef_laws.proofs.rest_is_an_equivalence.Goals as goal

pub returns-clause-reflexive : goal.returns-clause-reflexive
returns-clause-reflexive c = EqualAtRest-refl

pub returns-clause-symmetric : goal.returns-clause-symmetric
returns-clause-symmetric c = EqualAtRest-sym

pub returns-clause-transitive : goal.returns-clause-transitive
returns-clause-transitive c = EqualAtRest-trans

pub returns-clause-alike : goal.returns-clause-alike
returns-clause-alike c = alike_rest
