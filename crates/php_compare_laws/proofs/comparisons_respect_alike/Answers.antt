use Rattle.php_compare_laws.proofs.AlikeLemmas.{order_at-renamed, same_at-renamed}
use Rattle.php_compare_laws.proofs.comparisons_respect_alike.Goals as goal

pub returns-clause-order : goal.returns-clause-order
returns-clause-order c p q m n a = order_at-renamed a.to a.back m n a.renamed 257 p q

pub returns-clause-identity : goal.returns-clause-identity
returns-clause-identity c p q m n a = same_at-renamed a.to a.back m n a.renamed 257 p q
