use Rattle.php_memdef_laws.proofs.Alike.Views.{IsBlock-alike, IsObject-alike, IsPlace-alike}
use Rattle.php_memdef_laws.proofs.names_respect_alike.Goals as goal

pub returns-clause-block : goal.returns-clause-block
returns-clause-block c b m n a h = IsBlock-alike a.to a.back m n a.renamed b h

pub returns-clause-object : goal.returns-clause-object
returns-clause-object c k m n a h = IsObject-alike a.to a.back m n a.renamed k h

pub returns-clause-place : goal.returns-clause-place
returns-clause-place c p m n a h = IsPlace-alike a.to a.back m n a.renamed p h
