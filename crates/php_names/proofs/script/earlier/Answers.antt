use Rattle.std.proofs.Common.{◌++◌, sym, subst}
use Rattle.php_legality.specs.Legality.{IsFirstOf}
use Rattle.php_names.proofs.JoinLemmas.{first_alone, first_of_both}
use Rattle.php_names.proofs.script.earlier.Goals as goal

pub returns-in-None : goal.returns-in-None
returns-in-None c = λ script kinds others of_one of_other.
    first_alone script kinds others c.args.one of_one (subst (IsFirstOf others script) c.in-None.is of_other)

pub returns-in-Some : goal.returns-in-Some
returns-in-Some c = λ script kinds others of_one of_other.
    subst (IsFirstOf (kinds ++ others) script) (sym c.sooner.ensures)
    (first_of_both script kinds others c.args.one c.in-Some.fault of_one (subst (IsFirstOf others script) c.in-Some.is of_other))
