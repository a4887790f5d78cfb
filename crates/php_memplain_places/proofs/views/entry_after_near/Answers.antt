use Rattle.std.proofs.Common.{◌∙◌, ap}
use Rattle.php_memdef.specs.Views.{entry_if_later}
use Rattle.php_memplain_places.proofs.views.entry_after_near.Goals as goal

pub returns-in-Some : goal.returns-in-Some
returns-in-Some c = c.first_behind_near.ensures ∙ ap (λ o. entry_if_later o c.args.serial) c.in-Some.ensures

pub returns-in-None : goal.returns-in-None
returns-in-None c = ap (λ o. entry_if_later o c.args.serial) c.in-None.ensures
