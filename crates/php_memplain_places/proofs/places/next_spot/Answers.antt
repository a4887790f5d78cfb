use Rattle.std.proofs.Common.{◌∙◌, ap}
use Rattle.php_memdef.specs.Places.{stored_if, step_store_if}
use Rattle.php_memplain_places.proofs.places.next_spot.Goals as goal

pub returns-in-Some : goal.returns-in-Some
returns-in-Some c = c.stored.ensures ∙ ap stored_if (c.step_store.ensures ∙ ap (λ o. step_store_if o c.args.step.now) c.in-Some.ensures)

pub returns-in-None : goal.returns-in-None
returns-in-None c = ap (λ o. stored_if (step_store_if o c.args.step.now)) c.in-None.ensures
