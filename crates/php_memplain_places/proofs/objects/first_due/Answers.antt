use Rattle.std.proofs.Common.{sym, ◌∙◌, ◌+◌, arith}
use Rattle.php_memplain_places.proofs.SlotsLemmas.{due_found, due_later, none_due}
use Rattle.php_memplain_places.proofs.objects.first_due.Goals as goal

pub returns-then-is_due : goal.returns-then-is_due
returns-then-is_due c = due_found c.args.slots.now c.loop-place.place (c.loop-place.place + 1) c.index-slots-place.result _ (omega arith) c.index-slots-place.is c.loop-place.invariant (sym c.is_due.ensures ∙ c.if-is_due.true)

pub loop-place-preserved : goal.loop-place-preserved
loop-place-preserved c = due_later c.args.slots.now c.loop-place.place (c.loop-place.place + 1) c.index-slots-place.result _ (omega arith) c.index-slots-place.is c.loop-place.invariant (sym c.is_due.ensures ∙ c.if-is_due.false) (c.loop-place.place + 1 + 1) (omega arith)

pub returns : goal.returns
returns c = none_due c.args.slots.now c.loop-place.place (c.loop-place.place + 1) _ (omega arith) c.loop-place.invariant
