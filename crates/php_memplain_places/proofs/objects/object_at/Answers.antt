use Rattle.std.proofs.Common.{◌∙◌, ◌-◌, arith}
use Rattle.php_memplain_places.proofs.SlotsLemmas.{object_there, object_past, object_none}
use Rattle.php_memplain_places.proofs.objects.object_at.Goals as goal

pub returns-then-number-eq0 : goal.returns-then-number-eq0
returns-then-number-eq0 c = object_none c.args.objects.now c.args.number (omega arith)

pub returns-then-place-objects : goal.returns-then-place-objects
returns-then-place-objects c = c.object_in.ensures ∙ object_there c.args.objects.now c.args.number _ c.index-objects-place.result (omega arith) (omega arith) c.index-objects-place.is

pub returns-else-place-objects : goal.returns-else-place-objects
returns-else-place-objects c = object_past c.args.objects.now c.args.number (c.args.number - 1) (omega arith) (omega arith)
