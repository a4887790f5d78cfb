use Rattle.std.proofs.Common.{sym, ◌∙◌, ◌+◌, ap, arith}
use Rattle.php_memdef.specs.Places.{base_spot, spot_along, find_place}
use Rattle.php_memplain_cells.specs.Memory.{memory_seen}
use Rattle.php_memplain_places.specs.Spots.{spot_seen}
use Rattle.php_memplain_places.proofs.StepLemmas.{lost, found_next, lost_next, all_found}
use Rattle.php_memplain_places.proofs.places.find.Goals as goal

pub returns-in_default : goal.returns-in_default
unfolding find_place
returns-in_default c = lost (memory_seen c.args.cells.now) (base_spot (memory_seen c.args.cells.now) c.args.place.now.base) c.args.place.now.path c.in_default.ensures

pub loop-at-init : goal.loop-at-init
unfolding find_place
loop-at-init c = ap (λ o. spot_along (memory_seen c.args.cells.now) o c.args.place.now.path) c.in-Some.ensures

pub returns-in_default-next_spot : goal.returns-in_default-next_spot
returns-in_default-next_spot c = sym (lost_next (memory_seen c.args.cells.now) (spot_seen c.loop-at.spot) c.args.place.now.path c.loop-at.at c.step.result.now c.step.ensures c.in_default-next_spot.ensures) ∙ c.loop-at.invariant

pub loop-at-preserved : goal.loop-at-preserved
loop-at-preserved c = sym (found_next (memory_seen c.args.cells.now) (spot_seen c.loop-at.spot) c.args.place.now.path c.loop-at.at c.step.result.now c.step.ensures (spot_seen c.in-Some-next_spot.next) c.in-Some-next_spot.ensures (c.loop-at.at + 1) (omega arith)) ∙ c.loop-at.invariant

pub returns : goal.returns
returns c = sym (all_found (memory_seen c.args.cells.now) (spot_seen c.loop-at.spot) c.args.place.now.path c.loop-at.at (omega (arith, c.len-at-end.ensures))) ∙ c.loop-at.invariant
