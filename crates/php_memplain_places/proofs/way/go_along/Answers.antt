use Rattle.std.proofs.Common.{sym, ◌∙◌, ◌+◌, ap, arith}
use Rattle.php_memdef.specs.Places.{base_spot}
use Rattle.php_memdef.specs.Views.{steps_along, end_along}
use Rattle.php_memplain_cells.specs.Memory.{memory_seen}
use Rattle.php_memplain_places.specs.Spots.{spot_seen}
use Rattle.php_memplain_places.proofs.StepLemmas.{lost_steps, lost_end, found_step, found_end, no_further, ends_here, all_steps, all_end}
use Rattle.php_memplain_places.proofs.way.go_along.Goals as goal

pub returns-in_default : goal.returns-in_default
returns-in_default c =
    let m = memory_seen c.args.cells.now in
    let p = c.args.place.now in
    record {
      steps = lost_steps m (base_spot m p.base) p.path c.in_default.ensures;
      end = lost_end m (base_spot m p.base) p.path c.in_default.ensures;
    }

pub loop-at-init : goal.loop-at-init
loop-at-init c =
    let m = memory_seen c.args.cells.now in
    let p = c.args.place.now in
    record {
      steps = omega (arith, ap (λ o. steps_along m o p.path) c.in-Some.ensures);
      end = ap (λ o. end_along m o p.path) c.in-Some.ensures;
    }

pub returns-in_default-next_spot : goal.returns-in_default-next_spot
returns-in_default-next_spot c =
    let m = memory_seen c.args.cells.now in
    let path = c.args.place.now.path in
    let spot = spot_seen c.loop-at.spot in
    record {
      steps = omega (arith, no_further m spot path c.loop-at.at c.step.result.now c.step.ensures c.in_default-next_spot.ensures, c.loop-at.invariant.steps);
      end = sym (ends_here m spot path c.loop-at.at c.step.result.now c.step.ensures c.in_default-next_spot.ensures) ∙ c.loop-at.invariant.end;
    }

pub loop-at-preserved : goal.loop-at-preserved
loop-at-preserved c =
    let m = memory_seen c.args.cells.now in
    let path = c.args.place.now.path in
    let spot = spot_seen c.loop-at.spot in
    let next = spot_seen c.in-Some-next_spot.next in
    record {
      steps = omega (arith, found_step m spot path c.loop-at.at c.step.result.now c.step.ensures next c.in-Some-next_spot.ensures (c.loop-at.at + 1) (omega arith), c.loop-at.invariant.steps);
      end = sym (found_end m spot path c.loop-at.at c.step.result.now c.step.ensures next c.in-Some-next_spot.ensures (c.loop-at.at + 1) (omega arith)) ∙ c.loop-at.invariant.end;
    }

pub returns : goal.returns
returns c =
    let m = memory_seen c.args.cells.now in
    let path = c.args.place.now.path in
    let spot = spot_seen c.loop-at.spot in
    record {
      steps = omega (arith, all_steps m spot path c.loop-at.at (omega (arith, c.len-at-end.ensures)), c.loop-at.invariant.steps, c.len-at-end.ensures, c.len.ensures);
      end = sym (all_end m spot path c.loop-at.at (omega (arith, c.len-at-end.ensures))) ∙ c.loop-at.invariant.end;
    }
