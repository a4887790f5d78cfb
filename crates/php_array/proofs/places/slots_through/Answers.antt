use Rattle.std.proofs.Common.{◌<◌, ◌+◌, ◌-◌, ◌/◌, length, arith}
use Rattle.php_array.proofs.SlotLemmas.{serials_through, serials_behind, serial_at-above}
use Rattle.php_array.proofs.places.slots_through.Goals as goal

pub loop-low-preserved-then-serial : goal.loop-low-preserved-then-serial
loop-low-preserved-then-serial g c =
    let ss = c.args.slots.now.items in
    let middle = c.loop-low.low + (c.loop-low.high - c.loop-low.low) / 2 in
    let within : middle < length ss = omega arith in
    record {
      ordered = omega arith;
      within = c.loop-low.invariant.within;
      through = serials_through ss c.requires.0 middle c.args.serial c.requires.1 within (omega arith);
      behind = c.loop-low.invariant.behind;
    }

pub loop-low-preserved : goal.loop-low-preserved
loop-low-preserved g c =
    let ss = c.args.slots.now.items in
    let middle = c.loop-low.low + (c.loop-low.high - c.loop-low.low) / 2 in
    record {
      ordered = omega arith;
      within = omega arith;
      through = c.loop-low.invariant.through;
      behind = λ i above within. serials_behind ss c.requires.0 middle c.args.serial c.requires.1 (omega arith) i above (omega arith);
    }

pub returns-in-Some-clause-through : goal.returns-in-Some-clause-through
returns-in-Some-clause-through g c =
    serials_through c.args.slots.now.items c.requires.0 c.in-Some.place c.args.serial c.requires.1 (let within = c.in-Some.ensures.within in omega arith) (let same = c.in-Some.ensures.serial in omega arith)

pub returns-in-Some-clause-behind : goal.returns-in-Some-clause-behind
returns-in-Some-clause-behind g c =
    let ss = c.args.slots.now.items in
    λ i behind within.
    let above = serial_at-above 0 ss c.requires.0 c.in-Some.place i c.requires.1 (omega arith) (omega arith) in
    let same = c.in-Some.ensures.serial in
    omega arith
