use Rattle.std.proofs.Common.{arith}
use Rattle.php_array.proofs.SlotLemmas.{serials_through, serial_at-above}
use Rattle.php_array.proofs.places.slots_through_near.Goals as goal

pub returns-then-serial-clause-through : goal.returns-then-serial-clause-through
returns-then-serial-clause-through g c =
    let inside = c.if-near-len.true in
    let here = c.serial.ensures in
    let same = c.if-serial.true in
    serials_through c.args.slots.now.items c.requires.0 c.args.near c.args.serial c.requires.1 (omega arith) (omega arith)

pub returns-then-serial-clause-behind : goal.returns-then-serial-clause-behind
returns-then-serial-clause-behind g c =
    let ss = c.args.slots.now.items in
    let here = c.serial.ensures in
    let same = c.if-serial.true in
    λ i behind within.
    let above = serial_at-above 0 ss c.requires.0 c.args.near i c.requires.1 (omega arith) (omega arith) in
    omega arith
