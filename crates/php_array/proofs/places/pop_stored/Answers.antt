use Rattle.std.proofs.Common.{ap}
use Rattle.std.specs.Prelude.{Option}
use Rattle.php_array.specs.Slot.{slot_of}
use Rattle.php_array.specs.Slots.{stored_in}
use Rattle.php_array.proofs.SlotLemmas.{HoldsSame-step}
use Rattle.php_array.proofs.places.pop_stored.Goals as goal

pub loop-serial-preserved-in_default-slot : goal.loop-serial-preserved-in_default-slot
loop-serial-preserved-in_default-slot g c =
    HoldsSame-step c.args.slots.now.items c.loop-serial.slots.items c.pop.new.self.items (slot_of c.in-Some.serial c.in-Some.key c.in-Some.slot) c.loop-serial.invariant c.in-Some.ensures.some
    (ap (λ (o : Option _). stored_in (slot_of c.in-Some.serial c.in-Some.key o)) c.in_default-slot.is)

pub loop-serial-preserved-in_default-slot-2 : goal.loop-serial-preserved-in_default-slot-2
loop-serial-preserved-in_default-slot-2 g c =
    HoldsSame-step c.args.slots.now.items c.loop-serial.slots.items c.pop.new.self.items (slot_of c.in-Some.serial c.in-Some.key c.in-Some.slot) c.loop-serial.invariant c.in-Some.ensures.some
    (ap (λ (o : Option _). stored_in (slot_of c.in-Some.serial c.in-Some.key o)) c.in_default-slot.is)

pub loop-serial-preserved : goal.loop-serial-preserved
loop-serial-preserved g c =
    HoldsSame-step c.args.slots.now.items c.loop-serial.slots.items c.pop.new.self.items (slot_of c.in-Some.serial c.in-Some.key c.in-Some.slot) c.loop-serial.invariant c.in-Some.ensures.some
    (ap (λ (o : Option _). stored_in (slot_of c.in-Some.serial c.in-Some.key o)) c.in_default-slot.is)
