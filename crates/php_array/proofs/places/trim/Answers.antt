use Rattle.php_array.proofs.SlotLemmas.{HoldsSame-pop}
use Rattle.php_array.proofs.places.trim.Goals as goal

pub loop-slots-preserved-in-loop-slots-2 : goal.loop-slots-preserved-in-loop-slots-2
loop-slots-preserved-in-loop-slots-2 g c =
    HoldsSame-pop c.args.slots.now.items c.loop-slots.slots.items c.pop.new.self.items c.pop.result c.loop-slots.invariant c.pop.ensures.none c.pop.ensures.some (c.ends_in_hole.ensures.hole c.loop-slots-test.true)
