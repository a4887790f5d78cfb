use Rattle.std.proofs.Common.{◌∙◌, sym, ap}
use Rattle.php_array.specs.Slot.{SlotList}
use Rattle.php_array.proofs.HeadLemmas.{popped-parts}
use Rattle.php_array.proofs.slots.Slots.pop.Goals as goal

pub returns-clause-some : goal.returns-clause-some
returns-clause-some g c =
    let i = c.self.inside in
    ap (λ (l : SlotList _). l.items) (sym c.self.view_is)
    ∙ popped-parts i.heads.items c.pop-2.new.self.items i.values.items c.pop.new.self.items c.in-Some-pop.head c.in-Some.value c.self.invariant c.in-Some-pop.ensures.items c.in-Some.ensures.items
