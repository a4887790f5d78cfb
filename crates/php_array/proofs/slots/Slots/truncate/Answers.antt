use Rattle.std.proofs.Common.{◌∙◌, List, take, ap}
use Rattle.std.specs.Prelude.{Option}
use Rattle.php_array.specs.Slot.{SlotList}
use Rattle.php_array.specs.Heads.{slots_of}
use Rattle.php_array.specs.declared.slots.Head.{Head}
use Rattle.php_array.proofs.HeadLemmas.{slots_of-take}
use Rattle.php_array.proofs.slots.Slots.truncate.Goals as goal

pub returns : goal.returns
returns g c =
    let i = c.self.inside in
    ap (λ (hs : List Head). slots_of hs c.truncate-2.new.self.items) c.truncate.ensures.items
    ∙ ap (λ (vs : List (Option _)). slots_of (take c.args.len i.heads.items) vs) c.truncate-2.ensures.items
    ∙ slots_of-take c.args.len i.heads.items i.values.items
    ∙ ap (λ (l : SlotList _). take c.args.len l.items) c.self.view_is
