use Rattle.std.proofs.Common.{◌∙◌, ap, arith, length, List}
use Rattle.php_array.specs.Slot.{Slot}
use Rattle.php_array.specs.Slots.{stored_at}
use Rattle.php_array.proofs.PlaceLemmas.{stored-within}
use Rattle.php_array.proofs.SlotLemmas.{stored_at-vacated, length_slots-vacated}
use Rattle.php_array.proofs.indexing.vacate.Goals as goal

pub drop_key-requires-clause-within : goal.drop_key-requires-clause-within
drop_key-requires-clause-within g c =
    let within = stored-within c.args.place c.args.slots.now.items c.requires in
    let same = ap (λ (ss : List (Slot _)). length ss) c.take-value.ensures.after in
    let len = length_slots-vacated c.args.place c.args.slots.now.items in
    omega arith

pub drop_key-requires-clause-hole : goal.drop_key-requires-clause-hole
drop_key-requires-clause-hole g c =
    ap (stored_at c.args.place) c.take-value.ensures.after ∙ (stored_at-vacated c.args.place 0 c.args.slots.now.items).0
