use Rattle.std.proofs.Common.{◌∙◌, ◌+◌, sym, ap, subst, refl, List}
use Rattle.php_entries.specs.Soundness.{IsKeyBelow}
use Rattle.php_entries.specs.Listing.{KEY_LIMIT}
use Rattle.php_array.specs.Kept.{listing_of, IsKept}
use Rattle.php_array.specs.Slot.{Slot}
use Rattle.php_array.proofs.KeptLemmas.{added-absent, added-kept, added-after}
use Rattle.php_array.proofs.entries.Entries.add.Goals as goal

pub index_entry-requires-clause-absent : goal.index_entry-requires-clause-absent
index_entry-requires-clause-absent g c =
    let i = c.self.inside in
    added-absent i.index i.slots.items i.first i.count i.next_key i.next_serial c.self.invariant c.args.self.now c.self.view_is c.args.key c.requires.absent c.make_room.new.slots.items c.make_room.new.index c.make_room.new.first c.make_room.ensures.packed

pub invariant_of-self-2 : goal.invariant_of-self-2
invariant_of-self-2 g c =
    let i = c.self.inside in
    let fits : IsKeyBelow KEY_LIMIT c.args.key = c.key_above-self-inside.ensures.key_fits in
    subst (λ (ss : List (Slot _)). IsKept c.index_entry.new.index ss c.make_room.new.first (i.count + 1) c.key_above-self-inside.result (c.args.serial + 1)) (sym c.push_reserved.ensures)
    (added-kept i.index i.slots.items i.first i.count i.next_key i.next_serial c.self.invariant c.args.self.now c.self.view_is c.args.key c.requires.absent c.make_room.new.slots.items c.make_room.new.index c.make_room.new.first c.make_room.ensures.packed c.args.value c.args.serial c.key_above-self-inside.result c.requires.later c.requires.within c.requires.room fits c.key_above-self-inside.ensures.value c.index_entry.new.index (c.in-Ok-index_entry.ensures.ok (record { serial = c.args.serial; key = c.args.key; value = c.args.value }) refl))

pub returns-clause-ok : goal.returns-clause-ok
returns-clause-ok g c =
    let i = c.self.inside in
    let fits : IsKeyBelow KEY_LIMIT c.args.key = c.key_above-self-inside.ensures.key_fits in
    ap (λ (ss : List (Slot _)). listing_of ss c.key_above-self-inside.result (c.args.serial + 1)) c.push_reserved.ensures
    ∙ added-after i.index i.slots.items i.first i.count i.next_key i.next_serial c.self.invariant c.args.self.now c.self.view_is c.args.key c.requires.absent c.make_room.new.slots.items c.make_room.new.index c.make_room.new.first c.make_room.ensures.packed c.args.value c.args.serial c.key_above-self-inside.result c.requires.later c.requires.within c.requires.room fits c.key_above-self-inside.ensures.value
