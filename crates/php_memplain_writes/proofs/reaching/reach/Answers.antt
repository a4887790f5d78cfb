use Rattle.std.proofs.Common.{refl}
use Rattle.php_memplain_cells.specs.declared.cells.Cells.{Cells}
use Rattle.php_memplain_content.proofs.ContentLemmas.{given_back, seen_again}
use Rattle.php_memplain_writes.proofs.WriteLemmas.{back_same}
use Rattle.php_memplain_writes.proofs.reaching.reach.Goals as goal

pub make_way-requires-clause-nothing : goal.make_way-requires-clause-nothing
make_way-requires-clause-nothing c = (c.new.ensures.items, c.new-2.ensures.items)

pub undo-requires-clause-stores : goal.undo-requires-clause-stores
undo-requires-clause-stores c = (c.args.cells.now.stores, (rw c.in-Ok-Refused.field-0-is at c.in-Ok-Refused.ensures.making).0.stores_grown)

pub undo-requires-clause-objects : goal.undo-requires-clause-objects
undo-requires-clause-objects c = (c.args.cells.now.objects.items, (rw c.in-Ok-Refused.field-0-is at c.in-Ok-Refused.ensures.making).0.objects_grown)

pub undo-requires-in-Err-clause-stores : goal.undo-requires-in-Err-clause-stores
undo-requires-in-Err-clause-stores c = (c.args.cells.now.stores, c.in-Err.ensures.making.stores_grown)

pub undo-requires-in-Err-clause-objects : goal.undo-requires-in-Err-clause-objects
undo-requires-in-Err-clause-objects c = (c.args.cells.now.objects.items, c.in-Err.ensures.making.objects_grown)

pub returns-in-Ok-Refused-clause-reach : goal.returns-in-Ok-Refused-clause-reach
returns-in-Ok-Refused-clause-reach c =
    let s = c.args.cells.now in
    let mid = c.make_way.new.cells in
    let now : Cells = record mid { stores = c.undo.new.stores; objects = c.undo.new.objects } in
    let back = (rw c.in-Ok-Refused.field-0-is at c.in-Ok-Refused.ensures.making).0 in
    let grown = c.undo.ensures.objects s.objects.items back.objects_grown in
    (given_back s now (seen_again s mid now back.seen refl refl grown.seen) c.requires.whole (c.undo.ensures.stores s.stores back.stores_grown) grown, (rw c.in-Ok-Refused.field-0-is at c.in-Ok-Refused.ensures.making).1)

pub returns-in-Err-clause-reach : goal.returns-in-Err-clause-reach
returns-in-Err-clause-reach c =
    let s = c.args.cells.now in
    let mid = c.make_way.new.cells in
    let now : Cells = record mid { stores = c.undo-in-Err.new.stores; objects = c.undo-in-Err.new.objects } in
    let back = c.in-Err.ensures.making in
    let grown = c.undo-in-Err.ensures.objects s.objects.items back.objects_grown in
    given_back s now (seen_again s mid now back.seen refl refl grown.seen) c.requires.whole (c.undo-in-Err.ensures.stores s.stores back.stores_grown) grown

pub returns-in_default-clause-reach : goal.returns-in_default-clause-reach
returns-in_default-clause-reach c = back_same c.args.cells.now c.args.cells.now refl refl refl c.requires.whole
