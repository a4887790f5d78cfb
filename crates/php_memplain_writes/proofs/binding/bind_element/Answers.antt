use Rattle.std.proofs.Common.{refl}
use Rattle.php_memplain_cells.specs.declared.cells.Cells.{Cells}
use Rattle.php_memplain_content.proofs.ContentLemmas.{given_back, seen_again}
use Rattle.php_memplain_writes.proofs.WriteLemmas.{back_same}
use Rattle.php_memplain_writes.proofs.binding.bind_element.Goals as goal

pub returns-in_default-clause-points : goal.returns-in_default-clause-points
returns-in_default-clause-points c = back_same c.args.cells.now c.args.cells.now refl refl refl c.requires.whole

pub returns-in_default-go_along-clause-points : goal.returns-in_default-go_along-clause-points
returns-in_default-go_along-clause-points c = back_same c.args.cells.now c.args.cells.now refl refl refl c.requires.whole

pub bind_way-requires-clause-nothing : goal.bind_way-requires-clause-nothing
bind_way-requires-clause-nothing c = (c.new.ensures.items, c.new-2.ensures.items)

pub undo-requires-clause-stores : goal.undo-requires-clause-stores
undo-requires-clause-stores c = (c.args.cells.now.stores, c.in-Refused.ensures.binding.0.stores_grown)

pub undo-requires-clause-objects : goal.undo-requires-clause-objects
undo-requires-clause-objects c = (c.args.cells.now.objects.items, c.in-Refused.ensures.binding.0.objects_grown)

pub undo-requires-in-NoMemory-clause-stores : goal.undo-requires-in-NoMemory-clause-stores
undo-requires-in-NoMemory-clause-stores c = (c.args.cells.now.stores, c.in-NoMemory.ensures.binding.stores_grown)

pub undo-requires-in-NoMemory-clause-objects : goal.undo-requires-in-NoMemory-clause-objects
undo-requires-in-NoMemory-clause-objects c = (c.args.cells.now.objects.items, c.in-NoMemory.ensures.binding.objects_grown)

pub returns-in-Refused-clause-points : goal.returns-in-Refused-clause-points
returns-in-Refused-clause-points c =
    let s = c.args.cells.now in
    let mid = c.bind_way.new.cells in
    let now : Cells = record mid { stores = c.undo.new.stores; objects = c.undo.new.objects } in
    let back = c.in-Refused.ensures.binding.0 in
    let grown = c.undo.ensures.objects s.objects.items back.objects_grown in
    (given_back s now (seen_again s mid now back.seen refl refl grown.seen) c.requires.whole (c.undo.ensures.stores s.stores back.stores_grown) grown, c.in-Refused.ensures.binding.1)

pub returns-clause-points : goal.returns-clause-points
returns-clause-points c =
    let s = c.args.cells.now in
    let mid = c.bind_way.new.cells in
    let now : Cells = record mid { stores = c.undo-in-NoMemory.new.stores; objects = c.undo-in-NoMemory.new.objects } in
    let back = c.in-NoMemory.ensures.binding in
    let grown = c.undo-in-NoMemory.ensures.objects s.objects.items back.objects_grown in
    given_back s now (seen_again s mid now back.seen refl refl grown.seen) c.requires.whole (c.undo-in-NoMemory.ensures.stores s.stores back.stores_grown) grown
