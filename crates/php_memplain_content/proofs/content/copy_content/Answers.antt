use Rattle.std.proofs.Common.{refl, ap}
use Rattle.php_memplain_cells.specs.declared.cells.Cells.{Cells}
use Rattle.php_memplain_content.proofs.ContentLemmas.{given_back, seen_again}
use Rattle.php_memplain_content.proofs.content.copy_content.Goals as goal

pub copy_logged-requires-clause-nothing : goal.copy_logged-requires-clause-nothing
copy_logged-requires-clause-nothing c = (c.new.ensures.items, c.new-2.ensures.items)

pub undo-requires-clause-stores : goal.undo-requires-clause-stores
undo-requires-clause-stores c = (c.args.cells.now.stores, c.in-Err.ensures.copy.0.stores_grown)

pub undo-requires-clause-objects : goal.undo-requires-clause-objects
undo-requires-clause-objects c = (c.args.cells.now.objects.items, c.in-Err.ensures.copy.0.objects_grown)

pub returns-in-Err-clause-copy : goal.returns-in-Err-clause-copy
returns-in-Err-clause-copy c =
    let s = c.args.cells.now in
    let mid = c.copy_logged.new.cells in
    let now : Cells = record mid { stores = c.undo.new.stores; objects = c.undo.new.objects } in
    let begun = c.in-Err.ensures.copy in
    let grown = c.undo.ensures.objects s.objects.items begun.0.objects_grown in
    given_back s now (seen_again s mid now begun.1 refl refl grown.seen) c.requires.whole (c.undo.ensures.stores s.stores begun.0.stores_grown) grown
