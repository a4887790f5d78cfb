use Rattle.std.proofs.Common.{refl}
use Rattle.php_memplain_cells.specs.declared.cells.Cells.{Cells}
use Rattle.php_memplain_content.proofs.ContentLemmas.{given_back, seen_again}
use Rattle.php_memplain_objects.proofs.cloning.make_clone.Goals as goal

pub clone_logged-requires-clause-nothing : goal.clone_logged-requires-clause-nothing
clone_logged-requires-clause-nothing c = (c.new.ensures.items, c.new-2.ensures.items)

pub undo-requires-clause-stores : goal.undo-requires-clause-stores
undo-requires-clause-stores c = (c.args.cells.now.stores, c.in-Err.ensures.no_memory.0.stores_grown)

pub undo-requires-clause-objects : goal.undo-requires-clause-objects
undo-requires-clause-objects c = (c.args.cells.now.objects.items, c.in-Err.ensures.no_memory.0.objects_grown)

pub returns-in-Err-clause-no_memory : goal.returns-in-Err-clause-no_memory
returns-in-Err-clause-no_memory c =
    let s = c.args.cells.now in
    let mid = c.clone_logged.new.cells in
    let now : Cells = record mid { stores = c.undo.new.stores; objects = c.undo.new.objects } in
    let begun = c.in-Err.ensures.no_memory in
    let grown = c.undo.ensures.objects s.objects.items begun.0.objects_grown in
    given_back s now (seen_again s mid now begun.1 refl refl grown.seen) c.requires (c.undo.ensures.stores s.stores begun.0.stores_grown) grown
