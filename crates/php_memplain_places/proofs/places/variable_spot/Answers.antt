use Rattle.std.proofs.Common.{sym, ◌∙◌, ap, map}
use Rattle.php_memdef.specs.Contents.{Scope}
use Rattle.php_memdef.specs.Places.{variable_store, stored_if}
use Rattle.php_memplain_cells.specs.Seen.{variable_seen}
use Rattle.php_memplain_cells.proofs.MemoryLemmas.{scope_there}
use Rattle.php_memplain_places.proofs.SlotsLemmas.{block_none}
use Rattle.php_memplain_places.proofs.places.variable_spot.Goals as goal

pub returns-in-Some : goal.returns-in-Some
returns-in-Some c =
    c.stored.ensures
    ∙ ap stored_if (c.variable_store.ensures
    ∙ ap (λ vs. variable_store (map variable_seen vs) c.args.name) c.as_slice.ensures.value
    ∙ ap (λ (f : Scope). variable_store f.variables c.args.name) (sym (scope_there c.args.cells.now c.args.block c.in-Some.block.now (sym c.in-Some.ensures))))

pub returns-in-None : goal.returns-in-None
returns-in-None c = ap (λ (f : Scope). stored_if (variable_store f.variables c.args.name)) (sym (block_none c.args.cells.now c.args.block c.in-None.ensures))
