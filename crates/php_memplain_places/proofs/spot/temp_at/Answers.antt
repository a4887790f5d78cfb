use Rattle.std.proofs.Common.{sym, ◌∙◌, ap, map}
use Rattle.std.specs.Prelude.{reverse}
use Rattle.php_memdef.specs.Contents.{Scope}
use Rattle.php_memdef.specs.Places.{nth_item}
use Rattle.php_memplain_cells.specs.Seen.{item_seen}
use Rattle.php_memplain_cells.proofs.MemoryLemmas.{scope_there}
use Rattle.php_memplain_places.proofs.SlotsLemmas.{block_none}
use Rattle.php_memplain_places.proofs.spot.temp_at.Goals as goal

pub returns-in-Some : goal.returns-in-Some
returns-in-Some c =
    c.nth_temp.ensures
    ∙ ap (λ is. nth_item (map item_seen (reverse is)) c.args.depth) c.as_slice.ensures.value
    ∙ ap (λ (f : Scope). nth_item f.temps c.args.depth) (sym (scope_there c.args.cells.now c.args.block c.in-Some.block.now (sym c.in-Some.ensures)))

pub returns-in-None : goal.returns-in-None
returns-in-None c = ap (λ (f : Scope). nth_item f.temps c.args.depth) (sym (block_none c.args.cells.now c.args.block c.in-None.ensures))
