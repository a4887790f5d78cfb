use Rattle.std.proofs.Common.{◌++◌}
use Rattle.php_memdef.specs.Contents.{Scope}
use Rattle.php_memdef.specs.Temporaries.{fallen}
use Rattle.php_memplain_cells.specs.Seen.{item_seen}
use Rattle.php_memplain_writes.proofs.BlockLemmas.{scope_changed}
use Rattle.php_memplain_writes.proofs.moving.fall.Goals as goal

pub returns-clause-seen : goal.returns-clause-seen
returns-clause-seen c = scope_changed c.args.cells.now c.args.block c.index_mut.result.now c.index_mut.ensures.value c.fall_last.new.block (λ (x : Scope). record x { falling = x.falling ++ fallen (item_seen c.args.item) }) c.fall_last.ensures
